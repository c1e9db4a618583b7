use Rattle.std.proofs.Common.{◌≡◌, ◌∙◌, ap}
use Rattle.shared.specs.Passes.{Shows, shows}
use Rattle.shared.proofs.Visits.{same_follows, looked, took_nothing, are_numbers, are_entries}
use Rattle.shared.proofs.store.Store.numbers.Given as given
use Rattle.shared.proofs.store.Store.numbers.Goals as goal

pub make_visit-requires-clause-follows : goal.make_visit-requires-clause-follows
make_visit-requires-clause-follows g c = λ x y reply can did. same_follows x.0.value y.0.value did.unchanged

store_is : (g : given.Over) (c : goal.After-make_visit g) → (shows c.pass.inside.seat c.pass.inside.who).store ≡ c.args.self.now
store_is g c = ap (λ (v : Shows). v.store) c.pass.view_is ∙ c.requires

pub invariant_of-pass : goal.invariant_of-pass
invariant_of-pass g c =
    let v = c.make_visit.ensures.visited in
    (looked c.pass.inside.seat c.make_visit.new.seat c.make_visit.result c.pass.invariant v v.did.unchanged).pass

pub returns-clause-holds : goal.returns-clause-holds
returns-clause-holds g c = are_numbers c.pass.inside.seat c.make_visit.new.seat c.pass.inside.who c.make_visit.result c.args.self.now (store_is g c) c.pass.invariant c.make_visit.ensures.visited

pub returns-clause-entries : goal.returns-clause-entries
returns-clause-entries g c = are_entries c.pass.inside.seat c.make_visit.new.seat c.pass.inside.who c.make_visit.result c.args.self.now (store_is g c) c.pass.invariant c.make_visit.ensures.visited

pub returns-clause-takes : goal.returns-clause-takes
returns-clause-takes g c =
    let v = c.make_visit.ensures.visited in
    took_nothing c.pass.inside.seat c.make_visit.new.seat c.make_visit.result c.pass.invariant v c.pass.inside.who c.args.pass.now c.pass.view_is v.did.unchanged
