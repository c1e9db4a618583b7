use Rattle.std.specs.Option.{option_map}
use Rattle.shared.proofs.Visits.{same_follows, looked, took_nothing, is_planned}
use Rattle.shared.proofs.store.Store.plan_part.Goals as goal

pub make_visit-requires-clause-follows : goal.make_visit-requires-clause-follows
make_visit-requires-clause-follows g c = λ x y reply can did. same_follows x.0.value y.0.value did.unchanged

pub invariant_of-pass : goal.invariant_of-pass
invariant_of-pass g c =
    let v = c.make_visit.ensures.visited in
    (looked c.pass.inside.seat c.make_visit.new.seat c.make_visit.result c.pass.invariant v v.did.unchanged).pass

pub returns-clause-ok : goal.returns-clause-ok
returns-clause-ok g c = is_planned c.pass.inside.seat c.make_visit.new.seat (option_map (λ i. i.now) c.args.after) c.args.most c.make_visit.result c.pass.invariant c.make_visit.ensures.visited

pub returns-clause-takes : goal.returns-clause-takes
returns-clause-takes g c =
    let v = c.make_visit.ensures.visited in
    took_nothing c.pass.inside.seat c.make_visit.new.seat c.make_visit.result c.pass.invariant v c.pass.inside.who c.args.pass.now c.pass.view_is v.did.unchanged
