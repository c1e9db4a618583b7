use Rattle.history.specs.Step.{repair}
use Rattle.shared.proofs.Requests.{was_busy, busy_pass}
use Rattle.shared.proofs.Visits.{inspected_follows, inspected, is_found}
use Rattle.shared.proofs.store.Store.try_inspect.Goals as goal

pub try_visit-requires-clause-follows : goal.try_visit-requires-clause-follows
try_visit-requires-clause-follows c = λ x y reply can did. inspected_follows c.pass.inside.who c.args.name.now c.args.stripe c.args.fragment x.0.value y.0.value reply did

pub invariant_of-pass-2 : goal.invariant_of-pass-2
invariant_of-pass-2 c = (inspected c.pass.inside.seat c.try_visit.new.seat c.pass.inside.who c.args.name.now c.args.stripe c.args.fragment c.in-Ok.inspection c.pass.invariant c.in-Ok.ensures.visited).pass

pub returns-clause-found : goal.returns-clause-found
returns-clause-found c =
    is_found c.pass.inside.seat c.try_visit.new.seat c.pass.inside.who c.args.name.now c.args.stripe c.args.fragment c.in-Ok.inspection c.pass.invariant c.in-Ok.ensures.visited
    c.args.pass.now c.pass.view_is

-- ---- another thread was inside
pub invariant_of-pass : goal.invariant_of-pass
invariant_of-pass c = busy_pass c.pass.inside.seat c.try_visit.new.seat c.pass.invariant c.in_default.ensures.busy

pub returns-in_default-clause-found : goal.returns-in_default-clause-found
returns-in_default-clause-found c = was_busy c.pass.inside.seat c.try_visit.new.seat c.pass.inside.who c.args.pass.now (repair c.args.name.now c.args.stripe c.args.fragment) c.pass.invariant c.in_default.ensures.busy c.pass.view_is
