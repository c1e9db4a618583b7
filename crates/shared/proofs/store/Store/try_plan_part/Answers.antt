use Rattle.std.specs.Option.{option_map}
use Rattle.shared.proofs.Requests.{did_nothing, busy_pass}
use Rattle.shared.proofs.Visits.{same_follows, looked, took_nothing, is_planned}
use Rattle.shared.proofs.store.Store.try_plan_part.Goals as goal

pub try_visit-requires-clause-follows : goal.try_visit-requires-clause-follows
try_visit-requires-clause-follows c = λ x y reply can did. same_follows x.0.value y.0.value did.unchanged

pub invariant_of-pass-2 : goal.invariant_of-pass-2
invariant_of-pass-2 c =
    let v = c.in-Ok.ensures.visited in
    (looked c.pass.inside.seat c.try_visit.new.seat c.in-Ok.reply c.pass.invariant v v.did.unchanged).pass

pub returns-clause-ok : goal.returns-clause-ok
returns-clause-ok c = is_planned c.pass.inside.seat c.try_visit.new.seat (option_map (λ i. i.now) c.args.after) c.args.most c.in-Ok.reply c.pass.invariant c.in-Ok.ensures.visited

pub returns-clause-takes : goal.returns-clause-takes
returns-clause-takes c =
    let v = c.in-Ok.ensures.visited in
    took_nothing c.pass.inside.seat c.try_visit.new.seat c.in-Ok.reply c.pass.invariant v c.pass.inside.who c.args.pass.now c.pass.view_is v.did.unchanged

-- ---- another thread was inside
pub invariant_of-pass : goal.invariant_of-pass
invariant_of-pass c = busy_pass c.pass.inside.seat c.try_visit.new.seat c.pass.invariant c.in_default.ensures.busy

pub returns-in_default-clause-takes : goal.returns-in_default-clause-takes
returns-in_default-clause-takes c = did_nothing c.pass.inside.seat c.try_visit.new.seat c.pass.inside.who c.args.pass.now c.pass.invariant c.in_default.ensures.busy c.pass.view_is
