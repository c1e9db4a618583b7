use Rattle.std.proofs.Common.{arith}
use Rattle.shared.proofs.Looks.{few_given, whole_given}
use Rattle.shared.proofs.Requests.{did_nothing, busy_pass}
use Rattle.shared.proofs.Visits.{trimmed_follows, trimmed_step, takes_as, takes_part}
use Rattle.shared.proofs.store.Store.try_trim_part.Goals as goal

pub try_visit-requires-clause-follows : goal.try_visit-requires-clause-follows
try_visit-requires-clause-follows c = λ x y reply can did. trimmed_follows c.args.keep c.args.most x.0.value y.0.value reply did

pub invariant_of-pass-2 : goal.invariant_of-pass-2
invariant_of-pass-2 c = (trimmed_step c.pass.inside.seat c.try_visit.new.seat c.pass.inside.who c.args.keep c.args.most c.in-Ok.reply c.args.pass.now c.pass.view_is c.pass.invariant c.in-Ok.ensures.visited).pass

pub returns-clause-part : goal.returns-clause-part
returns-clause-part c = takes_part c.pass.inside.seat c.try_visit.new.seat c.pass.inside.who c.args.keep c.args.most c.in-Ok.reply c.args.pass.now c.pass.view_is c.pass.invariant c.in-Ok.ensures.visited

pub returns-clause-few : goal.returns-clause-few
returns-clause-few c =
    let did = c.in-Ok.ensures.visited.did in
    few_given c.in-Ok.reply _ _ c.args.keep c.args.most did.answer did.few

pub returns-clause-whole : goal.returns-clause-whole
returns-clause-whole c =
    let v = c.in-Ok.ensures.visited in
    whole_given c.in-Ok.reply _ _ c.args.keep c.args.most v.did.answer
    (takes_as c.pass.inside.seat c.try_visit.new.seat c.pass.inside.who c.args.keep c.args.most c.in-Ok.reply c.args.pass.now c.pass.view_is c.pass.invariant v c.args.keep)

-- ---- another thread was inside
pub invariant_of-pass : goal.invariant_of-pass
invariant_of-pass c = busy_pass c.pass.inside.seat c.try_visit.new.seat c.pass.invariant c.in_default.ensures.busy

pub returns-in_default-clause-part : goal.returns-in_default-clause-part
returns-in_default-clause-part c = (c.args.keep, omega arith, did_nothing c.pass.inside.seat c.try_visit.new.seat c.pass.inside.who c.args.pass.now c.pass.invariant c.in_default.ensures.busy c.pass.view_is)
