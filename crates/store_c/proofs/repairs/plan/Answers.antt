use Rattle.std.proofs.Common.{Err, refl, ap, arith, ◌∙◌, rules}
use Rattle.store_c.specs.Plan.{planned, plan_refused}
use Rattle.store_c.proofs.repairs.plan.Goals as goal

pub returns-in-Ok : goal.returns-in-Ok
returns-in-Ok c = planned c.in-Ok.plan.items.items refl c.in-Ok.ensures.takes c.in-Ok.ensures.ok (omega (arith, c.len.ensures, c.in-Ok.plan.items.ok)) c.hold.ensures

pub returns-in-Err : goal.returns-in-Err
returns-in-Err c =
    let plan = c.plan.ensures in
    plan_refused c.in-Err.fault (search rules) c.number_of.ensures plan.takes (λ busy. plan.busy (c.in-Err.is ∙ ap Err busy)) (λ room busy. plan.lone room (c.in-Err.is ∙ ap Err busy)) refl c.requires
