use Rattle.std.proofs.Common.{Err, refl, ap, arith, ◌∙◌, rules}
use Rattle.store_c.specs.Plan.{planned, plan_refused}
use Rattle.store_c.proofs.repairs.first_part.Goals as goal

pub returns-in-Ok : goal.returns-in-Ok
returns-in-Ok c =
    planned c.in-Ok.plan.items.items refl c.in-Ok.ensures.takes c.in-Ok.ensures.ok (omega (arith, c.len.ensures, c.in-Ok.plan.items.ok)) c.hold.ensures

pub returns-in-Err : goal.returns-in-Err
returns-in-Err c =
    let part = c.plan_part.ensures in
    plan_refused c.in-Err.fault (search rules) c.number_of.ensures part.takes (λ busy. part.busy (c.in-Err.is ∙ ap Err busy)) (λ room busy. part.lone room (c.in-Err.is ∙ ap Err busy)) refl c.requires
