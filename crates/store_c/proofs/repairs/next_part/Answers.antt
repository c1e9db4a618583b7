use Rattle.std.proofs.Common.{◌≡◌, List, length, take, Option, Err, refl, subst, ap, ◌∙◌, rules}
use Rattle.history.specs.History.{state_of}
use Rattle.book.specs.Plan.{plan_of, items_after}
use Rattle.book.specs.declared.plan.Item.{Item}
use Rattle.store_c.specs.Plan.{planned, plan_refused}
use Rattle.store_c.proofs.Plans.{held_is}
use Rattle.store_c.proofs.repairs.next_part.Goals as goal

pub returns-in-Ok : goal.returns-in-Ok
returns-in-Ok c =
    let items : List Item = c.in-Ok.plan.items.items in
    let listed = subst (λ (after : Option Item). items ≡ take c.args.most (items_after after (plan_of (state_of c.plan_part.new.self.seen)))) c.last.ensures c.in-Ok.ensures.ok in
    planned items refl c.in-Ok.ensures.takes listed (c.len.ensures ∙ ap length c.follow.ensures.items)
    (held_is c.follow.new.self items _ c.follow.ensures.items c.follow.ensures.last)

pub returns-in-Err : goal.returns-in-Err
returns-in-Err c =
    let part = c.plan_part.ensures in
    plan_refused c.in-Err.fault (search rules) c.number_of.ensures part.takes (λ busy. part.busy (c.in-Err.is ∙ ap Err busy)) (λ room busy. part.lone room (c.in-Err.is ∙ ap Err busy)) refl refl
