use Rattle.std.proofs.Common.{rules, ◌≤◌, length, inl, inr, refl}
use Rattle.mender.proofs.Working.{drew, in_hand, did_more, order_more}
use Rattle.mender.proofs.Made.{made_more, halted}
use Rattle.mender.proofs.workers.repair_drawn.Goals as goal

pub returns-then-is_err-clause-err : goal.returns-then-is_err-clause-err
returns-then-is_err-clause-err g c =
    let drew = c.in-Some.ensures in
    let found = c.in-Some-get.ensures.lookup.3 in
    let h = in_hand _ _ _ _ c.draw.new.drawer _ c.in-Some.ticket c.in-Some-get.item.now c.loop-ticket.invariant.worked drew.some.0 drew.some.1 drew.fresh drew.rises c.deref.ensures.value found.0 (found.1 _) in
    halted _ _ _ _ _ _ _ _ _ _ _ h c.loop-ticket.invariant.made c.reserve.ensures.items (inl (refl, refl, search rules))

pub loop-ticket-preserved : goal.loop-ticket-preserved
loop-ticket-preserved g c =
    let inv = c.loop-ticket.invariant in
    let drew = c.in-Some.ensures in
    let found = c.in-Some-get.ensures.lookup.3 in
    let h = in_hand _ _ _ _ c.draw.new.drawer _ c.in-Some.ticket c.in-Some-get.item.now c.loop-ticket.invariant.worked drew.some.0 drew.some.1 drew.fresh drew.rises c.deref.ensures.value found.0 (found.1 _) in
    record {
      belongs = c.in-Ok.ensures.belongs;
      tickets = cc;
      made = made_more g.S.Mends.repaired c.args.pass.now c.loop-ticket.pass c.repair_item.new.pass _ _ _ _ c.in-Some-get.item.now inv.made c.in-Ok.ensures.repaired c.duplicate.ensures c.reserve.ensures.items c.push_reserved.ensures.items;
      worked = did_more _ _ _ _ _ _ _ _ _ h refl c.duplicate.ensures c.reserve.ensures.items c.push_reserved.ensures.items;
      in_order = λ intact. order_more _ _ _ _ _ _ _ _ _ inv.worked intact drew.next h.there c.duplicate.ensures c.reserve.ensures.items c.push_reserved.ensures.items (inv.in_order intact);
    }

pub returns-in-Err-clause-err : goal.returns-in-Err-clause-err
returns-in-Err-clause-err g c =
    let drew = c.in-Some.ensures in
    let found = c.in-Some-get.ensures.lookup.3 in
    let h = in_hand _ _ _ _ c.draw.new.drawer _ c.in-Some.ticket c.in-Some-get.item.now c.loop-ticket.invariant.worked drew.some.0 drew.some.1 drew.fresh drew.rises c.deref.ensures.value found.0 (found.1 _) in
    halted _ _ _ _ _ _ _ _ _ _ _ h c.loop-ticket.invariant.made c.reserve.ensures.items (inr c.in-Err.ensures.repaired)

pub returns-in_default-get-clause-ok : goal.returns-in_default-get-clause-ok
returns-in_default-get-clause-ok g c =
    let draw = c.in-Some.ensures in
    let past : length c.args.plan.now.items.items ≤ c.in-Some.ticket = search rules in
    inr (c.in-Some.ticket, past, drew _ _ _ c.draw.new.drawer _ c.in-Some.ticket c.loop-ticket.invariant.worked draw.some.0 draw.some.1 draw.rises)
