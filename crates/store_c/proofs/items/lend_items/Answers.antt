use Rattle.std.proofs.Common.{sym, arith}
use Rattle.store_c.proofs.LentItems.{begun, one_more, past}
use Rattle.store_c.proofs.items.lend_items.Goals as goal

pub loop-at-init : goal.loop-at-init
loop-at-init c = begun c.args.repairs.now.items c.args.target.now

pub loop-at-preserved : goal.loop-at-preserved
loop-at-preserved c =
    let l = c.loop-at in
    one_more c.args.repairs.now.items l.at c.args.target.now l.target c.in-Some.item.now _ l.invariant c.loop-at-test.true (sym c.in-Some.ensures) c.item_for.ensures

pub returns-after-loop-at-clause-count : goal.returns-after-loop-at-clause-count
returns-after-loop-at-clause-count c = let is = c.loop-at.invariant in omega (arith, is.within, is.long, is.same, c.loop-at-test.false)

pub returns-in_default-clause-count : goal.returns-in_default-clause-count
returns-in_default-clause-count c =
    let is = c.loop-at.invariant in
    omega (arith, is.within, is.long, is.same, past c.args.repairs.now.items c.loop-at.at (sym c.in_default.ensures))
