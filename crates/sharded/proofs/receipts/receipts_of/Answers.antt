use Rattle.std.proofs.Common.{◌<◌, [], ◌∷◌, ◌++◌, length, ap, arith, ◌∙◌}
use Rattle.sharded.proofs.Joins.{receipt_next}
use Rattle.sharded.proofs.receipts.receipts_of.Goals as goal

pub loop-shard-preserved : goal.loop-shard-preserved
loop-shard-preserved c =
    let inv = c.loop-shard.invariant in
    let below : c.loop-shard.shard < length c.args.seats.now.items = omega (arith, c.loop-shard-test.true, c.len-shard-end.ensures, c.args.seats.now.ok.0) in
    let next = receipt_next c.loop-shard.shard c.args.seats.now.items c.loop-shard.seats.items c.loop-shard.receipts.items c.index_mut.result.now c.receipt-receipt.new.self c.receipt-receipt.result inv.0 inv.1 below c.index_mut.ensures.value c.receipt-receipt.ensures.same c.receipt-receipt.ensures.given in
    (next.0, c.push_reserved.ensures.items ∙ ap (λ l. l ++ c.receipt-receipt.result ∷ []) c.reserve.ensures.items ∙ next.1)
