use Rattle.std.proofs.Common.{[], ap, sym, subst}
use Rattle.book.specs.Contents.{Contents}
use Rattle.book.specs.Holds.{HoldsHistory}
use Rattle.shard.proofs.Joining.{opened_seat}
use Rattle.shard.proofs.shard.Shard.open.Goals as goal

pub invariant_of-result : goal.invariant_of-result
invariant_of-result c =
    let e = c.in-Ok-open_gate.ensures in
    opened_seat c.in-Ok-open_gate.seat _ c.args.ledger.now.table c.args.keeper.shard (ap (λ p. p.list) e.seat) (ap (λ p. p.own) e.seat) (ap (λ p. p.inside) e.seat) e.keeps
    (subst (λ (b : Contents). HoldsHistory b []) (sym c.in-Ok-boxed.ensures.ok) c.in-Ok.ensures.holds)
