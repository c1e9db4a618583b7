use Rattle.std.proofs.Common.{[], ap, sym, subst}
use Rattle.book.specs.Contents.{Contents}
use Rattle.book.specs.Holds.{HoldsHistory}
use Rattle.shared.proofs.Passes.{opened}
use Rattle.shared.proofs.store.Store.open_with.Goals as goal

pub invariant_of-result : goal.invariant_of-result
invariant_of-result c =
    let e = c.in-Ok-new.ensures in
    opened c.in-Ok-new.seat _ (ap (λ p. p.list) e) (ap (λ p. p.own) e) (ap (λ p. p.inside) e) (subst (λ (b : Contents). HoldsHistory b []) (sym c.in-Ok-boxed.ensures.ok) c.in-Ok.ensures.holds)
