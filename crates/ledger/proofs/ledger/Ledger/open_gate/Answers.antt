use Rattle.std.proofs.Common.{refl, ap, sym, subst}
use Rattle.ledger.specs.Values.{KeepsAll}
use Rattle.ledger.proofs.ledger.Ledger.open_gate.Goals as goal

pub returns-in-Ok-clause-keeps : goal.returns-in-Ok-clause-keeps
returns-in-Ok-clause-keeps g c =
    let ledger = c.requires.ledger in
    let none = c.requires.none in
    subst (KeepsAll g.T.Changes.between c.args.self.now.table c.args.keeper.shard) (sym (ap (λ s. s.list) c.in-Ok.ensures)) (
      record { value = c.args.value; keeper = c.args.keeper },
      refl,
      (λ i. record { ledger = ledger i; shard = c.args.keeper.shard; acts = none i }),
    )
