use Rattle.std.proofs.Common.{◌≡◌, ap, sym, ◌∙◌, arith}
use Rattle.ledger.proofs.Moves.{splits}
use Rattle.ledger.proofs.ledger.Follower.split.Goals as goal

pub split_seat-table_seat-requires : goal.split_seat-table_seat-requires
split_seat-table_seat-requires g c =
    let here : c.ledger.inside.table.shared.table_id ≡ c.args.ledger.now.table = ap (λ l. l.table) c.ledger.view_is in
    let mine : c.self.inside.table_seat.table_id ≡ c.ledger.inside.table.shared.table_id = ap (λ s. s.ledger.table) c.self.view_is ∙ (ap (λ l. l.table) c.requires.ledger ∙ sym here) in
    (mine, omega arith, splits (g.A.Lawful.legal c.ledger.inside.table.shared.key.value) c.ledger.inside.table.shared.key.value.count _ _ c.self.invariant.heard (let room : c.self.inside.table_seat.me.0.room ≡ c.args.self.now.room = ap (λ p. p.room) c.self.view_is in omega arith))
