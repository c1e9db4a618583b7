use Rattle.std.proofs.Common.{◌≡◌, ap, sym, ◌∙◌, arith}
use Rattle.ledger.proofs.Moves.{joins, settles_as}
use Rattle.ledger.proofs.ledger.Follower.accept.Goals as goal

pub join_seat-requires : goal.join_seat-requires
join_seat-requires g c =
    let here : c.ledger.inside.table.shared.table_id ≡ c.args.ledger.now.table = ap (λ l. l.table) c.ledger.view_is in
    let mine : c.self.inside.table_seat.table_id ≡ c.ledger.inside.table.shared.table_id = ap (λ s. s.ledger.table) c.self.view_is ∙ (ap (λ l. l.table) c.requires.ledger.0 ∙ sym here) in
    let theirs : c.receipt.inside.table_seat.table_id ≡ c.ledger.inside.table.shared.table_id = ap (λ s. s.ledger.table) c.receipt.view_is ∙ (ap (λ l. l.table) c.requires.ledger.1 ∙ sym here) in
    (mine, theirs, c.receipt.invariant.slots, omega arith, joins (g.A.Lawful.legal c.ledger.inside.table.shared.key.value) c.ledger.inside.table.shared.key.value.count _ _ _ _ c.self.invariant.heard c.self.invariant.some_room (ap (λ v. v.heard) c.receipt.invariant.view))

pub load-requires : goal.load-requires
load-requires g c =
    let here : c.ledger.inside.table.shared.table_id ≡ c.args.ledger.now.table = ap (λ l. l.table) c.ledger.view_is in
    let mine : c.self.inside.table_seat.table_id ≡ c.ledger.inside.table.shared.table_id = ap (λ s. s.ledger.table) c.self.view_is ∙ (ap (λ l. l.table) c.requires.ledger.0 ∙ sym here) in
    (c.join_seat.ensures.0 ∙ mine, omega arith, settles_as (g.A.Lawful.legal c.ledger.inside.table.shared.key.value) c.ledger.inside.table.shared.key.value.count _ _ _ c.self.inside.table_seat.me.0 c.receipt.inside.table_seat.me.0 _ c.join_seat.ensures.2 c.self.invariant.some_room)
