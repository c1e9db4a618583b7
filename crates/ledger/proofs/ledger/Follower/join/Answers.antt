use Rattle.std.proofs.Common.{◌≡◌, ap, sym, ◌∙◌, arith}
use Rattle.ledger.specs.Acts.{times}
use Rattle.ledger.proofs.Moves.{joins, settles_as}
use Rattle.ledger.proofs.ledger.Follower.join.Goals as goal

pub join_seat-requires : goal.join_seat-requires
join_seat-requires g c =
    let here : c.ledger.inside.table.shared.table_id ≡ c.args.ledger.now.table = ap (λ l. l.table) c.ledger.view_is in
    let mine : c.self.inside.table_seat.table_id ≡ c.ledger.inside.table.shared.table_id = ap (λ s. s.ledger.table) c.self.view_is ∙ (ap (λ l. l.table) c.requires.ledger.0 ∙ sym here) in
    let theirs : c.other.inside.table_seat.table_id ≡ c.ledger.inside.table.shared.table_id = ap (λ s. s.ledger.table) c.other.view_is ∙ (ap (λ l. l.table) c.requires.ledger.1 ∙ sym here) in
    (mine, theirs, c.other.invariant.slots, omega arith, joins (g.A.Lawful.legal c.ledger.inside.table.shared.key.value) c.ledger.inside.table.shared.key.value.count _ _ _ _ c.self.invariant.heard c.self.invariant.some_room c.other.invariant.heard)

pub load-requires : goal.load-requires
load-requires g c =
    let here : c.ledger.inside.table.shared.table_id ≡ c.args.ledger.now.table = ap (λ l. l.table) c.ledger.view_is in
    let mine : c.self.inside.table_seat.table_id ≡ c.ledger.inside.table.shared.table_id = ap (λ s. s.ledger.table) c.self.view_is ∙ (ap (λ l. l.table) c.requires.ledger.0 ∙ sym here) in
    (c.join_seat.ensures.0 ∙ mine, omega arith, settles_as (g.A.Lawful.legal c.ledger.inside.table.shared.key.value) c.ledger.inside.table.shared.key.value.count _ _ _ c.self.inside.table_seat.me.0 c.other.inside.table_seat.me.0 _ c.join_seat.ensures.2 c.self.invariant.some_room)

pub returns-clause-apart : goal.returns-clause-apart
returns-clause-apart g c = λ p.
    let mine = ap (λ m. times p m.0.shown.own) c.join_seat.ensures.2 ∙ ap (λ q. times p q.own) c.self.view_is in
    let theirs = ap (λ m. times p m.0.heard.own) c.join_seat.ensures.2 ∙ ap (λ q. times p q.own) c.other.view_is in
    let both = c.load.ensures.2.5 p in
    omega arith
