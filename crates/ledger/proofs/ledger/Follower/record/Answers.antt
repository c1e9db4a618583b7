use Rattle.std.proofs.Common.{◌≡◌, ◌+◌, ◌++◌, ap, sym, subst, ◌∙◌, arith}
use Rattle.ledger.specs.Acts.{IsWithin}
use Rattle.ledger.specs.Rule.{keeps, keeper_state}
use Rattle.ledger.proofs.Moves.{joins, records_as, parts}
use Rattle.ledger.proofs.ledger.Follower.record.Goals as goal

pub join_seat-requires : goal.join_seat-requires
join_seat-requires g c =
    let here : c.ledger.inside.table.shared.table_id ≡ c.args.ledger.now.table = ap (λ l. l.table) c.ledger.view_is in
    let mine : c.self.inside.table_seat.table_id ≡ c.ledger.inside.table.shared.table_id = ap (λ s. s.ledger.table) c.self.view_is ∙ (ap (λ l. l.table) c.requires.ledger.0 ∙ sym here) in
    let is : c.into_seat.result.me.0 ≡ keeps c.keeper.invariant.0 = cc in
    let theirs : c.into_seat.result.table_id ≡ c.ledger.inside.table.shared.table_id = c.into_seat.ensures.0 ∙ (ap (λ b. b.table_id) c.replace-badge.ensures.value ∙ (ap (λ s. s.ledger) c.keeper.view_is ∙ (c.requires.ledger.1 ∙ sym here))) in
    (mine, theirs, c.into_seat.ensures.3, omega arith, joins (g.A.Lawful.legal c.ledger.inside.table.shared.key.value) c.ledger.inside.table.shared.key.value.count _ _ _ _ c.self.invariant.heard c.self.invariant.some_room (ap (λ v. v.heard) is))

pub load-requires : goal.load-requires
load-requires g c =
    let here : c.ledger.inside.table.shared.table_id ≡ c.args.ledger.now.table = ap (λ l. l.table) c.ledger.view_is in
    let mine : c.self.inside.table_seat.table_id ≡ c.ledger.inside.table.shared.table_id = ap (λ s. s.ledger.table) c.self.view_is ∙ (ap (λ l. l.table) c.requires.ledger.0 ∙ sym here) in
    let is : c.into_seat.result.me.0 ≡ keeps c.keeper.invariant.0 = cc in
    let setup : c.ledger.inside.table.shared.key.value ≡ g.W.ActChoice.setup = c.ledger.invariant.2 ∙ (ap (λ l. l.setup) c.ledger.view_is ∙ sym c.requires.setup) in (
      c.join_seat.ensures.0 ∙ mine,
      omega arith,
      records_as (g.A.Lawful.legal c.ledger.inside.table.shared.key.value) c.ledger.inside.table.shared.key.value.count _ _ _ c.self.inside.table_seat.me.0 c.into_seat.result.me.0 _ c.keeper.invariant.0 g.W.ActChoice.acts (g.A.Lawful.legal g.W.ActChoice.setup) (ap g.A.Lawful.legal setup) c.join_seat.ensures.2 c.self.invariant.kept is c.self.invariant.some_room
          (subst (λ s. g.A.Lawful.legal s c.keeper.invariant.0.shard c.keeper.invariant.0.acts → g.A.Lawful.legal s c.keeper.invariant.0.shard (c.keeper.invariant.0.acts ++ g.W.ActChoice.acts)) (sym (c.ledger.invariant.2 ∙ ap (λ l. l.setup) c.ledger.view_is))
          (subst (λ s. g.A.Lawful.legal c.args.ledger.now.setup s.shard s.acts → g.A.Lawful.legal c.args.ledger.now.setup s.shard (s.acts ++ g.W.ActChoice.acts)) (sym c.keeper.view_is ∙ ap (keeper_state c.keeper.inside.badge.table_id) c.keeper.invariant.1) c.requires.legal)),
    )

pub split_seat-seat-requires : goal.split_seat-seat-requires
split_seat-seat-requires g c =
    let here : c.ledger.inside.table.shared.table_id ≡ c.args.ledger.now.table = ap (λ l. l.table) c.ledger.view_is in
    let mine : c.self.inside.table_seat.table_id ≡ c.ledger.inside.table.shared.table_id = ap (λ s. s.ledger.table) c.self.view_is ∙ (ap (λ l. l.table) c.requires.ledger.0 ∙ sym here) in
    let room : c.load.new.seat.me.0.room ≡ c.self.inside.table_seat.me.0.room + c.into_seat.result.me.0.room = ap (λ m. m.0.room) c.load.ensures.2.7 ∙ ap (λ m. m.0.room) c.join_seat.ensures.2 in
    let some_room = c.self.invariant.some_room in
    (c.load.ensures.0 ∙ (c.join_seat.ensures.0 ∙ mine), omega arith, parts (g.A.Lawful.legal c.ledger.inside.table.shared.key.value) c.ledger.inside.table.shared.key.value.count _ _ (ap (λ m. m.0.heard) c.load.ensures.2.7) (omega arith))

pub returns-clause-earlier : goal.returns-clause-earlier
returns-clause-earlier g c =
    let shown : c.join_seat.new.seat.me.0.shown ≡ c.self.inside.table_seat.me.0.shown = ap (λ m. m.0.shown) c.join_seat.ensures.2 in
    subst (λ f. IsWithin f.list f.own) c.self.view_is (subst (λ s. IsWithin s.list s.own) shown c.load.ensures.2.8)
