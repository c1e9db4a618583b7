use Rattle.std.proofs.Common.{◌≡◌, ℕ, ◌∷◌, [], ap, sym, subst, ◌∙◌, arith}
use Rattle.ledger.specs.Acts.{shard_acts}
use Rattle.ledger.specs.Rule.{keeps, keeper_state}
use Rattle.ledger.proofs.Moves.{begins, parts}
use Rattle.ledger.proofs.Opening.{gives_next, gives_keeper, keepers_next}
use Rattle.ledger.proofs.ledger.Ledger.open.Goals as goal

pub of_words-requires : goal.of_words-requires
of_words-requires g c =
    begins (g.A.Lawful.legal c.of-key.result.value) c.of-key.result.value.count {S = Unit {0}} (0 ∷ []) []
    (subst (λ setup. (k : ℕ) → g.A.Lawful.legal setup k []) (sym c.of-key.ensures) c.requires.legal)

pub split_seat-seat-requires : goal.split_seat-seat-requires
split_seat-seat-requires g c =
    let words : c.in_ok-table.table.shared.table_id.words ≡ 1 = c.in_ok-table.ensures.0 in
    (cc, omega arith, parts (g.A.Lawful.legal _) _ _ _ (ap (λ m. m.0.heard) c.loop-shard.invariant.1) (let room : c.loop-shard.table_seat.me.0.room ≡ 64 = ap (λ m. m.0.room) c.loop-shard.invariant.1 in omega arith))

pub loop-shard-preserved : goal.loop-shard-preserved
loop-shard-preserved g c =
    let made = c.split_seat-seat.ensures in
    let seat = c.loop-shard.invariant in
    let id : c.into_badge.result.table_id ≡ c.in_ok-table.table.shared.table_id = c.into_badge.ensures.0 ∙ (made.3 ∙ seat.0) in
    let keeper = gives_keeper c.loop-shard.shard c.args.setup.count c.loop-shard.table_seat.me c.loop-shard-test.true seat.1 in
    let views : c.into_badge.result.views ≡ keeps (shard_acts c.loop-shard.shard []) ∷ [] = c.into_badge.ensures.2 ∙ ap (λ v. v ∷ []) (ap (λ m. m.0) made.4 ∙ keeper) in (
      made.0 ∙ seat.0,
      made.2 ∙ gives_next c.loop-shard.shard c.args.setup.count c.loop-shard.table_seat.me c.loop-shard-test.true seat.1,
      c.push_reserved.ensures.items ∙ keepers_next c.in_ok-table.table.shared.table_id c.loop-shard.shard c.loop-shard.keepers.items (keeper_state c.into_badge.result.table_id c.into_badge.result.views) seat.2 (λ i. keeper_state (id i) (views i)),
      omega (arith, c.push_reserved.ensures.capacity, seat.3),
      omega (arith, c.push_reserved.ensures.len, seat.4),
    )
