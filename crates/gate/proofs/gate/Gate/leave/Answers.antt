use Rattle.std.proofs.Common.{◌≡◌, ◌++◌, ◌∷◌, [], length, true, Some, None, ap, sym, subst, ◌∙◌, arith}
use Rattle.atomic_table.specs.Table.{rest}
use Rattle.gate.specs.Places.{last_of}
use Rattle.gate.specs.Rule.{slots_of, IsSeat}
use Rattle.gate.proofs.Moves.{leaves_as, seat_left, left_as, if_some}
use Rattle.gate.proofs.gate.Gate.leave.Goals as goal

pub store-requires : goal.store-requires
store-requires g c =
    let me = c.seat.inside.table_seat.me in
    let inside : me.0.inside ≡ true = ap (λ p. p.inside) c.seat.view_is ∙ c.requires.inside in
    let slots : me.1 ≡ (0, None) ∷ [] = c.seat.invariant.slots ∙ ap slots_of inside in
    let now : c.exchange-before.new.seat.me ≡ (me.0, (0, Some c.args.inside.value) ∷ []) = c.exchange-before.ensures.3 ∙ (λ i. (me.0, (0, Some c.args.inside.value) ∷ rest (slots i))) in (
      cc,
      omega arith,
      leaves_as g.T.Follows.follows _ _ _ me.0 c.args.inside.value c.seat.inside.room now (subst (λ l. IsSeat g.T.Follows.follows (me.0, l) c.seat.inside.room) slots c.seat.invariant) inside
          (λ y e. if_some (λ x. g.T.Follows.follows x c.args.inside.value) _ y (sym (ap (λ p. last_of p.list) c.seat.view_is) ∙ e) c.requires.follows),
    )

pub invariant_of-seat : goal.invariant_of-seat
invariant_of-seat g c =
    let me = c.seat.inside.table_seat.me in
    let inside : me.0.inside ≡ true = ap (λ p. p.inside) c.seat.view_is ∙ c.requires.inside in
    let slots : me.1 ≡ (0, None) ∷ [] = c.seat.invariant.slots ∙ ap slots_of inside in
    let now : c.exchange-before.new.seat.me ≡ (me.0, (0, Some c.args.inside.value) ∷ []) = c.exchange-before.ensures.3 ∙ (λ i. (me.0, (0, Some c.args.inside.value) ∷ rest (slots i))) in
    seat_left g.T.Follows.follows me.0 c.args.inside.value _ c.seat.inside.room (subst (λ l. IsSeat g.T.Follows.follows (me.0, l) c.seat.inside.room) slots c.seat.invariant)
    (λ y e. if_some (λ x. g.T.Follows.follows x c.args.inside.value) _ y (sym (ap (λ p. last_of p.list) c.seat.view_is) ∙ e) c.requires.follows)
    (left_as g.T.Follows.follows 0 0 _ _ me.0 c.args.inside.value now c.store.ensures.2)

pub returns-clause-unchanged : goal.returns-clause-unchanged
returns-clause-unchanged g c =
    let me = c.seat.inside.table_seat.me in
    let inside : me.0.inside ≡ true = ap (λ p. p.inside) c.seat.view_is ∙ c.requires.inside in
    let slots : me.1 ≡ (0, None) ∷ [] = c.seat.invariant.slots ∙ ap slots_of inside in
    let now : c.exchange-before.new.seat.me ≡ (me.0, (0, Some c.args.inside.value) ∷ []) = c.exchange-before.ensures.3 ∙ (λ i. (me.0, (0, Some c.args.inside.value) ∷ rest (slots i))) in
    let after = left_as g.T.Follows.follows 0 0 _ c.store.new.seat.me me.0 c.args.inside.value now c.store.ensures.2 in
    (cc, ap (λ m. m.0.room) after ∙ ap (λ p. p.room) c.seat.view_is, ap (λ m. m.0.inside) after, ap (λ m. m.0.expected_length) after ∙ ap (λ p. p.expected_length) c.seat.view_is)

pub returns-clause-own : goal.returns-clause-own
returns-clause-own g c =
    let me = c.seat.inside.table_seat.me in
    let inside : me.0.inside ≡ true = ap (λ p. p.inside) c.seat.view_is ∙ c.requires.inside in
    let slots : me.1 ≡ (0, None) ∷ [] = c.seat.invariant.slots ∙ ap slots_of inside in
    let now : c.exchange-before.new.seat.me ≡ (me.0, (0, Some c.args.inside.value) ∷ []) = c.exchange-before.ensures.3 ∙ (λ i. (me.0, (0, Some c.args.inside.value) ∷ rest (slots i))) in
    let after = left_as g.T.Follows.follows 0 0 _ c.store.new.seat.me me.0 c.args.inside.value now c.store.ensures.2 in
    ap (λ m. m.0.shown.own) after ∙ ap (λ p. p.own ++ length p.list ∷ []) c.seat.view_is
