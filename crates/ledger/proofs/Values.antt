-- The keeper in a lock has all acts between the values that were left there.
use Rattle.std.proofs.Common.{◌≡◌, ℕ, ◌+◌, List, [], ◌∷◌, ◌++◌, Some, length, ap, sym, subst, ◌∙◌, arith, append_assoc, append-nil, length-append}
use mathlib.Core.List.{IsPrefix}
use Rattle.gate.specs.Places.{last_of, times, IsChain, IsWithin, HasAll}
use Rattle.gate.proofs.Lists.{once_later-here}
use Rattle.gate.proofs.Lists.{last_of-snoc}
use Rattle.gate.proofs.Events.{chain_from, history-append}
use Rattle.ledger.specs.declared.held.Held.{Held}
use Rattle.ledger.specs.Acts.{TableId, KeeperState}
use Rattle.ledger.specs.Values.{grown, between_held, acts_left, acts_since, acts_to, MayFollowHeld, KeepsAll}

module _ {T A : Type 0} (between : T → T → List A) where
  last_from : (xs rest : List (Held T A)) (x : Held T A) → last_of xs ≡ Some x → last_of (x ∷ rest) ≡ last_of (xs ++ rest)
  last_from [] rest x e = absurd (cc)
  last_from (y ∷ []) rest x e = let same : x ≡ y = cc in ap (λ (h : Held T A). last_of (h ∷ rest)) same
  last_from (y ∷ z ∷ zs) rest x e = last_from (z ∷ zs) rest x e

  module _ (follows : T → T → Type 0) where
    grown_from : (x : Held T A) (zs : List (Held T A)) (y : Held T A) → IsChain (MayFollowHeld between follows) (x ∷ zs) → last_of (x ∷ zs) ≡ Some y → y.keeper ≡ grown x.keeper (acts_left between (x ∷ zs))
    grown_from x [] y c e =
        let same : y ≡ x = cc in
        ap (λ (h : Held T A). h.keeper) same ∙ ap (λ (l : List A). record { ledger = x.keeper.ledger; shard = x.keeper.shard; acts = l }) (sym (append-nil x.keeper.acts))
    grown_from x (z ∷ zs) y c e =
        grown_from z zs y c.1 e
        ∙ (ap (λ (q : KeeperState A). grown q (acts_left between (z ∷ zs))) c.0.1
        ∙ ap (λ (l : List A). record { ledger = x.keeper.ledger; shard = x.keeper.shard; acts = l }) (append_assoc x.keeper.acts (between x.value z.value) (acts_left between (z ∷ zs))))

    -- a longer list of values that were left
    pub keeps_longer : (id : TableId) (k : ℕ) (xs ys : List (Held T A)) (y : Held T A) → KeepsAll between id k xs → IsPrefix xs ys → IsChain (MayFollowHeld between follows) ys → last_of ys ≡ Some y → KeepsAll between id k ys
    keeps_longer id k xs ys y has p c e =
        let x : Held T A = has.0 in
        let rest : List (Held T A) = p.0 in
        let chain = chain_from (MayFollowHeld between follows) xs rest x has.1 (subst (IsChain (MayFollowHeld between follows)) (sym p.1) c) in
        let last : last_of (x ∷ rest) ≡ Some y = last_from xs rest x has.1 ∙ (ap last_of p.1 ∙ e) in (
          y,
          e,
          grown_from x rest y chain last
              ∙ (ap (λ (q : KeeperState A). grown q (acts_left between (x ∷ rest))) has.2
              ∙ ap (λ (l : List A). record { ledger = id; shard = k; acts = l }) (sym (history-append (between_held between) xs rest x has.1) ∙ ap (acts_left between) p.1)),
        )

  -- one value more
  pub acts-snoc : (xs : List (Held T A)) (x h : Held T A) → last_of xs ≡ Some x → acts_left between (xs ++ h ∷ []) ≡ acts_left between xs ++ between x.value h.value
  acts-snoc xs x h e = history-append (between_held between) xs (h ∷ []) x e ∙ ap (λ (l : List A). acts_left between xs ++ l) (append-nil (between x.value h.value))

  pub acts_to-last : (xs : List (Held T A)) (x : Held T A) (y : T) → last_of xs ≡ Some x → acts_to between xs y ≡ between x.value y
  acts_to-last xs x y e = ap (λ o. acts_since between o y) e

  pub keeps_left : (id : TableId) (k : ℕ) (xs ys : List (Held T A)) (q : KeeperState A) (h : Held T A) → KeepsAll between id k xs → ((x : Held T A) → last_of xs ≡ Some x → q ≡ x.keeper) → h.keeper ≡ grown q (acts_to between xs h.value) → ys ≡ xs ++ h ∷ [] → KeepsAll between id k ys
  keeps_left id k xs ys q h has found is list =
      subst (KeepsAll between id k) (sym list) (
        h,
        last_of-snoc xs h,
        is
            ∙ (ap (λ (r : KeeperState A). grown r (acts_to between xs h.value)) (found has.0 has.1 ∙ has.2)
            ∙ ap (λ (l : List A). record { ledger = id; shard = k; acts = l }) (ap (λ (l : List A). acts_left between xs ++ l) (acts_to-last xs has.0 h.value has.1) ∙ sym (acts-snoc xs has.0 h has.1))),
      )

-- a list whose places but the opening one are all own is the one that a seat showed, since no own place is past that one's end
pub whole_shown : {X : Type 0} (xs ys : List X) (x : X) (own : List ℕ) → last_of xs ≡ Some x → IsPrefix xs ys → IsWithin xs own → HasAll ys own → ys ≡ xs
whole_shown [] ys x own e begins within has = absurd (cc)
whole_shown (z ∷ zs) ys x own e ([], whole) within has = sym whole ∙ append-nil (z ∷ zs)
whole_shown (z ∷ zs) ys x own e (y ∷ more, whole) within has =
    let k : ℕ = length (z ∷ zs) in
    let long : length ys ≡ k + length (y ∷ more) = ap length (sym whole) ∙ length-append (z ∷ zs) (y ∷ more) in
    let one : times k own ≡ 1 = has.0 k ∙ once_later-here (length ys) k (omega arith) (omega arith) in
    let none : times k own ≡ 0 = within k (omega arith) in
    absurd (omega arith)

module _ {T A : Type 0} (between : T → T → List A) where
  -- the value that is taken is the last one that the seat showed, and it had left all others
  pub taken_last : (id : TableId) (k : ℕ) (xs ys : List (Held T A)) (y : Held T A) (own : List ℕ) → KeepsAll between id k xs → IsPrefix xs ys → IsWithin xs own → last_of ys ≡ Some y → HasAll ys own
      → (last_of xs ≡ Some y) × (y.keeper ≡ record { ledger = id; shard = k; acts = acts_left between xs }) × HasAll xs own
  taken_last id k xs ys y own keeps begins within last has =
      let same : ys ≡ xs = whole_shown xs ys keeps.0 own keeps.1 begins within has in
      let there : last_of xs ≡ Some y = ap last_of (sym same) ∙ last in
      let is : y ≡ keeps.0 = by_some (sym there ∙ keeps.1) in (
        there,
        ap (λ (h : Held T A). h.keeper) is ∙ keeps.2,
        subst (λ (l : List (Held T A)). HasAll l own) same has,
      )
    where
      by_some : {X : Type 0} {a b : X} → Some a ≡ Some b → a ≡ b
      by_some e = cc (e)
