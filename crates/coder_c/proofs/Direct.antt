-- What is decoded straight from the lists that are passed, without slots.
use Rattle.std.proofs.Common.{◌≡◌, ℕ, ◌+◌, ◌-◌, ◌<◌, ◌≤◌, Bool, true, false, List, Option, Some, None, Bor, IfSome, length, map, refl, sym, ap, ◌∙◌, subst, arith, inl, inr}
use Rattle.std.specs.Prelude.{slice_index, slice_range}
use Rattle.std.specs.List.{range_with_len}
use Rattle.std.specs.Option.{is_none}
use Rattle.std.proofs.lemmas.Bool.{cases_Bool, true≢false}
use Rattle.std.proofs.lemmas.List.FromFn.{get_or-map-range_with_len}
use Rattle.lrc_code.specs.declared.Code.TheVariants.{Wide}
use Rattle.lrc_code.specs.Stripe.{slot, bytes_of, is_absent, RebuildsFrom}
use Rattle.syndromes.specs.Syndromes.{column_at, HasSums}
use Rattle.decode.specs.Syndrome.{AreShares}
use Rattle.decode.proofs.Planned.{shares_same}
use Rattle.decode.proofs.Places.{rebuilt_by}

-- the slot of a fragment
abbrev slot_of : Bool → List ℕ → Option (Bor (List ℕ))
slot_of true xs = None
slot_of false xs = Some (record { ref_ptr = (0, 0); now = xs })

none_of : (lost : Bool) (xs : List ℕ) → is_none (slot_of lost xs) ≡ lost
none_of true xs = refl
none_of false xs = refl

byte_gone : (lost : Bool) (xs : List ℕ) (k : ℕ) → lost ≡ true → slice_index (bytes_of (slot_of lost xs)) k ≡ 0
byte_gone true xs k gone = refl
byte_gone false xs k gone = absurd (true≢false (sym gone))

byte_left : (lost : Bool) (xs : List ℕ) (k : ℕ) → lost ≡ false → slice_index (bytes_of (slot_of lost xs)) k ≡ slice_index xs k
byte_left true xs k left = absurd (true≢false left)
byte_left false xs k left = refl

agrees_of : (lost : Bool) (xs ys : List ℕ) (from to : ℕ) → (lost ≡ false → slice_range xs from to ≡ slice_range ys from to) → IfSome (slot_of lost ys) (λ x. slice_range xs from to ≡ slice_range x.now from to)
agrees_of true xs ys from to agrees = tt
agrees_of false xs ys from to agrees = agrees refl

module _ (lost : ℕ → Bool) (made : ℕ → List ℕ) where
  abbrev slot_at : ℕ → Option (Bor (List ℕ))
  slot_at i = slot_of (lost i) (made i)

  abbrev slots : List (Option (Bor (List ℕ)))
  slots = map slot_at (range_with_len 0 16)

  slot_is : (i : ℕ) → i < 16 → slot slots i ≡ slot_at i
  slot_is i l = get_or-map-range_with_len slot_at 0 16 i i None l (omega arith)

  absent : (i : ℕ) → i < 16 → lost i ≡ is_absent slots i
  absent i l = sym (ap is_none (slot_is i l) ∙ none_of (lost i) (made i))

  -- the sums by a fragment's shares are its bytes
  pub rebuilds_direct : (lists : List (Option (Bor (List ℕ)))) (g : ℕ) (shares : List ℕ) (from to : ℕ) (new : List ℕ) → g < 16 → from ≤ to → AreShares Wide lost g shares
      → length new ≡ to - from → HasSums lists (Some shares) (to - from) new
      → ((p k : ℕ) → p < 16 → lost p ≡ true → column_at lists k p ≡ 0)
      → ((p k : ℕ) → p < 16 → k < to - from → lost p ≡ false → column_at lists k p ≡ slice_index (made p) (from + k))
      → RebuildsFrom Wide lost made g from to new
  rebuilds_direct lists g shares from to new gl order are long sums gone left w s wide stripe agrees =
      rebuilt_by Wide slots lists g from to shares new gl order (shares_same Wide lost (is_absent slots) g shares (λ i l. absent i l) are) long sums
      (λ p k pl kl. elim (cases_Bool (lost p)) [
        | inl on ↦ gone p k pl on ∙ sym (ap (λ o. slice_index (bytes_of o) (from + k)) (slot_is p pl) ∙ byte_gone (lost p) (made p) (from + k) on)
        | inr off ↦ left p k pl kl off ∙ sym (ap (λ o. slice_index (bytes_of o) (from + k)) (slot_is p pl) ∙ byte_left (lost p) (made p) (from + k) off)
      ])
      w s wide stripe
      (λ i l. subst (λ o. IfSome o (λ x. slice_range (s i) from to ≡ slice_range x.now from to)) (sym (slot_is i l)) (agrees_of (lost i) (s i) (made i) from to (agrees i l)))
