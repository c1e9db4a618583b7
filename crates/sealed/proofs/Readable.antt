-- Unrecoverable bytes of a range, found by the data fragments that it overlaps.
use Rattle.std.proofs.Common.{◌≡◌, ℕ, ◌+◌, ◌-◌, ◌*◌, ◌/◌, ◌%◌, ◌<◌, ◌≤◌, Bool, max, sym, ◌∙◌, ap, subst, arith}
use Rattle.std.proofs.Math.Nat.{div-eq_of_lt-le, div-mul-le_self, lt-div-mul-add, mul-le-mul_right}
use Rattle.lrc_code.specs.declared.Code.{Code}
use Rattle.lrc_code.specs.Code.{data_count, Open}
use Rattle.sealed.specs.Layout.{stripe_count, stripe_of, fragment_of}
use Rattle.sealed.proofs.Counting.{div_mono}
use Rattle.sealed.proofs.Places.{stripe_by_count, fragment_by_count, stripe_below}
use Rattle.sealed.specs.Range.{HasUnrecoverableByte, cut_end}

-- the range meets the k-th data fragment of the blob
pub record Meets (w start len k : ℕ) : Type 0 where
  pub first : start / w ≤ k
  pub last : k < cut_end w start len

pub some_met : (w start len k : ℕ) → Meets w start len k → (0 < len) × (k ≤ (start + len - 1) / w)
some_met w start len k met = grind (arith, met.first, met.last)

end_above : (w start len : ℕ) → 0 < len → (start + len - 1) / w < cut_end w start len
end_above w start len some = grind arith

-- the k-th data fragment is unrecoverable
abbrev pub OpenAt : Code → (ℕ → ℕ → Bool) → ℕ → Type 0
OpenAt code lost k = Open code (lost (k / data_count code)) (k % data_count code)

module _ (code : Code) (w : ℕ) (some : 1 ≤ w) (start len : ℕ) where
  -- a fragment that the range meets begins below the range's end
  pub begins_below : (k : ℕ) → Meets w start len k → k * w < start + len
  begins_below k met =
      let m = some_met w start len k met in
      let whole : (start + len - 1) / w * w ≤ start + len - 1 = div-mul-le_self (start + len - 1) w in
      let scaled : k * w ≤ (start + len - 1) / w * w = mul-le-mul_right w m.1 in
      omega (arith, m.0)

  pub stripe_met : (k blob_len : ℕ) → Meets w start len k → start + len ≤ blob_len → k / data_count code < stripe_count code w blob_len
  stripe_met k blob_len met inside =
      let below = begins_below k met in stripe_below code w some k blob_len (omega arith)

  -- and holds a byte of the range
  byte_met : (k : ℕ) → Meets w start len k → (i : ℕ) × (start ≤ i) × (i < start + len) × (i / w ≡ k)
  byte_met k met =
      let m = some_met w start len k met in
      let begins = begins_below k met in
      let before : start < start / w * w + w = lt-div-mul-add some in
      let scaled : start / w * w ≤ k * w = mul-le-mul_right w met.first in
      (max start (k * w), omega arith, omega (arith, m.0), div-eq_of_lt-le w (omega arith) (omega arith))

  -- each byte of the range lies in a fragment that is met
  met_around : (i : ℕ) → start ≤ i → i < start + len → Meets w start len (i / w)
  met_around i low high =
      let a : start / w ≤ i / w = div_mono w start i some low in
      let b : i / w ≤ (start + len - 1) / w = div_mono w i (start + len - 1) some (omega arith) in
      let c : (start + len - 1) / w < cut_end w start len = end_above w start len (omega arith) in
      record { first = a; last = omega arith }

  pub has_open : (lost : ℕ → ℕ → Bool) (k : ℕ) → Meets w start len k → OpenAt code lost k → HasUnrecoverableByte code w lost start len
  has_open lost k met opened =
      let u = byte_met k met in
      let i = u.0 in
      let stripe : k / data_count code ≡ stripe_of code w i = ap (λ n. n / data_count code) (sym u.3) ∙ sym (stripe_by_count code w some i) in
      let f : k % data_count code ≡ fragment_of code w i = ap (λ n. n % data_count code) (sym u.3) ∙ sym (fragment_by_count code w some i) in
      (i, u.1, u.2, subst (λ g. Open code (lost (stripe_of code w i)) g) f (subst (λ j. Open code (lost j) (k % data_count code)) stripe opened))

  pub has_none : (lost : ℕ → ℕ → Bool) → ((k : ℕ) → Meets w start len k → OpenAt code lost k → ⊥) → HasUnrecoverableByte code w lost start len → ⊥
  has_none lost closed has =
      let i = has.0 in
      let at_stripe : Open code (lost ((i / w) / data_count code)) (fragment_of code w i) = subst (λ j. Open code (lost j) (fragment_of code w i)) (stripe_by_count code w some i) has.3 in
      closed (i / w) (met_around i has.1 has.2) (subst (λ g. Open code (lost ((i / w) / data_count code)) g) (fragment_by_count code w some i) at_stripe)
