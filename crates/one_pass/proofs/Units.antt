-- Sums of the lanes of the four syndromes.
use Rattle.std.proofs.Common.{◌≡◌, ℕ, ◌<◌, bit_xor, refl, ap, ap₂, ◌∙◌}
use Rattle.std.proofs.lemmas.Nat.{xor_comm}
use lib.Bits.{xor_zero_r}
use Rattle.gf256.specs.Field.{product}
use Rattle.gf256.proofs.Laws.{product-zero_left, product-one_left}
use Rattle.kernels.specs.Lists.{xor_sum, combined}
use Rattle.kernels.proofs.GroupLemmas.{each_of_four}
use Rattle.one_pass.specs.Weights.{unit}

-- the terms, one by one
pub sum_of_four : (g : ℕ → ℕ) → xor_sum 4 g ≡ bit_xor (bit_xor (bit_xor (bit_xor 0 (g 0)) (g 1)) (g 2)) (g 3)
unfolding xor_sum
sum_of_four g = refl

-- a syndrome that counts alone, and once
pub unit_combined : (s : ℕ → ℕ) (e : ℕ) → e < 4 → s e < 256 → combined (unit e) s ≡ s e
unit_combined s = each_of_four (λ e. s e < 256 → combined (unit e) s ≡ s e)
    (λ small. sum_of_four _ ∙ ap₂ bit_xor (ap₂ bit_xor (ap₂ bit_xor (ap (bit_xor 0) (one 0 small)) (none 1)) (none 2)) (none 3) ∙ zeros_after (bit_xor 0 (s 0)) ∙ zero_before (s 0))
    (λ small. sum_of_four _ ∙ ap₂ bit_xor (ap₂ bit_xor (ap₂ bit_xor (ap (bit_xor 0) (none 0)) (one 1 small)) (none 2)) (none 3) ∙ zeros_two (bit_xor (bit_xor 0 0) (s 1)) ∙ zero_before (s 1))
    (λ small. sum_of_four _ ∙ ap₂ bit_xor (ap₂ bit_xor (ap₂ bit_xor (ap (bit_xor 0) (none 0)) (none 1)) (one 2 small)) (none 3) ∙ xor_zero_r (bit_xor (bit_xor (bit_xor 0 0) 0) (s 2)) ∙ zero_before (s 2))
    (λ small. sum_of_four _ ∙ ap₂ bit_xor (ap₂ bit_xor (ap₂ bit_xor (ap (bit_xor 0) (none 0)) (none 1)) (none 2)) (one 3 small) ∙ zero_before (s 3)) where
      one : (i : ℕ) → s i < 256 → product 1 (s i) ≡ s i
      one i small = product-one_left (s i) small

      none : (i : ℕ) → product 0 (s i) ≡ 0
      none i = product-zero_left (s i)

      zero_before : (x : ℕ) → bit_xor 0 x ≡ x
      zero_before x = xor_comm 0 x ∙ xor_zero_r x

      zeros_two : (x : ℕ) → bit_xor (bit_xor x 0) 0 ≡ x
      zeros_two x = xor_zero_r (bit_xor x 0) ∙ xor_zero_r x

      zeros_after : (x : ℕ) → bit_xor (bit_xor (bit_xor x 0) 0) 0 ≡ x
      zeros_after x = xor_zero_r (bit_xor (bit_xor x 0) 0) ∙ zeros_two x
