-- The factors of the equations of a check.
use Rattle.lrc_code.specs.declared.Code.{Code}
use Rattle.std.proofs.Common.{◌≡◌, ℕ, ◌<◌, [], ◌∷◌, get_or, bit_xor, ap, ap₂, ◌∙◌, arith}
use lib.Bits.{xor_comm, xor_zero_r}
use Rattle.gf256.specs.Field.{product}
use Rattle.gf256.proofs.Laws.{product-one_left, product-zero_left}
use Rattle.lrc_code.specs.Code.{fragment_count, weight, xor_sum}
use Rattle.lrc_code.specs.Factors.{factored_weight}
use Rattle.lrc_code.proofs.Witness.{weight-lt}

pub sum_of_four : (g : ℕ → ℕ) → xor_sum 4 g ≡ bit_xor (bit_xor (bit_xor (g 0) (g 1)) (g 2)) (g 3)
unfolding xor_sum
sum_of_four g = ap (λ x. bit_xor (bit_xor (bit_xor x (g 1)) (g 2)) (g 3)) (xor_comm 0 (g 0) ∙ xor_zero_r (g 0))

pub first_alone : (code : Code) (i : ℕ) → i < fragment_count code → factored_weight code (1 ∷ 0 ∷ 0 ∷ 0 ∷ []) i ≡ weight code 0 i
first_alone code i l =
    sum_of_four (λ e. product (get_or (1 ∷ 0 ∷ 0 ∷ 0 ∷ []) e 0) (weight code e i))
    ∙ ap₂ bit_xor (ap₂ bit_xor (ap₂ bit_xor (product-one_left (weight code 0 i) (weight-lt code 0 i (omega arith) (omega arith))) (product-zero_left (weight code 1 i))) (product-zero_left (weight code 2 i))) (product-zero_left (weight code 3 i))
    ∙ xor_zero_r (bit_xor (bit_xor (weight code 0 i) 0) 0) ∙ xor_zero_r (bit_xor (weight code 0 i) 0) ∙ xor_zero_r (weight code 0 i)

pub second_alone : (code : Code) (i : ℕ) → i < fragment_count code → factored_weight code (0 ∷ 1 ∷ 0 ∷ 0 ∷ []) i ≡ weight code 1 i
second_alone code i l =
    sum_of_four (λ e. product (get_or (0 ∷ 1 ∷ 0 ∷ 0 ∷ []) e 0) (weight code e i))
    ∙ ap₂ bit_xor (ap₂ bit_xor (ap₂ bit_xor (product-zero_left (weight code 0 i)) (product-one_left (weight code 1 i) (weight-lt code 1 i (omega arith) (omega arith)))) (product-zero_left (weight code 2 i))) (product-zero_left (weight code 3 i))
    ∙ xor_zero_r (bit_xor (bit_xor 0 (weight code 1 i)) 0) ∙ xor_zero_r (bit_xor 0 (weight code 1 i)) ∙ xor_comm 0 (weight code 1 i) ∙ xor_zero_r (weight code 1 i)
