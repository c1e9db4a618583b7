-- The column of given data bytes is the one column that has them.
use Rattle.std.proofs.Common.{◌≡◌, ℕ, ◌+◌, ◌-◌, ◌<◌, true, bit_xor, refl, sym, ap, ap₂, ◌∙◌, subst, arith, inl, inr, eqb, eqb-true}
use Rattle.std.proofs.lemmas.Bool.{cases_lt}
use lib.Bits.{xor_self, xor_zero_r}
use Rattle.gf256.specs.Field.{product, carryless_product, reduced}
use Rattle.gf256.proofs.Laws.{product-zero_left, product-one_left, product-lt, same_from_xor, all_below, every_below}
use Rattle.lrc_code.specs.declared.Code.{Code}
use Rattle.lrc_code.specs.declared.Code.TheVariants.{Wide, Small}
use Rattle.lrc_code.specs.Code.{xor_sum, weights, weight, fragment_count, IsColumn, data_count}
use Rattle.lrc_code.specs.Column.{column, parity_of}
use Rattle.kernels.proofs.Sums.{xor_sum_same, xor_sum-lt}
use Rattle.lrc_code.proofs.Witness.{weight-lt}
use Rattle.lrc_code.proofs.Opening.{each_of_four}

-- the four parities behind a sum, of which one is weighed by 1 and the others by 0
first_of_four : (s a b c d : ℕ) → a < 256 → bit_xor (bit_xor (bit_xor (bit_xor s (product 1 a)) (product 0 b)) (product 0 c)) (product 0 d) ≡ bit_xor s a
first_of_four s a b c d l = rw (product-one_left a l, product-zero_left b, product-zero_left c, product-zero_left d, xor_zero_r (bit_xor s a), xor_zero_r (bit_xor s a), xor_zero_r (bit_xor s a)) refl

second_of_four : (s a b c d : ℕ) → b < 256 → bit_xor (bit_xor (bit_xor (bit_xor s (product 0 a)) (product 1 b)) (product 0 c)) (product 0 d) ≡ bit_xor s b
second_of_four s a b c d l = rw (product-zero_left a, product-one_left b l, product-zero_left c, product-zero_left d, xor_zero_r s, xor_zero_r (bit_xor s b), xor_zero_r (bit_xor s b)) refl

third_of_four : (s a b c d : ℕ) → c < 256 → bit_xor (bit_xor (bit_xor (bit_xor s (product 0 a)) (product 0 b)) (product 1 c)) (product 0 d) ≡ bit_xor s c
third_of_four s a b c d l = rw (product-zero_left a, product-zero_left b, product-one_left c l, product-zero_left d, xor_zero_r s, xor_zero_r s, xor_zero_r (bit_xor s c)) refl

fourth_of_four : (s a b c d : ℕ) → d < 256 → bit_xor (bit_xor (bit_xor (bit_xor s (product 0 a)) (product 0 b)) (product 0 c)) (product 1 d) ≡ bit_xor s d
fourth_of_four s a b c d l = rw (product-zero_left a, product-zero_left b, product-zero_left c, product-one_left d l, xor_zero_r s, xor_zero_r s, xor_zero_r s) refl

-- an equation has one parity, which it weighs by 1
pub equation : (code : Code) (c : ℕ → ℕ) → ((i : ℕ) → i < fragment_count code → c i < 256) → (k : ℕ) → k < 4
    → xor_sum (fragment_count code) (λ i. product (weight code k i) (c i)) ≡ bit_xor (parity_of code k c) (c (data_count code + k))
unfolding xor_sum weight weights
equation Wide c l =
    each_of_four (λ k. xor_sum 16 (λ i. product (weight Wide k i) (c i)) ≡ bit_xor (parity_of Wide k c) (c (12 + k)))
    (first_of_four (parity_of Wide 0 c) (c 12) (c 13) (c 14) (c 15) (l 12 (omega arith)))
    (second_of_four (parity_of Wide 1 c) (c 12) (c 13) (c 14) (c 15) (l 13 (omega arith)))
    (third_of_four (parity_of Wide 2 c) (c 12) (c 13) (c 14) (c 15) (l 14 (omega arith)))
    (fourth_of_four (parity_of Wide 3 c) (c 12) (c 13) (c 14) (c 15) (l 15 (omega arith)))
equation Small c l =
    each_of_four (λ k. xor_sum 10 (λ i. product (weight Small k i) (c i)) ≡ bit_xor (parity_of Small k c) (c (6 + k)))
    (first_of_four (parity_of Small 0 c) (c 6) (c 7) (c 8) (c 9) (l 6 (omega arith)))
    (second_of_four (parity_of Small 1 c) (c 6) (c 7) (c 8) (c 9) (l 7 (omega arith)))
    (third_of_four (parity_of Small 2 c) (c 6) (c 7) (c 8) (c 9) (l 8 (omega arith)))
    (fourth_of_four (parity_of Small 3 c) (c 6) (c 7) (c 8) (c 9) (l 9 (omega arith)))

pub count_with_parities : (code : Code) → fragment_count code ≡ data_count code + 4
count_with_parities Wide = refl
count_with_parities Small = refl

-- the two kinds of fragment
pub column_data : (code : Code) (d : ℕ → ℕ) (i : ℕ) → i < data_count code → column code d i ≡ d i
column_data code d i l = grind (arith, l)

pub column_parity : (code : Code) (d : ℕ → ℕ) (k : ℕ) → column code d (data_count code + k) ≡ parity_of code k d
column_parity code d k = grind (arith)

-- the law: it is a column
pub column_is : (code : Code) (d : ℕ → ℕ) → ((i : ℕ) → i < data_count code → d i < 256) → IsColumn code (column code d)
column_is code d l =
    let data_lt : (k : ℕ) → k < 4 → parity_of code k d < 256 = λ k h. xor_sum-lt (data_count code) _ (λ g below. product-lt _ _ (weight-lt code k g h (let f = count_with_parities code in omega arith)) (l g below)) in
    let byte : (i : ℕ) → i < fragment_count code → column code d i < 256 = λ i h.
    elim (cases_lt i (data_count code)) [
      | inl below ↦ subst (λ x. x < 256) (sym (column_data code d i below)) (l i below)
      | inr past ↦
          let k = i - data_count code in
          let here : data_count code + k ≡ i = omega arith in
          subst (λ j. column code d j < 256) here (subst (λ x. x < 256) (sym (column_parity code d k)) (data_lt k (let f = count_with_parities code in omega arith)))
    ] in
    record {
      bytes = byte;
      sums = λ k h.
          equation code (column code d) byte k h
          ∙ ap₂ bit_xor (xor_sum_same (data_count code) _ _ (λ g below. ap (product (weight code k g)) (column_data code d g below))) (column_parity code d k)
          ∙ xor_self (parity_of code k d);
    }

-- and it is the only one that has these data bytes
pub column_only : (code : Code) (c d : ℕ → ℕ) → IsColumn code c → ((g : ℕ) → g < data_count code → c g ≡ d g) → (i : ℕ) → i < fragment_count code → c i ≡ column code d i
column_only code c d is same i h =
    elim (cases_lt i (data_count code)) [
      | inl below ↦ same i below ∙ sym (column_data code d i below)
      | inr past ↦
          let k = i - data_count code in
          let here : data_count code + k ≡ i = omega arith in
          let few : k < 4 = (let f = count_with_parities code in omega arith) in
          let zero_sum : bit_xor (parity_of code k c) (c (data_count code + k)) ≡ 0 = sym (equation code c is.bytes k few) ∙ is.sums k few in
          let own : parity_of code k c ≡ c (data_count code + k) = same_from_xor _ _ zero_sum in
          subst (λ j. c j ≡ column code d j) here
          (sym own ∙ xor_sum_same (data_count code) _ _ (λ g below. ap (product (weight code k g)) (same g below)) ∙ sym (column_parity code d k))
    ]

-- the fourth equation weighs the data by the squares of their weights in the third
squares : (code : Code) → all_below (λ i. eqb (weight code 3 i) (product (weight code 2 i) (weight code 2 i))) (data_count code) ≡ true
unfolding weight weights product carryless_product reduced
squares Wide = refl
squares Small = refl

pub fourth_are_squares : (code : Code) (i : ℕ) → i < data_count code → weight code 3 i ≡ product (weight code 2 i) (weight code 2 i)
fourth_are_squares code i l = eqb-true _ _ (every_below (λ i. eqb (weight code 3 i) (product (weight code 2 i) (weight code 2 i))) (data_count code) (squares code) i l)
