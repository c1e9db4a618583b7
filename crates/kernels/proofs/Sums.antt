-- Sums of n terms.
use Rattle.std.proofs.Common.{◌≡◌, ◌≢◌, ℕ, zero, suc, ◌<◌, cond, eqb, bit_xor, refl, sym, ap, ap₂, ◌∙◌, arith, inl, inr}
use Rattle.std.proofs.lemmas.Bool.{cases_eq, eq-eqb, ne_eqb}
use lib.Bits.{xor_zero_r}
use Rattle.std.proofs.lemmas.Nat.{xor_of_8}
use Rattle.gf256.specs.Field.{product}
use Rattle.kernels.specs.Lists.{xor_sum}
use Rattle.gf256.proofs.Linear.{xor_cross, product-xor_right}
use Rattle.gf256.proofs.Laws.{product-zero_right}

-- equal terms, equal sums
pub xor_sum_same : (n : ℕ) (g h : ℕ → ℕ) → ((i : ℕ) → i < n → g i ≡ h i) → xor_sum n g ≡ xor_sum n h
unfolding xor_sum
xor_sum_same zero g h e = refl
xor_sum_same (suc n) g h e = ap₂ bit_xor (xor_sum_same n g h (λ i l. e i (omega arith))) (e n (omega arith))

pub xor_sum-xor : (n : ℕ) (g h : ℕ → ℕ) → xor_sum n (λ i. bit_xor (g i) (h i)) ≡ bit_xor (xor_sum n g) (xor_sum n h)
unfolding xor_sum
xor_sum-xor zero g h = refl
xor_sum-xor (suc n) g h = ap (λ x. bit_xor x (bit_xor (g n) (h n))) (xor_sum-xor n g h) ∙ xor_cross (xor_sum n g) (xor_sum n h) (g n) (h n)

pub xor_sum-scaled : (n k : ℕ) (g : ℕ → ℕ) → xor_sum n (λ i. product k (g i)) ≡ product k (xor_sum n g)
unfolding xor_sum
xor_sum-scaled zero k g = sym (product-zero_right k)
xor_sum-scaled (suc n) k g = ap (λ x. bit_xor x (product k (g n))) (xor_sum-scaled n k g) ∙ sym (product-xor_right k _ _)

pub xor_sum_zero : (n : ℕ) (g : ℕ → ℕ) → ((i : ℕ) → i < n → g i ≡ 0) → xor_sum n g ≡ 0
unfolding xor_sum
xor_sum_zero zero g e = refl
xor_sum_zero (suc n) g e = ap₂ bit_xor (xor_sum_zero n g (λ i l. e i (omega arith))) (e n (omega arith))

pub xor_sum-lt : (n : ℕ) (g : ℕ → ℕ) → ((i : ℕ) → i < n → g i < 256) → xor_sum n g < 256
unfolding xor_sum
xor_sum-lt zero g h = omega arith
xor_sum-lt (suc n) g h = xor_of_8 _ _ (xor_sum-lt n g (λ i l. h i (omega arith))) (h n (omega arith))

-- a number at one place, and 0 elsewhere
abbrev pub at_place : ℕ → ℕ → ℕ → ℕ
at_place p v i = cond (eqb i p) v 0

pub at_place_same : (p v : ℕ) → at_place p v p ≡ v
at_place_same p v = rw (eq-eqb p p refl) refl

pub at_place_other : (p v i : ℕ) → i ≢ p → at_place p v i ≡ 0
at_place_other p v i d = rw (ne_eqb i p d) refl

-- a sum with one term that is not 0
pub xor_sum_one : (n p : ℕ) (g : ℕ → ℕ) → p < n → ((i : ℕ) → i < n → i ≢ p → g i ≡ 0) → xor_sum n g ≡ g p
unfolding xor_sum
xor_sum_one zero p g l e = absurd (omega arith)
xor_sum_one (suc n) p g l e =
    elim (cases_eq p n) [
      | inl same ↦
          let none : xor_sum n g ≡ 0 = xor_sum_zero n g (λ i m. e i (omega arith) (omega arith)) in
          ap (λ x. bit_xor x (g n)) none ∙ ap g (sym same)
      | inr differ ↦
          let last : g n ≡ 0 = e n (omega arith) (λ q. differ (sym q)) in
          let rest : xor_sum n g ≡ g p = xor_sum_one n p g (omega arith) (λ i m d. e i (omega arith) d) in
          ap₂ bit_xor rest last ∙ xor_zero_r (g p)
    ]

-- the term at p beside the others
pub xor_sum_split : (n p : ℕ) (g : ℕ → ℕ) → p < n → xor_sum n g ≡ bit_xor (g p) (xor_sum n (λ i. cond (eqb i p) 0 (g i)))
xor_sum_split n p g l =
    let parts : (i : ℕ) → i < n → g i ≡ bit_xor (at_place p (g p) i) (cond (eqb i p) 0 (g i)) =
    λ i m. elim (cases_eq i p) [
      | inl same ↦ rw (eq-eqb i p same) (sym (xor_zero_r (g p) ∙ ap g (sym same)))
      | inr differ ↦ rw (ne_eqb i p differ) refl
    ] in
    xor_sum_same n g _ parts
    ∙ xor_sum-xor n (at_place p (g p)) (λ i. cond (eqb i p) 0 (g i))
    ∙ ap (λ x. bit_xor x (xor_sum n (λ i. cond (eqb i p) 0 (g i))))
    (xor_sum_one n p (at_place p (g p)) l (λ i m d. at_place_other p (g p) i d) ∙ at_place_same p (g p))

-- the order of two sums
pub xor_sum_swap : (n m : ℕ) (g : ℕ → ℕ → ℕ) → xor_sum n (λ i. xor_sum m (λ j. g i j)) ≡ xor_sum m (λ j. xor_sum n (λ i. g i j))
unfolding xor_sum
xor_sum_swap zero m g = sym (xor_sum_zero m (λ j. 0) (λ j l. refl))
xor_sum_swap (suc n) m g =
    ap (λ x. bit_xor x (xor_sum m (λ j. g n j))) (xor_sum_swap n m g)
    ∙ sym (xor_sum-xor m (λ j. xor_sum n (λ i. g i j)) (λ j. g n j))
