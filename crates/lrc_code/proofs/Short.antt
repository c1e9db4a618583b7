-- A recipe has no more terms than the code has data fragments.
use Rattle.lrc_code.specs.declared.Code.{Code}
use Rattle.lrc_code.specs.declared.Code.TheVariants.{Wide, Small}
use Rattle.std.proofs.Common.{◌≡◌, ◌≢◌, ℕ, zero, suc, ◌+◌, ◌<◌, ◌≤◌, Bool, true, cond, length, bit_xor, refl, sym, ap, ap₂, ◌∙◌, subst, arith, inl, inr, length-append}
use Rattle.std.specs.Prelude.{◌==◌, ◌||◌}
use Rattle.std.proofs.lemmas.Bool.{cases_eq, cases_lt, eq-eqb, ne_eqb}
use lib.Bits.{xor_self}
use Rattle.gf256.specs.Field.{product}
use Rattle.gf256.proofs.Laws.{product-zero_left, product-zero_right, product_comm}
use Rattle.lrc_code.specs.Code.{fragment_count, data_count, weight, weights, first_group, second_group, is_only_lost_of}
use Rattle.lrc_code.specs.Recipe.{term_at, terms}
use Rattle.lrc_code.specs.Count.{count_below}
use Rattle.lrc_code.specs.ParityCheck.{reduced_weight, determinant}
use Rattle.lrc_code.proofs.Count.{without, true_without, count_without}
use Rattle.lrc_code.proofs.LostCounts.{side}
use Rattle.lrc_code.proofs.Opening.{reduced_weight-lt}
use Rattle.lrc_code.proofs.Solved.{Solving, determinant_some, reduced_weight_first, reduced_weight_second}
use Rattle.lrc_code.proofs.Local.{group_size, local_first, local_second, length_first, length_second}

-- the fragments that are no term
abbrev skipped : (ℕ → ℕ) → ℕ → ℕ → Bool
skipped r f i = (i == f) || (r i == 0)

terms_and_skipped : (r : ℕ → ℕ) (f n : ℕ) → length (terms r f n) + count_below (skipped r f) n ≡ n
unfolding terms
terms_and_skipped r f zero = refl
terms_and_skipped r f (suc n) =
    let rest = terms_and_skipped r f n in
    let one : length (term_at r f n) + cond (skipped r f n) 1 0 ≡ 1 = elim (cases_eq n f) [
      | inl same ↦ rw (eq-eqb n f same) refl
      | inr differ ↦ rw (ne_eqb n f differ) (elim (cases_eq (r n) 0) [ inl none ↦ rw (eq-eqb (r n) 0 none) refl | inr some ↦ rw (ne_eqb (r n) 0 some) refl ])
    ] in
    omega (arith, rest, one, length-append (terms r f n) (term_at r f n))

skips_itself : (r : ℕ → ℕ) (f : ℕ) → skipped r f f ≡ true
skips_itself r f = rw (eq-eqb f f refl) refl

skips_zero : (r : ℕ → ℕ) (f i : ℕ) → r i ≡ 0 → skipped r f i ≡ true
skips_zero r f i none = elim (cases_eq i f) [ inl same ↦ rw (eq-eqb i f same) refl | inr differ ↦ rw (ne_eqb i f differ, eq-eqb (r i) 0 none) refl ]

four_of : (t : ℕ → Bool) (n a b c d : ℕ) → a < n → b < n → c < n → d < n → b ≢ a → c ≢ a → c ≢ b → d ≢ a → d ≢ b → d ≢ c → t a ≡ true → t b ≡ true → t c ≡ true → t d ≡ true → 4 ≤ count_below t n
four_of t n a b c d al bl cl dl ba ca cb da db dc ta tb tc td =
    let t1 : ℕ → Bool = without t a in
    let t2 : ℕ → Bool = without t1 b in
    let t3 : ℕ → Bool = without t2 c in
    let one = count_without t a n al ta in
    let two = count_without t1 b n bl (true_without t a b ba tb) in
    let three = count_without t2 c n cl (true_without t1 b c cb (true_without t a c ca tc)) in
    let four = count_without t3 d n dl (true_without t2 c d dc (true_without t1 b d db (true_without t a d da td))) in
    omega (arith, one, two, three, four)

counts : (code : Code) → fragment_count code ≡ data_count code + 4
counts Wide = refl
counts Small = refl

groups : (code : Code) → group_size code ≤ data_count code
groups Wide = omega arith
groups Small = omega arith

-- a fragment of the first group, or of the second, from which both eliminations leave nothing
record Idle (code : Code) (p q e : ℕ) : Type 0 where
  pub place : ℕ
  pub inside : place < fragment_count code
  pub weighs : weight code e place ≡ 1
  pub third : reduced_weight code p q 2 place ≡ 0
  pub fourth : reduced_weight code p q 3 place ≡ 0

-- a sum of three products that are 0
none_left : (a b c d e : ℕ) → a ≡ 0 → b ≡ 0 → e ≡ 0 → bit_xor (bit_xor a (product b c)) (product d e) ≡ 0
none_left a b c d e x y z =
    ap₂ bit_xor (ap₂ bit_xor x (ap (λ t. product t c) y ∙ product-zero_left c)) (ap (product d) z ∙ product-zero_right d)

none_left_swapped : (a b c d e : ℕ) → a ≡ 0 → c ≡ 0 → d ≡ 0 → bit_xor (bit_xor a (product b c)) (product d e) ≡ 0
none_left_swapped a b c d e x y z =
    ap₂ bit_xor (ap₂ bit_xor x (ap (product b) y ∙ product-zero_right b)) (ap (λ t. product t e) z ∙ product-zero_left e)

first_parity : (code : Code) (q : ℕ) → Idle code (fragment_count code) q 0
unfolding weight weights
first_parity Wide q = record {
  place = 12;
  inside = omega arith;
  weighs = refl;
  third = none_left _ _ _ (weight Wide 2 q) _ refl refl refl;
  fourth = none_left _ _ _ (weight Wide 3 q) _ refl refl refl;
}
first_parity Small q = record {
  place = 6;
  inside = omega arith;
  weighs = refl;
  third = none_left _ _ _ (weight Small 2 q) _ refl refl refl;
  fourth = none_left _ _ _ (weight Small 3 q) _ refl refl refl;
}

second_parity : (code : Code) (p : ℕ) → Idle code p (fragment_count code) 1
unfolding weight weights
second_parity Wide p = record {
  place = 13;
  inside = omega arith;
  weighs = refl;
  third = none_left_swapped _ (weight Wide 2 p) _ _ _ refl refl refl;
  fourth = none_left_swapped _ (weight Wide 3 p) _ _ _ refl refl refl;
}
second_parity Small p = record {
  place = 7;
  inside = omega arith;
  weighs = refl;
  third = none_left_swapped _ (weight Small 2 p) _ _ _ refl refl refl;
  fourth = none_left_swapped _ (weight Small 3 p) _ _ _ refl refl refl;
}

module _ (code : Code) (lost : ℕ → Bool) (f p q g : ℕ) (s : Solving code lost f p q g) where
  idle_first : Idle code p q 0
  idle_first = elim (cases_lt p (fragment_count code)) [
    | inl inside ↦ (let w = s.p_first inside in record {
      place = p;
      inside = inside;
      weighs = w.0;
      third = reduced_weight_first code p q 2 (omega arith) s.p_inside w.0 w.1;
      fourth = reduced_weight_first code p q 3 (omega arith) s.p_inside w.0 w.1;
    })
    | inr past ↦ (let is : fragment_count code ≡ p = omega (arith, s.p_inside) in subst (λ n. Idle code n q 0) is (first_parity code q))
  ]

  idle_second : Idle code p q 1
  idle_second = elim (cases_lt q (fragment_count code)) [
    | inl inside ↦ (let w = s.q_second inside in record {
      place = q;
      inside = inside;
      weighs = w.0;
      third = reduced_weight_second code p q 2 (omega arith) s.q_inside w.0 w.1;
      fourth = reduced_weight_second code p q 3 (omega arith) s.q_inside w.0 w.1;
    })
    | inr past ↦ (let is : fragment_count code ≡ q = omega (arith, s.q_inside) in subst (λ n. Idle code p n 1) is (second_parity code p))
  ]

  zero_at : (i : ℕ) → reduced_weight code p q 2 i ≡ 0 → reduced_weight code p q 3 i ≡ 0 → determinant code p q g i ≡ 0
  zero_at i x y =
      ap₂ bit_xor (ap (product (reduced_weight code p q 3 g)) x ∙ product-zero_right (reduced_weight code p q 3 g)) (ap (product (reduced_weight code p q 2 g)) y ∙ product-zero_right (reduced_weight code p q 2 g))

  -- with such a g there would be no check
  not_idle : reduced_weight code p q 2 g ≡ 0 → reduced_weight code p q 3 g ≡ 0 → ⊥
  not_idle x y =
      determinant_some code lost f p q g s
      (ap₂ bit_xor (ap (λ t. product t (reduced_weight code p q 2 f)) y ∙ product-zero_left (reduced_weight code p q 2 f)) (ap (λ t. product t (reduced_weight code p q 3 f)) x ∙ product-zero_left (reduced_weight code p q 3 f)))

  zero_at_g : determinant code p q g g ≡ 0
  zero_at_g =
      ap (λ x. bit_xor x (product (reduced_weight code p q 2 g) (reduced_weight code p q 3 g))) (product_comm (reduced_weight code p q 3 g) (reduced_weight code p q 2 g) (reduced_weight-lt code p q 3 g (omega arith) s.p_inside s.q_inside s.g_inside) (reduced_weight-lt code p q 2 g (omega arith) s.p_inside s.q_inside s.g_inside))
      ∙ xor_self (product (reduced_weight code p q 2 g) (reduced_weight code p q 3 g))

  apart : (i j : ℕ) → i < fragment_count code → weight code 0 i ≡ 1 → weight code 1 j ≡ 1 → j ≢ i
  apart i j il one other same =
      elim (side code i il).not_both [
        | inl none ↦ (let e : 1 ≡ 0 = sym one ∙ none in omega (arith, e))
        | inr none ↦ (let e : 1 ≡ 0 = sym other ∙ (ap (weight code 1) same ∙ none) in omega (arith, e))
      ]

  -- a check has no weight at a fragment of each group, and at g, and these are three beside f
  pub short_global : (scale : ℕ) → length (terms (λ i. product scale (determinant code p q g i)) f (fragment_count code)) ≤ data_count code
  short_global scale =
      let r : ℕ → ℕ = λ i. product scale (determinant code p q g i) in
      let none : (i : ℕ) → determinant code p q g i ≡ 0 → skipped r f i ≡ true = λ i e. skips_zero r f i (ap (product scale) e ∙ product-zero_right scale) in
      let x : Idle code p q 0 = idle_first in
      let y : Idle code p q 1 = idle_second in
      let some = determinant_some code lost f p q g s in
      let at_x : determinant code p q g x.place ≡ 0 = zero_at x.place x.third x.fourth in
      let at_y : determinant code p q g y.place ≡ 0 = zero_at y.place y.third y.fourth in
      let four = four_of (skipped r f) (fragment_count code) f x.place y.place g s.f_inside x.inside y.inside s.g_inside
      (λ e. some (ap (determinant code p q g) (sym e) ∙ at_x))
      (λ e. some (ap (determinant code p q g) (sym e) ∙ at_y))
      (apart x.place y.place x.inside x.weighs y.weighs)
      (λ e. some (ap (determinant code p q g) (sym e) ∙ zero_at_g))
      (λ e. not_idle (ap (reduced_weight code p q 2) e ∙ x.third) (ap (reduced_weight code p q 3) e ∙ x.fourth))
      (λ e. not_idle (ap (reduced_weight code p q 2) e ∙ y.third) (ap (reduced_weight code p q 3) e ∙ y.fourth))
      (skips_itself r f) (none x.place at_x) (none y.place at_y) (none g zero_at_g) in
      omega (arith, four, terms_and_skipped r f (fragment_count code), counts code)

pub short_first : (code : Code) (lost : ℕ → Bool) (f : ℕ) → is_only_lost_of lost (first_group code) f ≡ true → length (terms (weight code 0) f (fragment_count code)) ≤ data_count code
short_first code lost f h = omega (arith, ap length (local_first code lost f h) ∙ length_first code lost f h, groups code)

pub short_second : (code : Code) (lost : ℕ → Bool) (f : ℕ) → is_only_lost_of lost (second_group code) f ≡ true → length (terms (weight code 1) f (fragment_count code)) ≤ data_count code
short_second code lost f h = omega (arith, ap length (local_second code lost f h) ∙ length_second code lost f h, groups code)
