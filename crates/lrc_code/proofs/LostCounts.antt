-- What the numbers lost of the two groups and of the global parities say about single fragments.
use Rattle.lrc_code.specs.declared.Code.{Code}
use Rattle.lrc_code.specs.declared.Code.TheVariants.{Wide, Small}
use Rattle.std.proofs.Common.{◌-◌, ◌≡◌, ℕ, ◌+◌, ◌<◌, ◌⊎◌, Bool, true, ◌&&◌, ◌||◌, cond, eqb, refl, arith, inl, inr, eqb-true}
use Rattle.std.specs.Prelude.{count_by, ◌==◌}
use Rattle.std.specs.List.{list_any}
use Rattle.std.proofs.lemmas.Bool.{and_parts, or_cases}
use Rattle.gf256.specs.Field.{product, carryless_product, reduced}
use Rattle.lrc_code.specs.Code.{fragment_count, weight, weights, first_group, second_group, globals}
use Rattle.lrc_code.proofs.Computed.{test_below, passes_below}
use Rattle.lrc_code.specs.Count.{count_below}

-- the lost fragments that are in equation e, and those in neither of the first two
abbrev pub lost_in : Code → ℕ → (ℕ → Bool) → ℕ → Bool
lost_in code e lost i = eqb (weight code e i) 1 && lost i

abbrev pub lost_global : Code → (ℕ → Bool) → ℕ → Bool
lost_global code lost i = eqb (weight code 0 i) 0 && (eqb (weight code 1 i) 0 && lost i)

pub first_count : (code : Code) → (lost : ℕ → Bool) → count_by lost (first_group code) ≡ count_below (lost_in code 0 lost) (fragment_count code)
unfolding weight weights
first_count Wide lost = omega arith
first_count Small lost = omega arith

pub second_count : (code : Code) → (lost : ℕ → Bool) → count_by lost (second_group code) ≡ count_below (lost_in code 1 lost) (fragment_count code)
unfolding weight weights
second_count Wide lost = omega arith
second_count Small lost = omega arith

pub global_count : (code : Code) → (lost : ℕ → Bool) → count_by lost (globals code) ≡ count_below (lost_global code lost) (fragment_count code)
unfolding weight weights
global_count Wide lost = omega arith
global_count Small lost = omega arith

pub whole_count : (code : Code) → (lost : ℕ → Bool) → count_below lost (fragment_count code) ≡ count_below (lost_in code 0 lost) (fragment_count code) + count_below (lost_in code 1 lost) (fragment_count code) + count_below (lost_global code lost) (fragment_count code)
unfolding weight weights
whole_count Wide lost = omega arith
whole_count Small lost = omega arith

-- a fragment is in one of the first two equations at most, with weight 1
sides_all : (code : Code) → test_below (λ i. (eqb (weight code 0 i) 0 || eqb (weight code 0 i) 1) && (eqb (weight code 1 i) 0 || eqb (weight code 1 i) 1) && (eqb (weight code 0 i) 0 || eqb (weight code 1 i) 0)) (fragment_count code) ≡ true
unfolding weight weights
sides_all Wide = refl
sides_all Small = refl

pub record Side (code : Code) (i : ℕ) : Type 0 where
  pub first : (weight code 0 i ≡ 0) ⊎ (weight code 0 i ≡ 1)
  pub second : (weight code 1 i ≡ 0) ⊎ (weight code 1 i ≡ 1)
  pub not_both : (weight code 0 i ≡ 0) ⊎ (weight code 1 i ≡ 0)

or_of : (a b c d : ℕ) → (eqb a b || eqb c d) ≡ true → (a ≡ b) ⊎ (c ≡ d)
or_of a b c d h = elim (or_cases (eqb a b) (eqb c d) h) [ inl x ↦ inl (eqb-true a b x) | inr y ↦ inr (eqb-true c d y) ]

pub side : (code : Code) → (i : ℕ) → i < fragment_count code → Side code i
side code i l =
    let all = passes_below (λ i. (eqb (weight code 0 i) 0 || eqb (weight code 0 i) 1) && (eqb (weight code 1 i) 0 || eqb (weight code 1 i) 1) && (eqb (weight code 0 i) 0 || eqb (weight code 1 i) 0)) (fragment_count code) (sides_all code) i l in
    let both = and_parts ((eqb (weight code 0 i) 0 || eqb (weight code 0 i) 1) && (eqb (weight code 1 i) 0 || eqb (weight code 1 i) 1)) (eqb (weight code 0 i) 0 || eqb (weight code 1 i) 0) all in
    let each = and_parts (eqb (weight code 0 i) 0 || eqb (weight code 0 i) 1) (eqb (weight code 1 i) 0 || eqb (weight code 1 i) 1) both.0 in
    record { first = or_of _ _ _ _ each.0; second = or_of _ _ _ _ each.1; not_both = or_of _ _ _ _ both.1 }

-- membership of a group, by weights
pub first_member : (code : Code) → test_below (λ f. cond (list_any (λ i. i == f) (first_group code)) (eqb (weight code 0 f) 1) (eqb (weight code 0 f) 0)) (fragment_count code) ≡ true
unfolding weight weights
first_member Wide = refl
first_member Small = refl

pub second_member : (code : Code) → test_below (λ f. cond (list_any (λ i. i == f) (second_group code)) (eqb (weight code 1 f) 1) (eqb (weight code 1 f) 0)) (fragment_count code) ≡ true
unfolding weight weights
second_member Wide = refl
second_member Small = refl

-- the last row has the squares of the third
squares_all : (code : Code) → test_below (λ i. eqb (weight code 3 i) (product (weight code 2 i) (weight code 2 i))) (fragment_count code - 2) ≡ true
unfolding product carryless_product reduced weight weights
squares_all Wide = refl
squares_all Small = refl

pub squares : (code : Code) (i : ℕ) → i < fragment_count code - 2 → weight code 3 i ≡ product (weight code 2 i) (weight code 2 i)
squares code i l = eqb-true _ _ (passes_below (λ i. eqb (weight code 3 i) (product (weight code 2 i) (weight code 2 i))) (fragment_count code - 2) (squares_all code) i l)
