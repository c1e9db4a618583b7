-- The sums of the parity equations that a recipe is taken from.
use Rattle.lrc_code.specs.declared.Code.{Code}
use Rattle.std.specs.Prelude.{◌≡◌, ℕ, ◌-◌, ◌<◌, ◌≤◌, bit_xor, Bool, true, false, List, Option, Some, None, MatchOption, ◌==◌, if◌then◌else◌}
use Rattle.std.specs.List.{All, Contains}
use Rattle.gf256.specs.Field.{product}
use Rattle.lrc_code.specs.Code.{fragment_count, weight, first_group, second_group}
use Rattle.lrc_code.specs.Recipe.{terms, local_recipe}
use Rattle.lrc_code.specs.declared.recipes.Term.{Term}
use Rattle.lrc_code.specs.Factors.{factored_weight}
use Rattle.lrc_code.specs.declared.recipes.ParityCheck.{ParityCheck}
use Rattle.lrc_code.specs.declared.recipes.ParityCheck.TheVariants.{First, Second, Global}

-- what the fragment i weighs in the equation k, from which p and q are eliminated by the equations of the two groups
abbrev pub reduced_weight : Code → ℕ → ℕ → ℕ → ℕ → ℕ
reduced_weight code p q k i = bit_xor (bit_xor (weight code k i) (product (weight code k p) (weight code 0 i))) (product (weight code k q) (weight code 1 i))

-- the determinant of the reduced weights of i and g in the equations 2 and 3
abbrev pub determinant : Code → ℕ → ℕ → ℕ → ℕ → ℕ
determinant code p q g i = bit_xor (product (reduced_weight code p q 3 g) (reduced_weight code p q 2 i)) (product (reduced_weight code p q 2 g) (reduced_weight code p q 3 i))

-- what the fragment i weighs in a check
abbrev pub check_weight : Code → ParityCheck → ℕ → ℕ
check_weight code First i = weight code 0 i
check_weight code Second i = weight code 1 i
check_weight code (Global p q g scale) i = product scale (determinant code p q g i)

-- what a check multiplies the weights of a fragment in the four equations by
abbrev pub AreFactors : Code → ParityCheck → List ℕ → Type 0
AreFactors code check factors = (i : ℕ) → i < fragment_count code → factored_weight code factors i ≡ check_weight code check i

abbrev pub IsParityCheck : Code → ParityCheck → Type 0
IsParityCheck code First = Unit {0}
IsParityCheck code Second = Unit {0}
IsParityCheck code (Global p q g scale) = (p ≤ fragment_count code) × (q ≤ fragment_count code) × (g < fragment_count code)

-- the place of a fragment that was looked for: the one after the last where there is none
abbrev pub found_place : Code → Option ℕ → ℕ
found_place code (Some i) = i
found_place code None = fragment_count code

-- the first of the fragments that t has
abbrev pub FirstOf : (ℕ → Bool) → List ℕ → Option ℕ → Type 0
FirstOf t fragments found = MatchOption found (All (λ i. t i ≡ false) fragments) (λ i. (t i ≡ true) × Contains fragments i)

-- the fragment that is not to be used, beside those that are eliminated: one that is lost, or a global one
abbrev pub other_of : Code → ℕ → Option ℕ → ℕ
other_of code f (Some g) = g
other_of code f None = if f == fragment_count code - 1 then fragment_count code - 2 else fragment_count code - 1

-- the terms of a recipe by a check: of a group the others, each times 1
abbrev pub terms_by : Code → ParityCheck → ℕ → List Term
terms_by code First f = local_recipe (first_group code) f
terms_by code Second f = local_recipe (second_group code) f
terms_by code (Global p q g scale) f = terms (check_weight code (Global p q g scale)) f (fragment_count code)
