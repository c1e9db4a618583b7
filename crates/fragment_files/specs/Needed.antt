-- What has to be read for the fragments that are wanted.
use Rattle.std.specs.Prelude.{◌≡◌, ◌⊎◌, ℕ, ◌<◌, ◌==◌, Bool, true, false, List, length, slice_index_or}
use Rattle.std.specs.List.{All, list_any}
use Rattle.lrc_code.specs.declared.Code.{Code}
use Rattle.lrc_code.specs.declared.recipes.Term.{Term}
use Rattle.lrc_code.specs.Code.{fragment_count, first_group, second_group, is_only_lost_of}
use Rattle.lrc_code.specs.Recipe.{IsRecipe}

abbrev pub is_marked : List Bool → ℕ → Bool
is_marked marks i = slice_index_or marks i false

-- the fragment is one of the code, wanted and lost
abbrev pub IsWantedLost : Code → (ℕ → Bool) → List Bool → ℕ → Type 0
IsWantedLost code lost wanted f = (f < fragment_count code) × (is_marked wanted f ≡ true) × (lost f ≡ true)

-- one of the terms is of fragment i
abbrev pub HasTerm : List Term → ℕ → Type 0
HasTerm terms i = (k : ℕ) × (d : Term) × (k < length terms) × ((slice_index_or terms k d).fragment ≡ i)

-- all fragments of a recipe of f are marked
abbrev pub HasRecipe : Code → (ℕ → Bool) → ℕ → List Bool → Type 0
HasRecipe code lost f marks = (terms : List Term) × IsRecipe code lost f terms × All (λ term. is_marked marks term.fragment ≡ true) terms

abbrev pub is_member : List ℕ → ℕ → Bool
is_member group i = list_any (λ j. j == i) group

-- fragment i remains. If f is alone lost in its group, i is of that group
pub record HelpsWith (code : Code) (lost : ℕ → Bool) (f i : ℕ) : Type 0 where
  pub below : i < fragment_count code
  pub remains : lost i ≡ false
  pub first : is_only_lost_of lost (first_group code) f ≡ true → is_member (first_group code) i ≡ true
  pub second : is_only_lost_of lost (second_group code) f ≡ true → is_member (second_group code) i ≡ true

-- fragment i is f itself, or helps to make it
abbrev pub IsNeededFor : Code → (ℕ → Bool) → ℕ → ℕ → Type 0
IsNeededFor code lost f i = ((lost f ≡ false) × (f ≡ i)) ⊎ ((lost f ≡ true) × HelpsWith code lost f i)
