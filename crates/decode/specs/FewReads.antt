-- Which fragments have to be read for those that are chosen.
use Rattle.std.specs.Prelude.{◌≡◌, ◌≢◌, ◌⊎◌, ℕ, ◌<◌, ◌≤◌, ◌==◌, Bool, true, not, List, Option, None, IfSome, IsSomeAnd, length, count_by, slice_index_or}
use Rattle.std.specs.List.{list_any}
use Rattle.lrc_code.specs.declared.Code.{Code}
use Rattle.lrc_code.specs.Code.{fragment_count, data_count, first_group, second_group, all_fragments, is_alone, is_only_lost_of}
use Rattle.lrc_code.specs.Factors.{factored_weight, WeighsAs}
use Rattle.lrc_code.specs.Recipe.{terms}

-- If a fragment is alone lost in its group, its shares weigh each fragment as the group's equation does. They weigh no more fragments beside it than the code has data fragments
pub record HasFewReads (code : Code) (lost : ℕ → Bool) (f : ℕ) (shares : List ℕ) : Type 0 where
  pub first : is_only_lost_of lost (first_group code) f ≡ true → WeighsAs code shares 0
  pub second : is_only_lost_of lost (second_group code) f ≡ true → WeighsAs code shares 1
  pub short : length (terms (factored_weight code shares) f (fragment_count code)) ≤ data_count code

abbrev pub is_member : List ℕ → ℕ → Bool
is_member group i = list_any (λ j. j == i) group

-- two fragments of one group
abbrev pub AreMates : Code → ℕ → ℕ → Type 0
AreMates code f i = (i ≢ f)
    × (((is_member (first_group code) f ≡ true) × (is_member (first_group code) i ≡ true))
    ⊎ ((is_member (second_group code) f ≡ true) × (is_member (second_group code) i ≡ true)))

-- the fragment is of the group of one that is chosen
abbrev pub HasMate : Code → List (Option ℕ) → ℕ → Type 0
HasMate code chosen i = (k : ℕ) × (k < 4) × IsSomeAnd (slice_index_or chosen k None) (λ f. AreMates code f i)

-- each fragment that is chosen is alone lost in its group
abbrev pub AreAlone : Code → (ℕ → Bool) → List (Option ℕ) → Type 0
AreAlone code lost chosen = (k : ℕ) → k < 4 → IfSome (slice_index_or chosen k None) (λ f. is_alone code lost f ≡ true)

-- how many of a code's fragments are read if these are missing
abbrev pub read_count : Code → (ℕ → Bool) → ℕ
read_count code missing = count_by (λ i. not (missing i)) (all_fragments code)
