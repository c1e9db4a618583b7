-- What is counted: all sets of lost fragments of a code, each as the bits of a number, by how many are lost.
use Rattle.std.specs.Prelude.{◌≡◌, ℕ, ◌<◌, ◌^◌, ◌==◌, ◌&&◌, Bool, true, List, count_ones, nat_le, map, length, sum, fold, max, if◌then◌else◌}
use Rattle.std.specs.List.{range_with_len}
use Rattle.lrc_code.specs.declared.Code.{Code}
use Rattle.lrc_code.specs.Code.{fragment_count, is_lost, is_alone, excess_of}
use Rattle.lrc_code.specs.Recipe.{IsRecipe, IsLeast}
use Rattle.lrc_code.specs.declared.recipes.Term.{Term}

-- every set of lost fragments
abbrev pub lost_sets : Code → List ℕ
lost_sets code = range_with_len 0 (2 ^ fragment_count code)

-- whether so many are lost
abbrev pub has_size : ℕ → ℕ → Bool
has_size size set = count_ones set == size

-- whether each lost fragment can be rebuilt
abbrev pub is_whole : Code → ℕ → Bool
is_whole code set = nat_le (excess_of code (is_lost set)) 2

-- whether so many are lost, and each can be rebuilt
abbrev pub is_counted : Code → ℕ → ℕ → Bool
is_counted code size set = has_size size set && is_whole code set

-- ---- what is read
-- what g gives for the numbers below n
abbrev pub values : ℕ → (ℕ → ℕ) → List ℕ
values n g = map g (range_with_len 0 n)

-- For each number below n that passes the test, something that fits it was chosen: `total` is the sum of their sizes, and `most` the greatest of their heights.
pub record Adds {X : Type 0} (test : ℕ → Bool) (Fits : ℕ → X → Type 0) (size height : X → ℕ) (n total most : ℕ) : Type 0 where
  pub chosen : ℕ → X
  pub each : (k : ℕ) → k < n → test k ≡ true → Fits k (chosen k)
  pub total_is : total ≡ sum (values n (λ k. if test k then size (chosen k) else 0))
  pub most_is : most ≡ fold max 0 (values n (λ k. if test k then height (chosen k) else 0))

-- the terms are a recipe of the fragment; and where it is alone lost in its group, no recipe has fewer
abbrev pub IsRead : Code → (ℕ → Bool) → ℕ → List Term → Type 0
IsRead code lost f terms = IsRecipe code lost f terms × (is_alone code lost f ≡ true → IsLeast code f terms)

-- what is read for one set: a recipe for each lost fragment, the sum of their lengths, and the greatest
abbrev pub ReadsFor : Code → ℕ → ℕ × ℕ → Type 0
ReadsFor code set reads = Adds (is_lost set) (IsRead code (is_lost set)) length length (fragment_count code) reads.0 reads.1

-- and for all sets of a size that can be rebuilt whole
abbrev pub ReadsForAll : Code → ℕ → ℕ → ℕ → Type 0
ReadsForAll code size total most = Adds (is_counted code size) (ReadsFor code) (λ (r : ℕ × ℕ). r.0) (λ (r : ℕ × ℕ). r.1) (2 ^ fragment_count code) total most

-- ---- Reed-Solomon
-- whether a code that rebuilds any four fragments from all others can rebuild what is lost
abbrev pub is_counted_by_any_four : ℕ → ℕ → Bool
is_counted_by_any_four size set = has_size size set && nat_le (count_ones set) 4
