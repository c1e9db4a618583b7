-- Shares of targets that are computed in one pass over the lists.
use Rattle.std.specs.Prelude.{◌≡◌, ℕ, ◌<◌, Bool, true, false, List, slice_index, bit_xor}
use Rattle.one_pass.specs.Weights.{UsesOnly, unit}

-- the index of the syndrome of the first group, or of the second
abbrev pub group : Bool → ℕ
group false = 0
group true = 1

-- each share is the sum of two others
abbrev pub AreSums : List ℕ → List ℕ → List ℕ → Type 0
AreSums sums a b = (e : ℕ) → e < 4
    → slice_index sums e ≡ bit_xor (slice_index a e) (slice_index b e)

-- the second target is the sum of a group's syndrome and the first target, which takes neither the
-- other group's syndrome nor the fourth
pub record ArePair (one two : List ℕ) (of_second : Bool) : Type 0 where
  pub takes : UsesOnly one of_second true false
  pub sums : AreSums two (unit (group of_second)) one

-- the third target is the sum of a group's syndrome and the first two targets, which do not take
-- the other group's syndrome
pub record AreTriple (one two three : List ℕ) (of_second : Bool) : Type 0 where
  pub takes : UsesOnly one of_second true true
  pub takes_two : UsesOnly two of_second true true
  pub sums : (e : ℕ) → e < 4 → slice_index three e
      ≡ bit_xor (bit_xor (slice_index (unit (group of_second)) e) (slice_index two e))
      (slice_index one e)

-- the second target is the sum of the first syndrome and the first target, and the fourth that of
-- the second syndrome and the third target
pub record AreTwoPairs (one two three four : List ℕ) : Type 0 where
  pub first : AreSums two (unit 0) one
  pub second : AreSums four (unit 1) three

-- the first target is a group's syndrome; the second does not take that of the other group, and the
-- fourth only if it may
pub record ArePlainAndWeighed (one two : List ℕ) (of_second fourth : Bool) : Type 0 where
  pub plain : one ≡ unit (group of_second)
  pub takes : UsesOnly two of_second true fourth

-- the targets are the third and the fourth syndrome
abbrev pub AreGlobals : List ℕ → List ℕ → Type 0
AreGlobals one two = (one ≡ unit 2) × (two ≡ unit 3)

-- the targets are the syndromes of the two groups
abbrev pub AreGroups : List ℕ → List ℕ → Type 0
AreGroups one two = (one ≡ unit 0) × (two ≡ unit 1)
