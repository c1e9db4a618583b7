-- How many entries a book keeps.
use Rattle.std.proofs.Common.{◌≡◌, ℕ, ◌+◌, ◌-◌, ◌^◌, ◌<◌, ◌≤◌, [], Bool, true, false, cond, max, refl, length, arith}
use Rattle.std.specs.Prelude.{nat_le, nat_lt, ◌||◌}
use Rattle.std.proofs.lemmas.Grind.{common_steps}
use Rattle.book.specs.Contents.{Contents, journal_of}
use Rattle.book.specs.Trimming.{given_up, journaled}

pub kept_count : (b : Contents) → length (journal_of b) ≡ journaled b.limit (length b.entries)
kept_count b = by (nat_le b.limit 1048576)
  where
    by : (t : Bool) → length (cond t b.entries []) ≡ cond t (length b.entries) 0
    by true = refl
    by false = refl

-- ---- a trim in parts
module _ (t count keep most : ℕ) where
  given_few : (k : ℕ) → given_up t count k ≤ count - k
  given_few k = by (nat_le count k || nat_lt (2 ^ 63) (t + (count - k)))
    where
      by : (none : Bool) → cond none 0 (count - k) ≤ count - k
      by true = omega arith
      by false = omega arith

  -- a part has at most so many
  pub part_few : given_up t count (max keep (count - most)) ≤ most
  part_few =
      let few = given_few (max keep (count - most)) in
      let k : count - most ≤ max keep (count - most) = grind arith in
      omega (arith, few, k)

  -- a part of fewer is all
  pub part_whole : given_up t count (max keep (count - most)) < most → given_up t count (max keep (count - most)) ≡ given_up t count keep
  part_whole less = grind (arith, common_steps, less)
