-- Runs of a range that is lent.
use Rattle.std.specs.Prelude.{◌≡◌, ℕ, ◌+◌, ◌<◌, ◌≤◌, List, ◌++◌, All, map, length, drop, slice_range}
use Rattle.std.specs.List.{concat}
use Rattle.sealed.specs.Blob.{Lost}
use Rattle.sealed.specs.Sealed.{StandsFor}
use Rattle.lent.specs.declared.grant.Grant.{Grant}
use Rattle.session.specs.declared.lending.LentSlice.{LentSlice}

-- the bytes of the slices, joined
abbrev pub bytes_of_runs : List LentSlice → List ℕ
bytes_of_runs runs = concat (map (λ s. s.bytes.now) runs)

-- These are runs of a range that is lent in these pieces, from the byte `from` of the range on, if
-- there is room for so many. None is empty. Joined they are the next bytes of the range, and if
-- they leave room, all that are left
pub record AreRunsFrom (lent : List (List ℕ)) (from room : ℕ) (runs : List LentSlice) : Type 0 where
  pub some : All (λ s. 0 < length s.bytes.now) runs
  pub rest : List ℕ
  pub bytes_are : drop from (concat lent) ≡ bytes_of_runs runs ++ rest
  pub all : length runs < room → drop from (concat lent) ≡ bytes_of_runs runs

-- these are bytes of the range from its byte `from` on, at least one
pub record IsRunFrom (g : Grant) (from : ℕ) (bytes : List ℕ) : Type 0 where
  pub some : 0 < length bytes
  pub inside : from + length bytes ≤ g.len
  pub bytes_are : (b : List ℕ) (lost : Lost) → StandsFor g.sealed.value b lost → bytes ≡ slice_range b (g.start + from) (g.start + from + length bytes)
