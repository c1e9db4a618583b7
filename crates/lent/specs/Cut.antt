-- The cut of a range of a blob into parts of fragments.
use Rattle.lrc_code.specs.Code.{data_count}
use Rattle.std.specs.Prelude.{◌≡◌, ◌≢◌, ℕ, ◌+◌, ◌-◌, ◌*◌, ◌/◌, ◌%◌, ◌<◌, ◌≤◌, List, [], ◌∷◌, ◌++◌, map, All, min}
use Rattle.std.specs.List.{range_with_len}
use Rattle.lrc_code.specs.declared.Code.{Code}
use Rattle.sealed.specs.Layout.{byte_of}
use Rattle.sealed.specs.Range.{cut_end}
use Rattle.lent.specs.declared.part.Part.{Part}

-- the part is not empty, and lies inside a data fragment
pub record IsPart (code : Code) (w : ℕ) (part : Part) : Type 0 where
  pub some : part.from < part.to
  pub inside : part.to ≤ w
  pub holds_data : part.fragment < data_count code

-- the numbers, in the blob, of the bytes of a part
abbrev pub numbers_of : Code → ℕ → Part → List ℕ
numbers_of code w part = range_with_len (byte_of code w part.stripe part.fragment part.from) (part.to - part.from)

-- those of all parts, one after the other
abbrev pub all_numbers : Code → ℕ → List Part → List ℕ
all_numbers code w [] = []
all_numbers code w (part ∷ parts) = numbers_of code w part ++ all_numbers code w parts

-- no two neighbours lie in the same fragment
abbrev pub NeighboursDiffer : List Part → Type 0
NeighboursDiffer [] = Unit {0}
NeighboursDiffer (one ∷ []) = Unit {0}
NeighboursDiffer (one ∷ next ∷ parts) = (one.stripe ≡ next.stripe → one.fragment ≢ next.fragment) × NeighboursDiffer (next ∷ parts)

-- the parts cover the bytes of the range in order, and none could be longer
pub record IsCut (code : Code) (w start len : ℕ) (parts : List Part) : Type 0 where
  pub each : All (IsPart code w) parts
  pub covers : all_numbers code w parts ≡ range_with_len start len
  pub apart : NeighboursDiffer parts

-- ---- the cut, computed: of each data fragment that the range meets, what lies between its ends
-- the part of the blob's k-th data fragment that lies between the bytes start and end
abbrev pub cut_part : Code → ℕ → ℕ → ℕ → ℕ → Part
cut_part code w start end k =
    record { stripe = k / data_count code; fragment = k % data_count code; from = start - k * w; to = min w (end - k * w) }

abbrev pub cut : Code → ℕ → ℕ → ℕ → List Part
cut code w start len = map (cut_part code w start (start + len)) (range_with_len (start / w) (cut_end w start len - start / w))
