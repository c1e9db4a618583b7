-- The totals of the blobs in a catalogue.
use Rattle.std.specs.Prelude.{◌≡◌, ℕ, ◌+◌, ◌^◌, ◌<◌, Bool, List, Option, None, Some, cond, All, nat_lt, length}
use Rattle.std.specs.List.{sum_by}
use Rattle.std.specs.Map.{values_of}
use Rattle.lrc_code.specs.declared.Code.{Code}
use Rattle.lrc_code.specs.Code.{excess_of}
use Rattle.lrc_code.specs.Count.{count_below}
use Rattle.sealed.specs.declared.value.Sealed.{Sealed}
use Rattle.book.specs.Lacking.{lacks, lacked_count}
use Rattle.book.specs.Losing.{Catalogue, value_at}
use Rattle.book.specs.declared.totals.Totals.{Totals}

-- some fragment of a stripe with these lost ones is unrecoverable: the losses exceed what the two
-- global parities restore
abbrev pub has_open : Code → (ℕ → Bool) → Bool
has_open code lost = nat_lt 2 (excess_of code lost)

-- 1 if stripe j of the value has an unrecoverable fragment
abbrev pub open_at : Sealed → ℕ → ℕ
open_at s j = cond (has_open s.code (lacks s j)) 1 0

-- how many stripes of the value have an unrecoverable fragment
abbrev pub open_count : Sealed → ℕ
open_count s = count_below (λ j. has_open s.code (lacks s j)) (length s.stripes)

-- what a value adds to the totals, and what a name adds
abbrev pub totals_of_blob : Sealed → Totals
totals_of_blob s = record { bytes = s.len; lost = lacked_count s; unrecoverable = open_count s }

abbrev pub share_at : Option Sealed → Totals
share_at None = record { bytes = 0; lost = 0; unrecoverable = 0 }
share_at (Some s) = totals_of_blob s

-- a sum over the values
abbrev pub total : (Sealed → ℕ) → Catalogue → ℕ
total f es = sum_by f (values_of es)

abbrev pub totals_of : Catalogue → Totals
totals_of es = record { bytes = total (λ s. s.len) es; lost = total lacked_count es; unrecoverable = total open_count es }

-- what one value adds at most
abbrev pub IsShare : Totals → Type 0
IsShare t = (t.bytes < 2 ^ 64) × (t.lost < 2 ^ 64) × (t.unrecoverable < 2 ^ 64)

-- each value has less than 2^64 bytes
abbrev pub AreSmall : Catalogue → Type 0
AreSmall es = All (λ s. s.len < 2 ^ 64) (values_of es)

pub record AreTotals (t : Totals) (es : Catalogue) : Type 0 where
  pub are : t ≡ totals_of es
  pub small : AreSmall es

-- the new catalogue differs from the old one in one value, whose share was `before` and is `after`
pub record DifferBy (old new : Catalogue) (before after : Totals) : Type 0 where
  pub bytes : total (λ s. s.len) new + before.bytes ≡ total (λ s. s.len) old + after.bytes
  pub lost : total lacked_count new + before.lost ≡ total lacked_count old + after.lost
  pub unrecoverable : total open_count new + before.unrecoverable ≡ total open_count old + after.unrecoverable
  pub small : AreSmall old → AreSmall new

-- in the value of this name
abbrev pub DifferAt : Catalogue → Catalogue → List ℕ → Type 0
DifferAt old new n = DifferBy old new (share_at (value_at old n)) (share_at (value_at new n))
