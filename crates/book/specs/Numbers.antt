-- What the numbers of a store say of its history.
use Rattle.std.specs.Prelude.{◌≡◌, ℕ, ◌-◌, ◌^◌, Bool, min, length, MatchBool}
use Rattle.std.specs.FinMap as finite
use Rattle.std.specs.List.{sum_by}
use Rattle.std.specs.Map.{values_of}
use Rattle.lrc_code.specs.declared.Code.{Code}
use Rattle.lrc_code.specs.Code.{Open}
use Rattle.lrc_code.specs.Count.{count_below}
use Rattle.sealed.specs.Blob.{lost_in}
use Rattle.history.specs.State.{Blob, State}
use Rattle.history.specs.Step.{stripes_of}
use Rattle.history.specs.History.{History, state_of}
use Rattle.book.specs.Plan.{plan_of}
use Rattle.book.specs.Totals.{has_open}
use Rattle.book.specs.declared.numbers.Numbers.{Numbers}

-- a total as the numbers have it: at most the largest number of 64 bits
abbrev pub capped : ℕ → ℕ
capped n = min n (2 ^ 64 - 1)

-- how many stripes of a blob of this width have an unrecoverable fragment
abbrev pub open_stripes : ℕ → Blob → ℕ
open_stripes w blob = count_below (λ j. has_open blob.code (lost_in blob.lost j)) (stripes_of w blob)

-- a sum over the blobs of a state
abbrev pub sum_of : (Blob → ℕ) → State → ℕ
sum_of f s = sum_by f (values_of (finite.entries s.names))

-- The numbers are those of the history, whose blobs have this width. A stripe is counted as
-- unrecoverable if and only if one of its fragments is.
pub record AreNumbersOf (w : ℕ) (h : History) (n : Numbers) : Type 0 where
  pub blobs : n.blobs ≡ length (finite.entries (state_of h).names)
  pub bytes : n.bytes ≡ capped (sum_of (λ blob. length blob.bytes) (state_of h))
  pub lost : n.lost ≡ capped (length (plan_of (state_of h)))
  pub unrecoverable : n.unrecoverable ≡ capped (sum_of (open_stripes w) (state_of h))
  pub decided : (code : Code) (lost : ℕ → Bool) → MatchBool (has_open code lost) ((f : ℕ) × Open code lost f) ((f : ℕ) → Open code lost f → ⊥)
  pub calls : n.calls ≡ length h
