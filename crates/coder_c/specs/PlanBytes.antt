-- Plans for decoding as bytes: a format, the number of data fragments, the fragments that are not
-- read, the numbers of the four that are chosen, and four shares for each.
use Rattle.std.specs.Prelude.{◌≡◌, ℕ, ◌<◌, ◌+◌, ◌*◌, List, [], ◌∷◌, Option, slice_index}
use Rattle.lrc_code.specs.declared.Code.{Code}
use Rattle.decode.specs.declared.plans.DecodePlan.{DecodePlan}
use Rattle.decode.specs.DecodePlan.{at_target}
use Rattle.coder_c.specs.Call.{code_with, chosen_of}

abbrev pub format_in : List ℕ → ℕ
format_in plan = slice_index plan 0

abbrev pub code_in : List ℕ → Option Code
code_in plan = code_with (slice_index plan 1)

-- the fragments that are not read, as bits
abbrev pub missing_in : List ℕ → ℕ
missing_in plan = slice_index plan 2 + 256 * slice_index plan 3

abbrev pub chosen_in : List ℕ → List (Option ℕ)
chosen_in plan = chosen_of (slice_index plan 4 ∷ slice_index plan 5 ∷ slice_index plan 6
    ∷ slice_index plan 7 ∷ [])

-- the four shares from index i on
abbrev pub four_at : List ℕ → ℕ → List ℕ
four_at plan i = slice_index plan i ∷ slice_index plan (i + 1) ∷ slice_index plan (i + 2)
    ∷ slice_index plan (i + 3) ∷ []

abbrev pub shares_in : List ℕ → List (List ℕ)
shares_in plan = four_at plan 8 ∷ four_at plan 12 ∷ four_at plan 16 ∷ four_at plan 20 ∷ []

-- the plan that the bytes are, for a code
abbrev pub plan_in : Code → List ℕ → DecodePlan
plan_in code plan = record {
  code = code;
  missing = missing_in plan;
  chosen = chosen_in plan;
  shares = shares_in plan;
}

-- the four shares of each of four targets are the same
abbrev pub AreSameShares : List (List ℕ) → List (List ℕ) → Type 0
AreSameShares shares others = (k e : ℕ) → k < 4 → e < 4
    → slice_index (at_target shares k) e ≡ slice_index (at_target others k) e
