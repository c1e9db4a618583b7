-- The effect of a pace on a whole run.
use Rattle.std.specs.Prelude.{ℕ, ◌≤◌, Bool, false}

-- the pace may have answered no to one of this many rows, by what is known of its answers
abbrev pub HoldsBack : (ℕ → Bool → Type 0) → ℕ → Type 0
HoldsBack may_answer rows = (row : ℕ) × (1 ≤ row) × (row ≤ rows) × may_answer row false
