-- Ranges of the options' numbers.
use Rattle.std.specs.Prelude.{ℕ, ◌≤◌}

-- a number from 1 to the most
pub record InRange (n most : ℕ) : Type 0 where
  pub above : 1 ≤ n
  pub below : n ≤ most
