-- How many numbers below n meet a test.
use Rattle.std.specs.Prelude.{ℕ, zero, suc, ◌+◌, Bool, cond}

abbrev pub count_below : (ℕ → Bool) → ℕ → ℕ
count_below t zero = 0
count_below t (suc n) = cond (t n) 1 0 + count_below t n
