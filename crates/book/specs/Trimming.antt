-- How many entries a book discards.
use Rattle.std.specs.Prelude.{ℕ, ◌+◌, ◌-◌, ◌^◌, ◌||◌, cond, nat_le, nat_lt}

-- all except the last `keep` of them; none if there are no more, or if more than 2^63 calls would
-- be discarded in all
abbrev pub given_up : ℕ → ℕ → ℕ → ℕ
given_up trimmed count keep = cond (nat_le count keep || nat_lt (2 ^ 63) (trimmed + (count - keep))) 0 (count - keep)

-- how many of so many entries a book keeps: none if its limit is above that of every journal
abbrev pub journaled : ℕ → ℕ → ℕ
journaled limit count = cond (nat_le limit 1048576) count 0
