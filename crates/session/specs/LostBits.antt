-- The lost fragments of a blob, as bits and as a number.
use Rattle.std.specs.Prelude.{◌≡◌, ℕ, zero, suc, ◌+◌, ◌&&◌, nat_lt}
use Rattle.lrc_code.specs.Code.{fragment_count, is_lost}
use Rattle.lrc_code.specs.Count.{count_below}
use Rattle.sealed.specs.declared.value.Sealed.{Sealed}
use Rattle.sealed.specs.Sealed.{absent_in}

-- the set has the fragments that the value lacks in stripe j, and no other number
abbrev pub AreLostBits : Sealed → ℕ → ℕ → Type 0
AreLostBits s j bits = (f : ℕ) → is_lost bits f ≡ (nat_lt f (fragment_count s.code) && absent_in s j f)

-- how many fragments the value lacks in its first n stripes
abbrev pub lost_count : Sealed → ℕ → ℕ
lost_count s zero = 0
lost_count s (suc n) = lost_count s n + count_below (absent_in s n) (fragment_count s.code)
