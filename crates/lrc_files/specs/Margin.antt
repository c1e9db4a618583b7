-- What may still be lost.
use Rattle.std.specs.Prelude.{◌≡◌, ℕ, ◌<◌, true, false}
use Rattle.lrc_code.specs.declared.Code.{Code}
use Rattle.lrc_code.specs.Code.{fragment_count, is_lost, Open}

-- the bits are of fragments that the code has, and that are not lost
abbrev pub AreFurther : Code → ℕ → ℕ → Type 0
AreFurther code lost more = (i : ℕ) → i < 16 → is_lost more i ≡ true → (i < fragment_count code) × (is_lost lost i ≡ false)

-- each fragment of the code is recoverable without these
abbrev pub IsRecoverable : Code → ℕ → Type 0
IsRecoverable code lost = (f : ℕ) → f < fragment_count code → Open code (is_lost lost) f → ⊥
