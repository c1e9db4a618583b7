use Rattle.std.proofs.Common.{◌≡◌, ◌<◌, ℕ, true, false}
use Rattle.lrc_code.specs.Code.{fragment_count, is_lost}
use Rattle.lrc_files.proofs.margin.are_further.Given as goal

abbrev pub invariant-loop-i : goal.invariant-loop-i
invariant-loop-i l = (j : ℕ) → j < l.i → is_lost l.more j ≡ true → (j < fragment_count l.code) × (is_lost l.lost j ≡ false)
