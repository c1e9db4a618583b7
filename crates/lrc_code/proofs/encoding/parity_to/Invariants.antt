use Rattle.std.proofs.Common.{◌≡◌, ℕ, ◌<◌, length, get_or}
use Rattle.lrc_code.specs.Code.{weight}
use Rattle.lrc_code.proofs.encoding.parity_to.Given as goal

abbrev pub invariant-loop-i : goal.invariant-loop-i
invariant-loop-i l = (length l.weights ≡ 12) × ((j : ℕ) → j < l.i → get_or l.weights j 0 ≡ weight l.code l.equation j)
