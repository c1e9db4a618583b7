use Rattle.std.proofs.Common.{◌≡◌, ℕ, ◌<◌, length, get_or}
use Rattle.lrc_code.proofs.CombineLemmas.{coefficient_at}
use Rattle.lrc_code.proofs.rebuilding.combine_to.Given as goal

abbrev pub invariant-loop-i : goal.invariant-loop-i
invariant-loop-i l = record {
  count : length l.coefficients ≡ 15;
  coefficients : (j : ℕ) → j < l.i → get_or l.coefficients j 0 ≡ coefficient_at l.terms j;
}
