use Rattle.std.proofs.Common.{◌≡◌, ℕ, ◌<◌, length, get_or}
use Rattle.coder_c.proofs.Slots.{no_term}
use Rattle.coder_c.proofs.write_terms.Given as goal

abbrev pub invariant-loop-i : goal.invariant-loop-i
invariant-loop-i l = record {
  long : length l.fragments ≡ 16;
  as_long : length l.coefficients ≡ 16;
  fragment : (k : ℕ) → k < l.i → get_or l.fragments k 0 ≡ (get_or l.terms k no_term).fragment;
  coefficient : (k : ℕ) → k < l.i → get_or l.coefficients k 0 ≡ (get_or l.terms k no_term).coefficient;
}
