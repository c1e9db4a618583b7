use Rattle.std.proofs.Common.{◌≡◌, ◌<◌, ◌≤◌, ℕ, length, get_or, bit_xor}
use Rattle.syndromes.proofs.pass.add_list.Given as goal

abbrev pub invariant-loop-i : goal.invariant-loop-i
invariant-loop-i l = record {
  long : length l.source ≡ length l.target;
  done : (k : ℕ) → k < l.i → get_or l.target k 0 ≡ bit_xor (get_or l.fn.target k 0) (get_or l.source k 0);
  rest : (k : ℕ) → l.i ≤ k → get_or l.target k 0 ≡ get_or l.fn.target k 0;
}
