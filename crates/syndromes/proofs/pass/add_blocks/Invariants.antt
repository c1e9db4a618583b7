use Rattle.std.proofs.Common.{◌≡◌, ◌-◌, ◌<◌, ◌≤◌, ℕ, length, get_or, bit_xor}
use Rattle.syndromes.proofs.pass.add_blocks.Given as goal

abbrev pub invariant-whole : goal.invariant-whole
invariant-whole l = record {
  inside : l.at ≤ length l.target;
  long : length l.source ≡ length l.target;
  done : (k : ℕ) → k < l.at → get_or l.target k 0 ≡ bit_xor (get_or l.fn.target k 0) (get_or l.source k 0);
  rest : (k : ℕ) → l.at ≤ k → get_or l.target k 0 ≡ get_or l.fn.target k 0;
}

abbrev pub decreases-whole : goal.decreases-whole
decreases-whole l = length l.target - l.at
