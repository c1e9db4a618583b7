use Rattle.std.proofs.Common.{◌≡◌, ◌-◌, ◌<◌, ◌≤◌, ℕ, length, get_or, bit_xor}
use Rattle.syndromes.proofs.pass.write_sum.Given as goal

abbrev pub invariant-whole : goal.invariant-whole
invariant-whole l = record {
  inside : l.at ≤ l.width;
  long : length l.target ≡ l.width;
  done : (k : ℕ) → k < l.at → get_or l.target k 0 ≡ bit_xor (get_or l.one k 0) (get_or l.other k 0);
}

abbrev pub decreases-whole : goal.decreases-whole
decreases-whole l = l.width - l.at

abbrev pub invariant-loop-i : goal.invariant-loop-i
invariant-loop-i l = record {
  long : length l.target ≡ l.width;
  done : (k : ℕ) → k < l.i → get_or l.target k 0 ≡ bit_xor (get_or l.one k 0) (get_or l.other k 0);
}
