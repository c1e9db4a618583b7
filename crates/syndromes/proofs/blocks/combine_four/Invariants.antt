use Rattle.std.proofs.Common.{◌≡◌, ℕ, ◌<◌, ◌≤◌, length, get_or}
use Rattle.kernels.specs.Lists.{xor_sum}
use Rattle.kernels.proofs.GroupLemmas.{nothing}
use Rattle.syndromes.proofs.Terms.{term}
use Rattle.syndromes.proofs.blocks.combine_four.Given as goal

abbrev pub invariant-loop-e : goal.invariant-loop-e
invariant-loop-e l = record {
  few : l.count ≤ l.e;
  four : length l.coefficients ≡ 4;
  as_many : length l.sources ≡ 4;
  long : (j : ℕ) → j < l.count → length (get_or l.sources j nothing).now ≡ length l.target;
  sums : (k : ℕ) → xor_sum l.count (term l.coefficients l.sources k) ≡ xor_sum l.e (term l.factors l.lists k);
}
