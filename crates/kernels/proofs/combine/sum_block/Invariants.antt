use Rattle.std.proofs.Common.{◌≡◌, ℕ, ◌<◌, ◌+◌, get_or}
use Rattle.kernels.specs.Lists.{xor_sum}
use Rattle.kernels.proofs.CombineLemmas.{products}
use Rattle.kernels.specs.declared.lanes.TheConstants.{LANES}
use Rattle.kernels.proofs.combine.sum_block.Given as goal

abbrev pub invariant-loop-i : goal.invariant-loop-i
invariant-loop-i l = (k : ℕ) → k < LANES → get_or l.sum k 0 ≡ xor_sum l.i (products l.coefficients l.sources (l.at + k))
