use Rattle.std.proofs.Common.{◌≡◌, ℕ, ◌<◌, get_or, length, bit_xor}
use Rattle.kernels.specs.Lists.{xor_sum}
use Rattle.kernels.proofs.CombineLemmas.{products}
use Rattle.kernels.proofs.combine.add_each.Given as goal

abbrev pub invariant-loop-i : goal.invariant-loop-i
invariant-loop-i l = (k : ℕ) → k < length l.target → get_or l.target k 0 ≡ bit_xor (get_or l.initial.target k 0) (xor_sum l.i (products l.coefficients l.sources k))
