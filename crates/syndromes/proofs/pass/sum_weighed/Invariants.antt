use Rattle.std.proofs.Common.{◌≡◌, ℕ, ◌<◌, ◌≤◌, ◌-◌, length, map, get_or}
use Rattle.kernels.specs.Lists.{combined, bytes_at}
use Rattle.syndromes.proofs.pass.sum_weighed.Given as goal

abbrev pub invariant-each : goal.invariant-each
invariant-each g l = record {
  inside : l.done ≤ l.width;
  long : length l.target ≡ l.width;
  sums : (k : ℕ) → k < l.done → get_or l.target k 0 ≡ combined l.factors (bytes_at (map (λ s. s.now) l.lists) k);
}

abbrev pub decreases-each : goal.decreases-each
decreases-each g l = l.width - l.done
