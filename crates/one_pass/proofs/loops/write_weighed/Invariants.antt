use Rattle.std.proofs.Common.{◌≡◌, ℕ, ◌<◌, ◌≤◌, ◌-◌, length, map, get_or}
use Rattle.one_pass.specs.Syndromes.{syndromes_at}
use Rattle.one_pass.specs.Weights.{weighed}
use Rattle.one_pass.proofs.loops.write_weighed.Given as goal

abbrev pub invariant-each : goal.invariant-each
invariant-each g l = record {
  inside : l.done ≤ l.width;
  long : length l.x ≡ l.width;
  x : (k : ℕ) → k < l.done → get_or l.x k 0 ≡ weighed l.weights (syndromes_at (map (λ s. s.now) l.sources) k);
}

abbrev pub decreases-each : goal.decreases-each
decreases-each g l = l.width - l.done
