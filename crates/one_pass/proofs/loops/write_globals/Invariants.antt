use Rattle.std.proofs.Common.{◌≡◌, ℕ, ◌<◌, ◌≤◌, ◌-◌, length, map, get_or}
use Rattle.kernels.specs.Lists.{combined}
use Rattle.one_pass.specs.Syndromes.{syndromes_at}
use Rattle.one_pass.specs.Weights.{unit}
use Rattle.one_pass.proofs.loops.write_globals.Given as goal

abbrev pub invariant-each : goal.invariant-each
invariant-each l = record {
  inside : l.done ≤ l.width;
  long : length l.x ≡ l.width;
  same_y : length l.y ≡ l.width;
  x : (k : ℕ) → k < l.done → get_or l.x k 0 ≡ combined (unit 2) (syndromes_at (map (λ s. s.now) l.sources) k);
  y : (k : ℕ) → k < l.done → get_or l.y k 0 ≡ combined (unit 3) (syndromes_at (map (λ s. s.now) l.sources) k);
}

abbrev pub decreases-each : goal.decreases-each
decreases-each l = l.width - l.done
