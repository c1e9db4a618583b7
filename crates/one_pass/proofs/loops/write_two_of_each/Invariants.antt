use Rattle.std.proofs.Common.{◌≡◌, ℕ, ◌<◌, ◌≤◌, ◌-◌, length, map, get_or}
use Rattle.kernels.specs.Lists.{combined}
use Rattle.one_pass.specs.Syndromes.{syndromes_at}
use Rattle.one_pass.specs.Weights.{weighed, unit}
use Rattle.one_pass.proofs.loops.write_two_of_each.Given as goal

abbrev pub invariant-each : goal.invariant-each
invariant-each l = record {
  inside : l.done ≤ l.width;
  long : length l.x ≡ l.width;
  same_y : length l.y ≡ l.width;
  same_z : length l.z ≡ l.width;
  same_w : length l.w ≡ l.width;
  x : (k : ℕ) → k < l.done → get_or l.x k 0 ≡ combined (unit 0) (syndromes_at (map (λ s. s.now) l.sources) k);
  y : (k : ℕ) → k < l.done → get_or l.y k 0 ≡ combined (unit 1) (syndromes_at (map (λ s. s.now) l.sources) k);
  z : (k : ℕ) → k < l.done → get_or l.z k 0 ≡ weighed l.weights (syndromes_at (map (λ s. s.now) l.sources) k);
  w : (k : ℕ) → k < l.done → get_or l.w k 0 ≡ weighed l.others (syndromes_at (map (λ s. s.now) l.sources) k);
}

abbrev pub decreases-each : goal.decreases-each
decreases-each l = l.width - l.done
