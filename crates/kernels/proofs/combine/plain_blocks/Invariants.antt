use Rattle.std.proofs.Common.{◌≡◌, ℕ, ◌<◌, ◌≤◌, ◌-◌, map, get_or}
use Rattle.kernels.specs.Lists.{bytes_at, combined}
use Rattle.kernels.proofs.combine.plain_blocks.Given as goal

abbrev pub invariant-quads : goal.invariant-quads
invariant-quads l = record {
  inside : l.at ≤ l.width;
  done : (k : ℕ) → k < l.at → get_or l.target k 0 ≡ combined l.coefficients (bytes_at (map (λ s. s.now) l.sources) k);
}

abbrev pub decreases-quads : goal.decreases-quads
decreases-quads l = l.width - l.at

abbrev pub invariant-whole : goal.invariant-whole
invariant-whole l = record {
  inside : l.at ≤ l.width;
  done : (k : ℕ) → k < l.at → get_or l.target k 0 ≡ combined l.coefficients (bytes_at (map (λ s. s.now) l.sources) k);
}

abbrev pub decreases-whole : goal.decreases-whole
decreases-whole l = l.width - l.at
