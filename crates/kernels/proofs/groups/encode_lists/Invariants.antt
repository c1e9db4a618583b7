use Rattle.std.proofs.Common.{◌<◌, ◌≤◌, ℕ, map, ◌-◌, [], ◌∷◌}
use Rattle.kernels.specs.Parities.{AreParitiesOfTwelve}
use Rattle.kernels.proofs.groups.encode_lists.Given as goal

abbrev pub invariant-whole : goal.invariant-whole
invariant-whole l = record {
  inside : l.at ≤ l.width;
  done : (k : ℕ) → k < l.at → AreParitiesOfTwelve (map (λ s. s.now) l.sources) (l.first ∷ l.second ∷ l.third ∷ l.fourth ∷ []) k;
}

abbrev pub decreases-whole : goal.decreases-whole
decreases-whole l = l.width - l.at
