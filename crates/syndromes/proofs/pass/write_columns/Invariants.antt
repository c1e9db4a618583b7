use Rattle.std.proofs.Common.{◌≡◌, ℕ, ◌<◌, ◌≤◌, ◌-◌, true, length, map, get_or}
use Rattle.kernels.specs.Lists.{bytes_at}
use Rattle.syndromes.specs.Syndromes.{wide_syndrome}
use Rattle.syndromes.proofs.pass.write_columns.Given as goal

abbrev pub invariant-each : goal.invariant-each
invariant-each g l = record {
  inside : l.done ≤ l.width;
  long : length l.first ≡ l.width;
  same_second : length l.second ≡ l.width;
  same_third : length l.third ≡ l.width;
  same_fourth : length l.fourth ≡ l.width;
  first : (k : ℕ) → k < l.done → get_or l.first k 0 ≡ wide_syndrome 0 (bytes_at (map (λ s. s.now) l.sources) k);
  second : l.second_wanted ≡ true → (k : ℕ) → k < l.done → get_or l.second k 0 ≡ wide_syndrome 1 (bytes_at (map (λ s. s.now) l.sources) k);
  third : l.third_wanted ≡ true → (k : ℕ) → k < l.done → get_or l.third k 0 ≡ wide_syndrome 2 (bytes_at (map (λ s. s.now) l.sources) k);
  fourth : l.fourth_wanted ≡ true → (k : ℕ) → k < l.done → get_or l.fourth k 0 ≡ wide_syndrome 3 (bytes_at (map (λ s. s.now) l.sources) k);
}

abbrev pub decreases-each : goal.decreases-each
decreases-each g l = l.width - l.done
