use Rattle.std.proofs.Common.{◌≡◌, ℕ, ◌<◌, ◌+◌, ◌-◌, length, get_or}
use Rattle.kernels.proofs.GroupLemmas.{nothing}
use Rattle.one_pass.specs.Syndromes.{column_at}
use Rattle.one_pass.proofs.blocks.sources_of.Given as goal

abbrev pub invariant-loop-i : goal.invariant-loop-i
invariant-loop-i l = record {
  count : length l.sources ≡ 16;
  long : (j : ℕ) → j < l.i → length (get_or l.sources j nothing).now ≡ l.end - l.at;
  bytes : (j k : ℕ) → j < l.i → k < l.end - l.at → get_or (get_or l.sources j nothing).now k 0 ≡ column_at l.lists (l.at + k) j;
}
