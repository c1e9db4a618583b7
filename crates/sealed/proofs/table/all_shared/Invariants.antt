use Rattle.std.proofs.Common.{◌≡◌, ℕ, ◌<◌, length, get_or, None}
use Rattle.std.specs.Option.{option_map}
use Rattle.sealed.proofs.table.all_shared.Given as goal

abbrev pub invariant-loop-j : goal.invariant-loop-j
invariant-loop-j l = record {
  long : length l.all.items ≡ l.j;
  same : (k : ℕ) → k < l.j → option_map (λ a. a.value.fragments) (get_or l.all.items k None) ≡ option_map (λ a. a.value.fragments) (get_or l.patches k None);
}
