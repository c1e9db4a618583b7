use Rattle.std.proofs.Common.{◌≡◌, ℕ, ◌<◌, ◌-◌, length, get_or}
use Rattle.lrc_code.proofs.CombineLemmas.{nothing}
use Rattle.lrc_code.proofs.CombineLemmas.{fragment_at as term_at}
use Rattle.sealed.proofs.Rebuilt.{IsSource}
use Rattle.sealed.proofs.value.Sealed.rebuild_by.Given as goal

abbrev pub invariant-loop-i : goal.invariant-loop-i
invariant-loop-i l = record {
  count : length l.sources ≡ 15;
  long : (j : ℕ) → j < l.i → length (get_or l.sources j nothing).now ≡ l.to - l.from;
  are : (j : ℕ) → j < l.i → IsSource l.self l.stripe (term_at l.terms j) l.from l.to (get_or l.sources j nothing);
}
