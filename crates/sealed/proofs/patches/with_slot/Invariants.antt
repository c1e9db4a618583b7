use Rattle.std.proofs.Common.{◌≡◌, ◌≢◌, ℕ, ◌<◌, get_or, None}
use Rattle.sealed.proofs.patches.with_slot.Given as goal

abbrev pub invariant-loop-g : goal.invariant-loop-g
invariant-loop-g l = record {
  slot : l.slot ≡ l.fn.slot;
  kept : (k : ℕ) → k < l.g → k ≢ l.f → get_or l.copy.fragments k None ≡ get_or l.patches.fragments k None;
}
