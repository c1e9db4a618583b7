use Rattle.std.proofs.Common.{◌≡◌, ℕ, ◌<◌, ◌≤◌, false, None}
use Rattle.sealed.specs.Changes.{lost_at, patch_at}
use Rattle.sealed.proofs.changes.Changes.first_in.Given as goal

abbrev pub invariant-loop-j : goal.invariant-loop-j
invariant-loop-j l = record {
  lost : (k f : ℕ) → l.from ≤ k → k < l.j → lost_at l.self k f ≡ false;
  patches : (k f : ℕ) → l.from ≤ k → k < l.j → patch_at l.self k f ≡ None;
}
