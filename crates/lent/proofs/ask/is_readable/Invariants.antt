use Rattle.std.proofs.Common.{ℕ, ◌-◌, ◌<◌, ◌/◌, ◌≤◌}
use Rattle.sealed.specs.Sealed.{absent_in}
use Rattle.sealed.proofs.Readable.{OpenAt}
use Rattle.lent.proofs.ask.is_readable.Given as goal

abbrev pub invariant-loop-k : goal.invariant-loop-k
invariant-loop-k l = record {
  begun : l.start / l.sealed.width ≤ l.k;
  closed : (u : ℕ) → l.start / l.sealed.width ≤ u → u < l.k → OpenAt l.sealed.code (absent_in l.sealed) u → ⊥;
}

abbrev pub decreases-loop-k : goal.decreases-loop-k
decreases-loop-k l = l.met.end - l.k
