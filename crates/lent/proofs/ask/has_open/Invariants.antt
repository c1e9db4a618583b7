use Rattle.std.proofs.Common.{ℕ, ◌<◌, ◌≤◌}
use Rattle.lrc_code.specs.Code.{Open}
use Rattle.sealed.specs.Sealed.{absent_in}
use Rattle.lent.proofs.ask.has_open.Given as goal

abbrev pub invariant-loop-f : goal.invariant-loop-f
invariant-loop-f l = (g : ℕ) → l.from ≤ g → g < l.f → Open l.sealed.code (absent_in l.sealed l.stripe) g → ⊥
