use Rattle.std.proofs.Common.{◌≡◌}
use Rattle.test_mender.proofs.tests.drawing.joined.Given as goal

abbrev pub invariant-loop-drawn : goal.invariant-loop-drawn
invariant-loop-drawn g l = l.first.tickets ≡ l.tickets
