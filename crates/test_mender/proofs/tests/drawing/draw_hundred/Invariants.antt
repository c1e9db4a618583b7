use Rattle.std.proofs.Common.{◌≡◌}
use Rattle.test_mender.proofs.tests.drawing.draw_hundred.Given as goal

abbrev pub invariant-loop : goal.invariant-loop
invariant-loop g l = l.drawer.tickets ≡ l.tickets
