use Rattle.std.proofs.Common.{◌≡◌}
use Rattle.test_mender.proofs.tests.mending.disband.Given as goal

abbrev pub invariant-loop-worker : goal.invariant-loop-worker
invariant-loop-worker g l = (l.pass.store ≡ l.store) × (l.drawer.tickets ≡ l.tickets)
