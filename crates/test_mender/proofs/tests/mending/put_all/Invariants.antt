use Rattle.std.proofs.Common.{◌≡◌}
use Rattle.test_mender.proofs.tests.mending.put_all.Given as goal

abbrev pub invariant-loop-place : goal.invariant-loop-place
invariant-loop-place g l = l.pass.store ≡ l.store
