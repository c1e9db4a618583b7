use Rattle.std.proofs.Common.{◌≡◌}
use Rattle.test_mender.proofs.tests.refused.data_come_back.Given as goal

abbrev pub invariant-loop-f : goal.invariant-loop-f
invariant-loop-f g l = l.pass.store ≡ l.store
