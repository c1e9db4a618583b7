use Rattle.std.proofs.Common.{◌≡◌}
use Rattle.test_mender.proofs.tests.mending.put_often.Given as goal

abbrev pub invariant-loop-first : goal.invariant-loop-first
invariant-loop-first g l = l.pass.store ≡ l.store
