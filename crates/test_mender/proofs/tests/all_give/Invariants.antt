use Rattle.std.proofs.Common.{◌≡◌}
use Rattle.test_mender.proofs.tests.all_give.Given as goal

abbrev pub invariant-loop-call : goal.invariant-loop-call
invariant-loop-call g l = l.pass.store ≡ l.store
