use Rattle.std.proofs.Common.{◌≡◌}
use Rattle.test_mender.proofs.tests.answers.four_lost.Given as goal

abbrev pub invariant-loop-text : goal.invariant-loop-text
invariant-loop-text g l = l.pass.store ≡ l.store
