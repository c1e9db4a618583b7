use Rattle.std.proofs.Common.{◌≡◌}
use Rattle.test_shared.proofs.tests.stores.threads.lose_and_repair.Given as goal

abbrev pub invariant-loop : goal.invariant-loop
invariant-loop g l = l.pass.store ≡ l.store
