use Rattle.std.proofs.Common.{◌≡◌}
use Rattle.test_shared.proofs.tests.stores.grants.lose_all.Given as goal

abbrev pub invariant-loop-fragment : goal.invariant-loop-fragment
invariant-loop-fragment g l = l.pass.store ≡ l.store
