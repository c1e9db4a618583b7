use Rattle.std.proofs.Common.{◌≡◌}
use Rattle.sharded.specs.Passes.{store_of}
use Rattle.test_sharded.proofs.calls.answer.Given as goal

abbrev pub invariant-loop : goal.invariant-loop
invariant-loop g l = store_of l.pass ≡ l.store
