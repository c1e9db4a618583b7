use Rattle.std.proofs.Common.{◌≡◌}
use Rattle.sharded.specs.Passes.{store_of}
use Rattle.test_sharded.proofs.whole.put_all.Given as goal

abbrev pub invariant-loop-number : goal.invariant-loop-number
invariant-loop-number g l = store_of l.pass ≡ l.store
