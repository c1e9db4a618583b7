use Rattle.std.proofs.Common.{◌≡◌}
use Rattle.sharded.specs.Passes.{store_of}
use Rattle.test_sharded.proofs.names.use_name.Given as goal

abbrev pub invariant-loop-k : goal.invariant-loop-k
invariant-loop-k g l = store_of l.pass ≡ l.store
