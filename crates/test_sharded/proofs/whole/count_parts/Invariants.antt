use Rattle.std.proofs.Common.{◌≡◌}
use Rattle.sharded.specs.Passes.{store_of}
use Rattle.test_sharded.proofs.whole.count_parts.Given as goal

abbrev pub invariant-loop-shard : goal.invariant-loop-shard
invariant-loop-shard g l = store_of l.pass ≡ l.store
