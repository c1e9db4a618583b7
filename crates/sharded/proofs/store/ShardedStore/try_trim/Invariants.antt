use Rattle.std.proofs.Common.{◌≡◌}
use Rattle.sharded.specs.Passes.{store_of, AreLone}
use Rattle.sharded.specs.Listings.{IsLonger}
use Rattle.sharded.specs.StepsTo.{AreStepsTo, IsTrimmed}
use Rattle.sharded.proofs.store.ShardedStore.try_trim.Given as goal

abbrev pub invariant-loop-shard : goal.invariant-loop-shard
invariant-loop-shard l = record {
  steps : AreStepsTo (IsTrimmed l.keep) l.shard l.fn.pass.shards l.pass.shards;
  store : store_of l.pass ≡ l.self;
  longer : IsLonger l.fn.pass l.pass;
  lone : AreLone l.fn.pass.shards → AreLone l.pass.shards;
}
