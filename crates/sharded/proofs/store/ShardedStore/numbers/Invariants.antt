use Rattle.std.proofs.Common.{◌≡◌, take}
use Rattle.sharded.specs.Passes.{store_of}
use Rattle.sharded.specs.Listings.{IsLonger}
use Rattle.sharded.specs.Totals.{AreSumsOfAll}
use Rattle.sharded.specs.StepsTo.{AreStepsTo, HasLooked}
use Rattle.sharded.proofs.store.ShardedStore.numbers.Given as goal

abbrev pub invariant-loop-shard : goal.invariant-loop-shard
invariant-loop-shard g l = record {
  steps : AreStepsTo HasLooked l.shard l.fn.pass.shards l.pass.shards;
  store : store_of l.pass ≡ l.self;
  longer : IsLonger l.fn.pass l.pass;
  totals : AreSumsOfAll (take l.shard l.pass.shards) l.total;
}
