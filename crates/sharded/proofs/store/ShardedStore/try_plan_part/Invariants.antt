use Rattle.std.proofs.Common.{◌≡◌, ◌-◌, length}
use Rattle.std.specs.Option.{option_map}
use Rattle.sharded.specs.Passes.{store_of, AreLone}
use Rattle.sharded.specs.Listings.{IsLonger}
use Rattle.sharded.specs.StepsTo.{AreStepsTo}
use Rattle.sharded.specs.PlanParts.{MayHaveLooked, first_shard}
use Rattle.sharded.proofs.PlanParts.{IsPartTo}
use Rattle.sharded.proofs.store.ShardedStore.try_plan_part.Given as goal

abbrev pub invariant-loop-shard : goal.invariant-loop-shard
invariant-loop-shard l =
    let a = option_map (λ i. i.now) l.after in record {
      steps : AreStepsTo MayHaveLooked l.shard l.fn.pass.shards l.pass.shards;
      store : store_of l.pass ≡ l.self;
      longer : IsLonger l.fn.pass l.pass;
      lone : AreLone l.fn.pass.shards → AreLone l.pass.shards;
      part : IsPartTo (first_shard (length l.self.shards) a) a l.most l.shard (option_map (λ i. i.now) l.cursor) l.pass.shards l.items.items;
    }

abbrev pub decreases-loop-shard : goal.decreases-loop-shard
decreases-loop-shard l = l.count - l.shard
