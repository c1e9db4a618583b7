use Rattle.sharded.specs.StepsTo.{IsTrimmed}
use Rattle.sharded.proofs.StepsTo.{steps_none, steps_more, step_as}
use Rattle.sharded.proofs.Listings.{longer_same, longer_more}
use Rattle.sharded.proofs.store.ShardedStore.trim.Goals as goal

pub loop-shard-init : goal.loop-shard-init
loop-shard-init g c = record { steps = steps_none (IsTrimmed c.args.keep) c.args.pass.now.shards; store = c.requires; longer = longer_same c.args.pass.now }

pub loop-shard-preserved : goal.loop-shard-preserved
loop-shard-preserved g c = record {
  steps = steps_more (IsTrimmed c.args.keep) c.loop-shard.shard c.args.pass.now.shards c.loop-shard.pass.shards c.trim_shard.new.pass.shards (step_as (λ v w takes. (c.in-Ok.field-0, takes)) c.in-Ok.ensures.takes) c.loop-shard.invariant.steps;
  store = c.in-Ok.ensures.same;
  longer = longer_more c.args.pass.now c.loop-shard.pass c.trim_shard.new.pass c.loop-shard.invariant.longer c.in-Ok.ensures.listed;
}

pub returns-in-Err-clause-longer : goal.returns-in-Err-clause-longer
returns-in-Err-clause-longer g c = longer_more c.args.pass.now c.loop-shard.pass c.trim_shard.new.pass c.loop-shard.invariant.longer c.in-Err.ensures.listed
