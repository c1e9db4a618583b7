use Rattle.std.proofs.Common.{Err, sym, subst, ap, ◌∙◌, ◌+◌, arith, take}
use Rattle.sharded.specs.Totals.{AreSumsOfAll}
use Rattle.sharded.specs.StepsTo.{HasLooked}
use Rattle.sharded.proofs.StepsTo.{steps_none, steps_more, step_as, lone_step}
use Rattle.sharded.proofs.Listings.{longer_same, longer_more}
use Rattle.sharded.proofs.Totals.{totals_more, totals_all}
use Rattle.sharded.proofs.Passes.{stores_length}
use Rattle.sharded.proofs.store.ShardedStore.try_numbers.Goals as goal

pub loop-shard-init : goal.loop-shard-init
loop-shard-init c = record { steps = steps_none HasLooked c.args.pass.now.shards; store = c.requires; longer = longer_same c.args.pass.now; totals = c.no_numbers-total.ensures; lone = λ lone. lone }

pub loop-shard-preserved : goal.loop-shard-preserved
loop-shard-preserved c =
    let at = c.in-Ok.ensures.looked in record {
      steps = steps_more HasLooked c.loop-shard.shard c.args.pass.now.shards c.loop-shard.pass.shards c.try_shard_numbers.new.pass.shards (step_as (λ v w looked. looked.0) at) c.loop-shard.invariant.steps;
      store = c.in-Ok.ensures.same;
      longer = longer_more c.args.pass.now c.loop-shard.pass c.try_shard_numbers.new.pass c.loop-shard.invariant.longer c.in-Ok.ensures.listed;
      totals = subst (AreSumsOfAll (take (c.loop-shard.shard + 1) c.try_shard_numbers.new.pass.shards)) (sym c.add-total.ensures) (totals_more c.loop-shard.pass.shards c.try_shard_numbers.new.pass.shards c.loop-shard.shard at.old at.new c.loop-shard.total c.in-Ok.numbers at.there at.only c.loop-shard.invariant.totals at.does.1);
      lone = λ lone. lone_step c.loop-shard.shard c.loop-shard.pass.shards c.try_shard_numbers.new.pass.shards (step_as (λ v w looked. looked.0) at) (c.loop-shard.invariant.lone lone);
    }

pub returns-in-Err-clause-longer : goal.returns-in-Err-clause-longer
returns-in-Err-clause-longer c = longer_more c.args.pass.now c.loop-shard.pass c.try_shard_numbers.new.pass c.loop-shard.invariant.longer c.in-Err.ensures.listed

pub returns-in-Err-clause-busy : goal.returns-in-Err-clause-busy
returns-in-Err-clause-busy c = (c.loop-shard.shard, c.loop-shard.pass.shards, c.loop-shard.invariant.steps, c.try_shard_numbers.ensures.busy (c.in-Err.is ∙ ap Err c.in-Err.ensures.faults))

pub returns-clause-totals : goal.returns-clause-totals
returns-clause-totals c = totals_all c.loop-shard.pass.shards c.loop-shard.shard c.loop-shard.total (let long = stores_length c.loop-shard.pass.shards c.args.self.now.shards (ap (λ s. s.shards) c.loop-shard.invariant.store) in omega (arith, long, c.count_shards-shard-end.ensures.value, c.loop-shard-test.false)) c.loop-shard.invariant.totals
