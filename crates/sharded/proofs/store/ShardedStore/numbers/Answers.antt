use Rattle.std.proofs.Common.{sym, subst, ap, ◌+◌, arith, take}
use Rattle.sharded.specs.Totals.{AreSumsOfAll}
use Rattle.sharded.specs.StepsTo.{HasLooked}
use Rattle.sharded.proofs.StepsTo.{steps_none, steps_more, step_as}
use Rattle.sharded.proofs.Listings.{longer_same, longer_more}
use Rattle.sharded.proofs.Totals.{totals_more, totals_all}
use Rattle.sharded.proofs.Passes.{stores_length}
use Rattle.sharded.proofs.store.ShardedStore.numbers.Goals as goal

pub loop-shard-init : goal.loop-shard-init
loop-shard-init g c = record { steps = steps_none HasLooked c.args.pass.now.shards; store = c.requires; longer = longer_same c.args.pass.now; totals = c.no_numbers-total.ensures }

pub loop-shard-preserved : goal.loop-shard-preserved
loop-shard-preserved g c =
    let at = c.shard_numbers-numbers.ensures.looked in record {
      steps = steps_more HasLooked c.loop-shard.shard c.args.pass.now.shards c.loop-shard.pass.shards c.shard_numbers-numbers.new.pass.shards (step_as (λ v w looked. looked.0) at) c.loop-shard.invariant.steps;
      store = c.shard_numbers-numbers.ensures.same;
      longer = longer_more c.args.pass.now c.loop-shard.pass c.shard_numbers-numbers.new.pass c.loop-shard.invariant.longer c.shard_numbers-numbers.ensures.listed;
      totals = subst (AreSumsOfAll (take (c.loop-shard.shard + 1) c.shard_numbers-numbers.new.pass.shards)) (sym c.add-total.ensures) (totals_more c.loop-shard.pass.shards c.shard_numbers-numbers.new.pass.shards c.loop-shard.shard at.old at.new c.loop-shard.total c.shard_numbers-numbers.result at.there at.only c.loop-shard.invariant.totals at.does.1);
    }

pub returns-clause-totals : goal.returns-clause-totals
returns-clause-totals g c = totals_all c.loop-shard.pass.shards c.loop-shard.shard c.loop-shard.total (let long = stores_length c.loop-shard.pass.shards c.args.self.now.shards (ap (λ s. s.shards) c.loop-shard.invariant.store) in omega (arith, long, c.count_shards-shard-end.ensures.value, c.loop-shard-test.false)) c.loop-shard.invariant.totals
