use Rattle.std.proofs.Common.{◌≡◌, ◌++◌, ◌∙◌, ap, sym, arith}
use Rattle.std.proofs.lemmas.Iterator.Adapters.{fact_from_extend, YieldsList-from_vec}
use Rattle.history.specs.History.{state_of}
use Rattle.book.specs.Plan.{plan_of}
use Rattle.sharded.specs.StepsTo.{HasLooked}
use Rattle.sharded.proofs.StepsTo.{steps_none, steps_more, step_as, found_more, found_all, on_ok, map_same}
use Rattle.sharded.proofs.Listings.{longer_same, longer_more}
use Rattle.sharded.proofs.Passes.{stores_length}
use Rattle.sharded.proofs.store.ShardedStore.plan.Goals as goal

pub loop-shard-init : goal.loop-shard-init
loop-shard-init g c = record { steps = steps_none HasLooked c.args.pass.now.shards; store = c.requires; longer = longer_same c.args.pass.now; found = c.new-items.ensures.items }

pub returns-in-Err-clause-err : goal.returns-in-Err-clause-err
returns-in-Err-clause-err g c =
    (_, steps_more HasLooked c.loop-shard.shard c.args.pass.now.shards c.loop-shard.pass.shards c.plan_shard.new.pass.shards (step_as (λ v w plans. plans.0) c.in-Err.ensures.plans) c.loop-shard.invariant.steps)

pub returns-in-Err-clause-longer : goal.returns-in-Err-clause-longer
returns-in-Err-clause-longer g c = longer_more c.args.pass.now c.loop-shard.pass c.plan_shard.new.pass c.loop-shard.invariant.longer c.in-Err.ensures.listed

pub returns-then-is_err-clause-err : goal.returns-then-is_err-clause-err
returns-then-is_err-clause-err g c =
    (_, steps_more HasLooked c.loop-shard.shard c.args.pass.now.shards c.loop-shard.pass.shards c.plan_shard.new.pass.shards (step_as (λ v w plans. plans.0) c.in-Ok.ensures.plans) c.loop-shard.invariant.steps)

pub returns-then-is_err-clause-longer : goal.returns-then-is_err-clause-longer
returns-then-is_err-clause-longer g c = longer_more c.args.pass.now c.loop-shard.pass c.plan_shard.new.pass c.loop-shard.invariant.longer c.in-Ok.ensures.listed

pub loop-shard-preserved : goal.loop-shard-preserved
loop-shard-preserved g c =
    let at = c.in-Ok.ensures.plans in
    let all : c.extend.new.self.items ≡ c.loop-shard.items.items ++ c.in-Ok.plan.items.items =
    on_ok c.extend.result _ (sym c.is_err.ensures.value ∙ c.if-is_err.false)
    (fact_from_extend (λ x. x) c.extend.result c.extend.ensures.ran (λ it b. YieldsList-from_vec {s = it} _ b.0 (b.1 ∙ c.in-Ok.plan.items.ok.0))
    (λ xs e h. h.0 ∙ ap (λ l. c.loop-shard.items.items ++ l) (sym (map_same xs) ∙ e))) in record {
      steps = steps_more HasLooked c.loop-shard.shard c.args.pass.now.shards c.loop-shard.pass.shards c.plan_shard.new.pass.shards (step_as (λ v w plans. plans.0) at) c.loop-shard.invariant.steps;
      store = c.in-Ok.ensures.same;
      longer = longer_more c.args.pass.now c.loop-shard.pass c.plan_shard.new.pass c.loop-shard.invariant.longer c.in-Ok.ensures.listed;
      found = all ∙ (λ i. c.loop-shard.invariant.found i ++ at.does.1 i) ∙ found_more (λ v. plan_of (state_of v.seen)) c.loop-shard.pass.shards c.plan_shard.new.pass.shards c.loop-shard.shard at.old at.new at.there at.only;
    }

pub returns-clause-plan : goal.returns-clause-plan
returns-clause-plan g c = c.loop-shard.invariant.found ∙ found_all (λ v. plan_of (state_of v.seen)) c.loop-shard.pass.shards c.loop-shard.shard (let long = stores_length c.loop-shard.pass.shards c.args.self.now.shards (ap (λ s. s.shards) c.loop-shard.invariant.store) in omega (arith, long, c.count_shards-shard-end.ensures.value, c.loop-shard-test.false))
