use Rattle.std.proofs.Common.{◌≡◌, ◌⊎◌, inl, inr, ℕ, ◌-◌, ◌≤◌, List, ◌++◌, take, length, ◌∙◌, ap, sym, subst, arith}
use Rattle.std.specs.Option.{option_map}
use Rattle.std.proofs.lemmas.Iterator.Adapters.{fact_from_extend, YieldsList-from_vec}
use Rattle.book.specs.declared.plan.Item.{Item}
use Rattle.sharded.specs.PlanParts.{MayHaveLooked, first_shard, lost_from}
use Rattle.sharded.proofs.StepsTo.{steps_more, step_as, lone_step, on_ok, map_same}
use Rattle.sharded.proofs.Listings.{longer_same, longer_more}
use Rattle.sharded.proofs.Passes.{stores_length}
use Rattle.sharded.proofs.PlanParts.{IsPartTo, looked_none, looked_all, part_none, part_more, part_whole}
use Rattle.sharded.proofs.store.ShardedStore.try_plan_part.Goals.{then-loop-shard-test+else-len-most, else-loop-shard-test}
use Rattle.sharded.proofs.store.ShardedStore.try_plan_part.Goals as goal

pub loop-shard-init : goal.loop-shard-init
loop-shard-init c =
    let a = option_map (λ i. i.now) c.args.after in
    let first = first_shard (length c.args.self.now.shards) a in record {
      steps = looked_none c.find_first-shard.result c.args.pass.now.shards;
      store = c.requires;
      longer = longer_same c.args.pass.now;
      lone = λ lone. lone;
      part = subst (λ (u : ℕ × List Item). IsPartTo first a c.args.most u.0 a c.args.pass.now.shards u.1) (λ i. (sym c.find_first-shard.ensures.value i, sym c.new-items.ensures.items i)) (part_none first a c.args.most c.args.pass.now.shards);
    }

pub returns-in-Err-clause-looked : goal.returns-in-Err-clause-looked
returns-in-Err-clause-looked c =
    looked_all _ c.args.pass.now.shards c.try_plan_shard_part.new.pass.shards (steps_more MayHaveLooked c.loop-shard.shard c.args.pass.now.shards c.loop-shard.pass.shards c.try_plan_shard_part.new.pass.shards (step_as (λ v w plans. inr plans.0) c.in-Err.ensures.plans) c.loop-shard.invariant.steps)

pub returns-in-Err-clause-busy : goal.returns-in-Err-clause-busy
returns-in-Err-clause-busy c busy = (c.loop-shard.shard, c.loop-shard.pass.shards, c.loop-shard.invariant.steps, c.in-Err.ensures.busy busy)

pub returns-then-is_err-clause-looked : goal.returns-then-is_err-clause-looked
returns-then-is_err-clause-looked c =
    looked_all _ c.args.pass.now.shards c.try_plan_shard_part.new.pass.shards (steps_more MayHaveLooked c.loop-shard.shard c.args.pass.now.shards c.loop-shard.pass.shards c.try_plan_shard_part.new.pass.shards (step_as (λ v w plans. inr plans.0) c.in-Ok.ensures.plans) c.loop-shard.invariant.steps)

pub loop-shard-preserved : goal.loop-shard-preserved
loop-shard-preserved c =
    let a = option_map (λ i. i.now) c.args.after in
    let first = first_shard (length c.args.self.now.shards) a in
    let at = c.in-Ok.ensures.plans in
    let ws = c.try_plan_shard_part.new.pass.shards in
    let all : c.extend.new.self.items ≡ c.loop-shard.items.items ++ c.in-Ok.plan.items.items =
    on_ok c.extend.result _ (sym c.is_err.ensures.value ∙ c.if-is_err.false)
    (fact_from_extend (λ x. x) c.extend.result c.extend.ensures.ran (λ it b. YieldsList-from_vec {s = it} _ b.0 (b.1 ∙ c.in-Ok.plan.items.ok.0))
    (λ xs e h. h.0 ∙ ap (λ l. c.loop-shard.items.items ++ l) (sym (map_same xs) ∙ e))) in record {
      steps = steps_more MayHaveLooked c.loop-shard.shard c.args.pass.now.shards c.loop-shard.pass.shards ws (step_as (λ v w plans. inr plans.0) at) c.loop-shard.invariant.steps;
      store = c.in-Ok.ensures.same;
      longer = longer_more c.args.pass.now c.loop-shard.pass c.try_plan_shard_part.new.pass c.loop-shard.invariant.longer c.in-Ok.ensures.listed;
      lone = λ lone. lone_step c.loop-shard.shard c.loop-shard.pass.shards ws (step_as (λ v w plans. plans.0) at) (c.loop-shard.invariant.lone lone);
      part = subst (IsPartTo first a c.args.most _ _ ws) (sym all)
          (part_more first a c.args.most c.loop-shard.shard (c.args.most - c.len-in-loop-shard.result) (option_map (λ i. i.now) c.loop-shard.cursor) c.loop-shard.pass.shards ws at.old at.new c.loop-shard.items.items c.in-Ok.plan.items.items at.there at.only
          (ap (λ n. c.args.most - n) (c.len-in-loop-shard.ensures ∙ c.loop-shard.items.ok.0)) at.does.1 c.loop-shard.invariant.part);
    }

pub returns-clause-looked : goal.returns-clause-looked
returns-clause-looked c = looked_all c.loop-shard.shard c.args.pass.now.shards c.loop-shard.pass.shards c.loop-shard.invariant.steps

pub returns-clause-part : goal.returns-clause-part
returns-clause-part c =
    let a = option_map (λ i. i.now) c.args.after in
    let ws = c.loop-shard.pass.shards in
    let long = stores_length ws c.args.self.now.shards (ap (λ s. s.shards) c.loop-shard.invariant.store) in
    let done : (length ws ≤ c.loop-shard.shard) ⊎ (c.args.most ≤ length c.loop-shard.items.items) =
    elim c.loop-shard-test.branch [
      | then-loop-shard-test+else-len-most w ↦ inr (omega (arith, w.if-len-most.false, w.len.ensures, c.loop-shard.items.ok.0))
      | else-loop-shard-test w ↦ inl (omega (arith, long, c.count_shards-count.ensures.value, w.loop-shard-test.false))
    ] in
    part_whole (first_shard (length c.args.self.now.shards) a) a c.args.most c.loop-shard.shard (option_map (λ i. i.now) c.loop-shard.cursor) ws c.loop-shard.items.items done c.loop-shard.invariant.part
    ∙ ap (λ n. take c.args.most (lost_from (first_shard n a) a ws)) (sym long)
