use Rattle.std.proofs.Common.{◌≡◌, IfOk, None}
use Rattle.history.specs.History.{state_of}
use Rattle.book.specs.Plan.{plan_of}
use Rattle.shared.specs.Deeds.{Takes}
use Rattle.sharded.proofs.Seats.{held_seat, stepped_seat, held_of, held_store, held_ledger, step_kept, step_listed, step_same, step_at}
use Rattle.sharded.proofs.store.ShardedStore.plan_shard.Goals as goal

pub plan-requires-clause-shard : goal.plan-requires-clause-shard
plan-requires-clause-shard g c = held_store (held_seat c.pass.view_is c.pass.invariant c.self.view_is c.requires.store c.requires.shard c.index_mut-seat.ensures.value) c.index-at.result.now c.index-at.ensures

pub plan-requires-clause-at : goal.plan-requires-clause-at
plan-requires-clause-at g c = held_of (held_seat c.pass.view_is c.pass.invariant c.self.view_is c.requires.store c.requires.shard c.index_mut-seat.ensures.value)

pub plan-requires-clause-ledger : goal.plan-requires-clause-ledger
plan-requires-clause-ledger g c = held_ledger (held_seat c.pass.view_is c.pass.invariant c.self.view_is c.requires.store c.requires.shard c.index_mut-seat.ensures.value)

pub invariant_of-pass : goal.invariant_of-pass
invariant_of-pass g c = step_kept (held_seat c.pass.view_is c.pass.invariant c.self.view_is c.requires.store c.requires.shard c.index_mut-seat.ensures.value) (stepped_seat c.index_mut-seat.result.now c.plan.new.seat c.pass.inside.follower c.plan.new.follower c.plan.ensures.takes c.plan.ensures.same c.plan.ensures.listed c.plan.ensures.follower) tt

pub returns-clause-listed : goal.returns-clause-listed
returns-clause-listed g c = step_listed (held_seat c.pass.view_is c.pass.invariant c.self.view_is c.requires.store c.requires.shard c.index_mut-seat.ensures.value) (stepped_seat c.index_mut-seat.result.now c.plan.new.seat c.pass.inside.follower c.plan.new.follower c.plan.ensures.takes c.plan.ensures.same c.plan.ensures.listed c.plan.ensures.follower)

pub returns-clause-same : goal.returns-clause-same
returns-clause-same g c = step_same (held_seat c.pass.view_is c.pass.invariant c.self.view_is c.requires.store c.requires.shard c.index_mut-seat.ensures.value) (stepped_seat c.index_mut-seat.result.now c.plan.new.seat c.pass.inside.follower c.plan.new.follower c.plan.ensures.takes c.plan.ensures.same c.plan.ensures.listed c.plan.ensures.follower)

pub returns-clause-plans : goal.returns-clause-plans
returns-clause-plans g c = step_at (held_seat c.pass.view_is c.pass.invariant c.self.view_is c.requires.store c.requires.shard c.index_mut-seat.ensures.value) (stepped_seat c.index_mut-seat.result.now c.plan.new.seat c.pass.inside.follower c.plan.new.follower c.plan.ensures.takes c.plan.ensures.same c.plan.ensures.listed c.plan.ensures.follower) (λ v w. Takes v None w × IfOk c.plan.result (λ p. p.items.items ≡ plan_of (state_of w.seen))) (c.plan.ensures.takes, c.plan.ensures.ok)
