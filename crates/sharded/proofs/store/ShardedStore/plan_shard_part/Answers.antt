use Rattle.std.proofs.Common.{◌≡◌, IfOk, None, take}
use Rattle.std.specs.Option.{option_map}
use Rattle.history.specs.History.{state_of}
use Rattle.book.specs.Plan.{plan_of, items_after}
use Rattle.shared.specs.Deeds.{Takes}
use Rattle.sharded.proofs.Seats.{held_seat, stepped_seat, held_of, held_store, held_ledger, step_kept, step_listed, step_same, step_at}
use Rattle.sharded.proofs.store.ShardedStore.plan_shard_part.Goals as goal

pub plan_part-requires-clause-shard : goal.plan_part-requires-clause-shard
plan_part-requires-clause-shard g c = held_store (held_seat c.pass.view_is c.pass.invariant c.self.view_is c.requires.store c.requires.shard c.index_mut-seat.ensures.value) c.index-at.result.now c.index-at.ensures

pub plan_part-requires-clause-at : goal.plan_part-requires-clause-at
plan_part-requires-clause-at g c = held_of (held_seat c.pass.view_is c.pass.invariant c.self.view_is c.requires.store c.requires.shard c.index_mut-seat.ensures.value)

pub plan_part-requires-clause-ledger : goal.plan_part-requires-clause-ledger
plan_part-requires-clause-ledger g c = held_ledger (held_seat c.pass.view_is c.pass.invariant c.self.view_is c.requires.store c.requires.shard c.index_mut-seat.ensures.value)

pub invariant_of-pass : goal.invariant_of-pass
invariant_of-pass g c = step_kept (held_seat c.pass.view_is c.pass.invariant c.self.view_is c.requires.store c.requires.shard c.index_mut-seat.ensures.value) (stepped_seat c.index_mut-seat.result.now c.plan_part.new.seat c.pass.inside.follower c.plan_part.new.follower c.plan_part.ensures.takes c.plan_part.ensures.same c.plan_part.ensures.listed c.plan_part.ensures.follower) tt

pub returns-clause-listed : goal.returns-clause-listed
returns-clause-listed g c = step_listed (held_seat c.pass.view_is c.pass.invariant c.self.view_is c.requires.store c.requires.shard c.index_mut-seat.ensures.value) (stepped_seat c.index_mut-seat.result.now c.plan_part.new.seat c.pass.inside.follower c.plan_part.new.follower c.plan_part.ensures.takes c.plan_part.ensures.same c.plan_part.ensures.listed c.plan_part.ensures.follower)

pub returns-clause-same : goal.returns-clause-same
returns-clause-same g c = step_same (held_seat c.pass.view_is c.pass.invariant c.self.view_is c.requires.store c.requires.shard c.index_mut-seat.ensures.value) (stepped_seat c.index_mut-seat.result.now c.plan_part.new.seat c.pass.inside.follower c.plan_part.new.follower c.plan_part.ensures.takes c.plan_part.ensures.same c.plan_part.ensures.listed c.plan_part.ensures.follower)

pub returns-clause-plans : goal.returns-clause-plans
returns-clause-plans g c = step_at (held_seat c.pass.view_is c.pass.invariant c.self.view_is c.requires.store c.requires.shard c.index_mut-seat.ensures.value) (stepped_seat c.index_mut-seat.result.now c.plan_part.new.seat c.pass.inside.follower c.plan_part.new.follower c.plan_part.ensures.takes c.plan_part.ensures.same c.plan_part.ensures.listed c.plan_part.ensures.follower) (λ v w. Takes v None w × IfOk c.plan_part.result (λ p. p.items.items ≡ take c.args.most (items_after (option_map (λ i. i.now) c.args.after) (plan_of (state_of w.seen))))) (c.plan_part.ensures.takes, c.plan_part.ensures.ok)
