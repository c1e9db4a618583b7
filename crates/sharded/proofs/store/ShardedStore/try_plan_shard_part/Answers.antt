use Rattle.std.proofs.Common.{◌≡◌, IfOk, None, take}
use Rattle.std.specs.Option.{option_map}
use Rattle.history.specs.History.{state_of}
use Rattle.book.specs.Plan.{plan_of, items_after}
use Rattle.shared.specs.Deeds.{Takes}
use Rattle.shared.specs.Passes.{FindsBusy}
use Rattle.sharded.proofs.Seats.{held_seat, stepped_seat, held_of, held_store, held_ledger, step_kept, step_listed, step_same, step_at, seat_lone}
use Rattle.sharded.proofs.store.ShardedStore.try_plan_shard_part.Goals as goal

pub try_plan_part-requires-clause-shard : goal.try_plan_part-requires-clause-shard
try_plan_part-requires-clause-shard c = held_store (held_seat c.pass.view_is c.pass.invariant c.self.view_is c.requires.store c.requires.shard c.index_mut-seat.ensures.value) c.index-at.result.now c.index-at.ensures

pub try_plan_part-requires-clause-at : goal.try_plan_part-requires-clause-at
try_plan_part-requires-clause-at c = held_of (held_seat c.pass.view_is c.pass.invariant c.self.view_is c.requires.store c.requires.shard c.index_mut-seat.ensures.value)

pub try_plan_part-requires-clause-ledger : goal.try_plan_part-requires-clause-ledger
try_plan_part-requires-clause-ledger c = held_ledger (held_seat c.pass.view_is c.pass.invariant c.self.view_is c.requires.store c.requires.shard c.index_mut-seat.ensures.value)

pub invariant_of-pass : goal.invariant_of-pass
invariant_of-pass c = step_kept (held_seat c.pass.view_is c.pass.invariant c.self.view_is c.requires.store c.requires.shard c.index_mut-seat.ensures.value) (stepped_seat c.index_mut-seat.result.now c.try_plan_part.new.seat c.pass.inside.follower c.try_plan_part.new.follower c.try_plan_part.ensures.takes c.try_plan_part.ensures.same c.try_plan_part.ensures.listed c.try_plan_part.ensures.follower) tt

pub returns-clause-listed : goal.returns-clause-listed
returns-clause-listed c = step_listed (held_seat c.pass.view_is c.pass.invariant c.self.view_is c.requires.store c.requires.shard c.index_mut-seat.ensures.value) (stepped_seat c.index_mut-seat.result.now c.try_plan_part.new.seat c.pass.inside.follower c.try_plan_part.new.follower c.try_plan_part.ensures.takes c.try_plan_part.ensures.same c.try_plan_part.ensures.listed c.try_plan_part.ensures.follower)

pub returns-clause-same : goal.returns-clause-same
returns-clause-same c = step_same (held_seat c.pass.view_is c.pass.invariant c.self.view_is c.requires.store c.requires.shard c.index_mut-seat.ensures.value) (stepped_seat c.index_mut-seat.result.now c.try_plan_part.new.seat c.pass.inside.follower c.try_plan_part.new.follower c.try_plan_part.ensures.takes c.try_plan_part.ensures.same c.try_plan_part.ensures.listed c.try_plan_part.ensures.follower)

pub returns-clause-plans : goal.returns-clause-plans
returns-clause-plans c = step_at (held_seat c.pass.view_is c.pass.invariant c.self.view_is c.requires.store c.requires.shard c.index_mut-seat.ensures.value) (stepped_seat c.index_mut-seat.result.now c.try_plan_part.new.seat c.pass.inside.follower c.try_plan_part.new.follower c.try_plan_part.ensures.takes c.try_plan_part.ensures.same c.try_plan_part.ensures.listed c.try_plan_part.ensures.follower) (λ v w. Takes v None w × IfOk c.try_plan_part.result (λ p. p.items.items ≡ take c.args.most (items_after (option_map (λ i. i.now) c.args.after) (plan_of (state_of w.seen))))) (c.try_plan_part.ensures.takes, c.try_plan_part.ensures.ok)

pub returns-clause-lone : goal.returns-clause-lone
returns-clause-lone c lone = c.try_plan_part.ensures.lone (seat_lone (held_seat c.pass.view_is c.pass.invariant c.self.view_is c.requires.store c.requires.shard c.index_mut-seat.ensures.value) lone)

pub returns-clause-busy : goal.returns-clause-busy
returns-clause-busy c busy = step_at (held_seat c.pass.view_is c.pass.invariant c.self.view_is c.requires.store c.requires.shard c.index_mut-seat.ensures.value) (stepped_seat c.index_mut-seat.result.now c.try_plan_part.new.seat c.pass.inside.follower c.try_plan_part.new.follower c.try_plan_part.ensures.takes c.try_plan_part.ensures.same c.try_plan_part.ensures.listed c.try_plan_part.ensures.follower) FindsBusy (c.try_plan_part.ensures.busy busy)
