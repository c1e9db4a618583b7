use Rattle.std.proofs.Common.{length}
use Rattle.shared.specs.Deeds.{Takes, trim_deed}
use Rattle.sharded.specs.Seats.{shows_of}
use Rattle.sharded.proofs.Steps.{trim_of}
use Rattle.shared.specs.Passes.{FindsBusy}
use Rattle.sharded.proofs.Seats.{held_seat, stepped_seat, held_of, held_store, held_ledger, step_kept, step_listed, step_same, step_at, seat_lone}
use Rattle.sharded.proofs.store.ShardedStore.try_trim_shard.Goals as goal

pub try_trim-requires-clause-shard : goal.try_trim-requires-clause-shard
try_trim-requires-clause-shard c = held_store (held_seat c.pass.view_is c.pass.invariant c.self.view_is c.requires.store c.requires.shard c.index_mut-seat.ensures.value) c.index-at.result.now c.index-at.ensures

pub try_trim-requires-clause-at : goal.try_trim-requires-clause-at
try_trim-requires-clause-at c = held_of (held_seat c.pass.view_is c.pass.invariant c.self.view_is c.requires.store c.requires.shard c.index_mut-seat.ensures.value)

pub try_trim-requires-clause-ledger : goal.try_trim-requires-clause-ledger
try_trim-requires-clause-ledger c = held_ledger (held_seat c.pass.view_is c.pass.invariant c.self.view_is c.requires.store c.requires.shard c.index_mut-seat.ensures.value)

pub invariant_of-pass : goal.invariant_of-pass
invariant_of-pass c = step_kept (held_seat c.pass.view_is c.pass.invariant c.self.view_is c.requires.store c.requires.shard c.index_mut-seat.ensures.value) (stepped_seat c.index_mut-seat.result.now c.try_trim.new.seat c.pass.inside.follower c.try_trim.new.follower c.try_trim.ensures.takes c.try_trim.ensures.same c.try_trim.ensures.listed c.try_trim.ensures.follower) (trim_of (length (shows_of c.pass.inside.seats.items)) c.args.shard c.args.keep c.try_trim.result)

pub returns-clause-listed : goal.returns-clause-listed
returns-clause-listed c = step_listed (held_seat c.pass.view_is c.pass.invariant c.self.view_is c.requires.store c.requires.shard c.index_mut-seat.ensures.value) (stepped_seat c.index_mut-seat.result.now c.try_trim.new.seat c.pass.inside.follower c.try_trim.new.follower c.try_trim.ensures.takes c.try_trim.ensures.same c.try_trim.ensures.listed c.try_trim.ensures.follower)

pub returns-clause-same : goal.returns-clause-same
returns-clause-same c = step_same (held_seat c.pass.view_is c.pass.invariant c.self.view_is c.requires.store c.requires.shard c.index_mut-seat.ensures.value) (stepped_seat c.index_mut-seat.result.now c.try_trim.new.seat c.pass.inside.follower c.try_trim.new.follower c.try_trim.ensures.takes c.try_trim.ensures.same c.try_trim.ensures.listed c.try_trim.ensures.follower)

pub returns-clause-takes : goal.returns-clause-takes
returns-clause-takes c = step_at (held_seat c.pass.view_is c.pass.invariant c.self.view_is c.requires.store c.requires.shard c.index_mut-seat.ensures.value) (stepped_seat c.index_mut-seat.result.now c.try_trim.new.seat c.pass.inside.follower c.try_trim.new.follower c.try_trim.ensures.takes c.try_trim.ensures.same c.try_trim.ensures.listed c.try_trim.ensures.follower) (λ v w. Takes v (trim_deed c.args.keep c.try_trim.result) w) c.try_trim.ensures.takes

pub returns-clause-lone : goal.returns-clause-lone
returns-clause-lone c lone = c.try_trim.ensures.lone (seat_lone (held_seat c.pass.view_is c.pass.invariant c.self.view_is c.requires.store c.requires.shard c.index_mut-seat.ensures.value) lone)

pub returns-clause-busy : goal.returns-clause-busy
returns-clause-busy c busy = step_at (held_seat c.pass.view_is c.pass.invariant c.self.view_is c.requires.store c.requires.shard c.index_mut-seat.ensures.value) (stepped_seat c.index_mut-seat.result.now c.try_trim.new.seat c.pass.inside.follower c.try_trim.new.follower c.try_trim.ensures.takes c.try_trim.ensures.same c.try_trim.ensures.listed c.try_trim.ensures.follower) FindsBusy (c.try_trim.ensures.busy busy)
