use Rattle.std.proofs.Common.{length}
use Rattle.shared.specs.Deeds.{Takes, trim_deed}
use Rattle.sharded.specs.Seats.{shows_of}
use Rattle.sharded.proofs.Steps.{trim_of}
use Rattle.sharded.proofs.Seats.{held_seat, stepped_seat, held_of, held_store, held_ledger, step_kept, step_listed, step_same, step_at}
use Rattle.sharded.proofs.store.ShardedStore.trim_shard.Goals as goal

pub trim-requires-clause-shard : goal.trim-requires-clause-shard
trim-requires-clause-shard g c = held_store (held_seat c.pass.view_is c.pass.invariant c.self.view_is c.requires.store c.requires.shard c.index_mut-seat.ensures.value) c.index-at.result.now c.index-at.ensures

pub trim-requires-clause-at : goal.trim-requires-clause-at
trim-requires-clause-at g c = held_of (held_seat c.pass.view_is c.pass.invariant c.self.view_is c.requires.store c.requires.shard c.index_mut-seat.ensures.value)

pub trim-requires-clause-ledger : goal.trim-requires-clause-ledger
trim-requires-clause-ledger g c = held_ledger (held_seat c.pass.view_is c.pass.invariant c.self.view_is c.requires.store c.requires.shard c.index_mut-seat.ensures.value)

pub invariant_of-pass : goal.invariant_of-pass
invariant_of-pass g c = step_kept (held_seat c.pass.view_is c.pass.invariant c.self.view_is c.requires.store c.requires.shard c.index_mut-seat.ensures.value) (stepped_seat c.index_mut-seat.result.now c.trim.new.seat c.pass.inside.follower c.trim.new.follower c.trim.ensures.takes c.trim.ensures.same c.trim.ensures.listed c.trim.ensures.follower) (trim_of (length (shows_of c.pass.inside.seats.items)) c.args.shard c.args.keep c.trim.result)

pub returns-clause-listed : goal.returns-clause-listed
returns-clause-listed g c = step_listed (held_seat c.pass.view_is c.pass.invariant c.self.view_is c.requires.store c.requires.shard c.index_mut-seat.ensures.value) (stepped_seat c.index_mut-seat.result.now c.trim.new.seat c.pass.inside.follower c.trim.new.follower c.trim.ensures.takes c.trim.ensures.same c.trim.ensures.listed c.trim.ensures.follower)

pub returns-clause-same : goal.returns-clause-same
returns-clause-same g c = step_same (held_seat c.pass.view_is c.pass.invariant c.self.view_is c.requires.store c.requires.shard c.index_mut-seat.ensures.value) (stepped_seat c.index_mut-seat.result.now c.trim.new.seat c.pass.inside.follower c.trim.new.follower c.trim.ensures.takes c.trim.ensures.same c.trim.ensures.listed c.trim.ensures.follower)

pub returns-clause-takes : goal.returns-clause-takes
returns-clause-takes g c = step_at (held_seat c.pass.view_is c.pass.invariant c.self.view_is c.requires.store c.requires.shard c.index_mut-seat.ensures.value) (stepped_seat c.index_mut-seat.result.now c.trim.new.seat c.pass.inside.follower c.trim.new.follower c.trim.ensures.takes c.trim.ensures.same c.trim.ensures.listed c.trim.ensures.follower) (λ v w. Takes v (trim_deed c.args.keep c.trim.result) w) c.trim.ensures.takes
