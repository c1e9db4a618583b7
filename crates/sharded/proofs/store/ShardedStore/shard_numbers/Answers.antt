use Rattle.std.proofs.Common.{◌≡◌, ◌∙◌, None}
use Rattle.shared.specs.Deeds.{Takes}
use Rattle.sharded.specs.Totals.{AreNumbersAt}
use Rattle.sharded.proofs.Seats.{held_seat, stepped_seat, held_of, held_store, held_ledger, step_kept, step_listed, step_same, step_at}
use Rattle.sharded.proofs.Totals.{numbers_at}
use Rattle.sharded.proofs.store.ShardedStore.shard_numbers.Goals as goal

pub numbers-requires-clause-shard : goal.numbers-requires-clause-shard
numbers-requires-clause-shard g c = held_store (held_seat c.pass.view_is c.pass.invariant c.self.view_is c.requires.store c.requires.shard c.index_mut-seat.ensures.value) c.index-at.result.now c.index-at.ensures

pub numbers-requires-clause-at : goal.numbers-requires-clause-at
numbers-requires-clause-at g c = held_of (held_seat c.pass.view_is c.pass.invariant c.self.view_is c.requires.store c.requires.shard c.index_mut-seat.ensures.value)

pub numbers-requires-clause-ledger : goal.numbers-requires-clause-ledger
numbers-requires-clause-ledger g c = held_ledger (held_seat c.pass.view_is c.pass.invariant c.self.view_is c.requires.store c.requires.shard c.index_mut-seat.ensures.value)

pub invariant_of-pass : goal.invariant_of-pass
invariant_of-pass g c = step_kept (held_seat c.pass.view_is c.pass.invariant c.self.view_is c.requires.store c.requires.shard c.index_mut-seat.ensures.value) (stepped_seat c.index_mut-seat.result.now c.numbers.new.seat c.pass.inside.follower c.numbers.new.follower c.numbers.ensures.takes c.numbers.ensures.same c.numbers.ensures.listed c.numbers.ensures.follower) tt

pub returns-clause-listed : goal.returns-clause-listed
returns-clause-listed g c = step_listed (held_seat c.pass.view_is c.pass.invariant c.self.view_is c.requires.store c.requires.shard c.index_mut-seat.ensures.value) (stepped_seat c.index_mut-seat.result.now c.numbers.new.seat c.pass.inside.follower c.numbers.new.follower c.numbers.ensures.takes c.numbers.ensures.same c.numbers.ensures.listed c.numbers.ensures.follower)

pub returns-clause-same : goal.returns-clause-same
returns-clause-same g c = step_same (held_seat c.pass.view_is c.pass.invariant c.self.view_is c.requires.store c.requires.shard c.index_mut-seat.ensures.value) (stepped_seat c.index_mut-seat.result.now c.numbers.new.seat c.pass.inside.follower c.numbers.new.follower c.numbers.ensures.takes c.numbers.ensures.same c.numbers.ensures.listed c.numbers.ensures.follower)

pub returns-clause-looked : goal.returns-clause-looked
returns-clause-looked g c =
    let store : c.numbers.new.seat.shows.store ≡ c.index-at.result.now = c.numbers.ensures.takes.stays.0 ∙ held_store (held_seat c.pass.view_is c.pass.invariant c.self.view_is c.requires.store c.requires.shard c.index_mut-seat.ensures.value) c.index-at.result.now c.index-at.ensures in
    step_at (held_seat c.pass.view_is c.pass.invariant c.self.view_is c.requires.store c.requires.shard c.index_mut-seat.ensures.value) (stepped_seat c.index_mut-seat.result.now c.numbers.new.seat c.pass.inside.follower c.numbers.new.follower c.numbers.ensures.takes c.numbers.ensures.same c.numbers.ensures.listed c.numbers.ensures.follower) (λ v w. Takes v None w × AreNumbersAt w c.numbers.result)
    (c.numbers.ensures.takes, numbers_at c.numbers.new.seat.shows c.index-at.result.now c.numbers.result store c.numbers.ensures.holds c.numbers.ensures.entries)
