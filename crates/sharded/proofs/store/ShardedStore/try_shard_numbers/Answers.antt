use Rattle.std.proofs.Common.{◌≡◌, ◌∙◌, None, IfOk}
use Rattle.shared.specs.Passes.{FindsBusy}
use Rattle.shared.specs.Deeds.{Takes}
use Rattle.sharded.specs.Totals.{AreNumbersAt}
use Rattle.sharded.proofs.Seats.{held_seat, stepped_seat, held_of, held_store, held_ledger, step_kept, step_listed, step_same, step_at, seat_lone}
use Rattle.sharded.proofs.Totals.{numbers_found}
use Rattle.sharded.proofs.store.ShardedStore.try_shard_numbers.Goals as goal

pub try_numbers-requires-clause-shard : goal.try_numbers-requires-clause-shard
try_numbers-requires-clause-shard c = held_store (held_seat c.pass.view_is c.pass.invariant c.self.view_is c.requires.store c.requires.shard c.index_mut-seat.ensures.value) c.index-at.result.now c.index-at.ensures

pub try_numbers-requires-clause-at : goal.try_numbers-requires-clause-at
try_numbers-requires-clause-at c = held_of (held_seat c.pass.view_is c.pass.invariant c.self.view_is c.requires.store c.requires.shard c.index_mut-seat.ensures.value)

pub try_numbers-requires-clause-ledger : goal.try_numbers-requires-clause-ledger
try_numbers-requires-clause-ledger c = held_ledger (held_seat c.pass.view_is c.pass.invariant c.self.view_is c.requires.store c.requires.shard c.index_mut-seat.ensures.value)

pub invariant_of-pass : goal.invariant_of-pass
invariant_of-pass c = step_kept (held_seat c.pass.view_is c.pass.invariant c.self.view_is c.requires.store c.requires.shard c.index_mut-seat.ensures.value) (stepped_seat c.index_mut-seat.result.now c.try_numbers.new.seat c.pass.inside.follower c.try_numbers.new.follower c.try_numbers.ensures.takes c.try_numbers.ensures.same c.try_numbers.ensures.listed c.try_numbers.ensures.follower) tt

pub returns-clause-listed : goal.returns-clause-listed
returns-clause-listed c = step_listed (held_seat c.pass.view_is c.pass.invariant c.self.view_is c.requires.store c.requires.shard c.index_mut-seat.ensures.value) (stepped_seat c.index_mut-seat.result.now c.try_numbers.new.seat c.pass.inside.follower c.try_numbers.new.follower c.try_numbers.ensures.takes c.try_numbers.ensures.same c.try_numbers.ensures.listed c.try_numbers.ensures.follower)

pub returns-clause-same : goal.returns-clause-same
returns-clause-same c = step_same (held_seat c.pass.view_is c.pass.invariant c.self.view_is c.requires.store c.requires.shard c.index_mut-seat.ensures.value) (stepped_seat c.index_mut-seat.result.now c.try_numbers.new.seat c.pass.inside.follower c.try_numbers.new.follower c.try_numbers.ensures.takes c.try_numbers.ensures.same c.try_numbers.ensures.listed c.try_numbers.ensures.follower)

pub returns-clause-looked : goal.returns-clause-looked
returns-clause-looked c =
    let store : c.try_numbers.new.seat.shows.store ≡ c.index-at.result.now = c.try_numbers.ensures.takes.stays.0 ∙ held_store (held_seat c.pass.view_is c.pass.invariant c.self.view_is c.requires.store c.requires.shard c.index_mut-seat.ensures.value) c.index-at.result.now c.index-at.ensures in
    step_at (held_seat c.pass.view_is c.pass.invariant c.self.view_is c.requires.store c.requires.shard c.index_mut-seat.ensures.value) (stepped_seat c.index_mut-seat.result.now c.try_numbers.new.seat c.pass.inside.follower c.try_numbers.new.follower c.try_numbers.ensures.takes c.try_numbers.ensures.same c.try_numbers.ensures.listed c.try_numbers.ensures.follower) (λ v w. Takes v None w × IfOk c.try_numbers.result (AreNumbersAt w))
    (c.try_numbers.ensures.takes, numbers_found c.try_numbers.new.seat.shows c.index-at.result.now c.try_numbers.result store c.try_numbers.ensures.ok c.try_numbers.ensures.entries)

pub returns-clause-lone : goal.returns-clause-lone
returns-clause-lone c lone = c.try_numbers.ensures.lone (seat_lone (held_seat c.pass.view_is c.pass.invariant c.self.view_is c.requires.store c.requires.shard c.index_mut-seat.ensures.value) lone)

pub returns-clause-busy : goal.returns-clause-busy
returns-clause-busy c busy = step_at (held_seat c.pass.view_is c.pass.invariant c.self.view_is c.requires.store c.requires.shard c.index_mut-seat.ensures.value) (stepped_seat c.index_mut-seat.result.now c.try_numbers.new.seat c.pass.inside.follower c.try_numbers.new.follower c.try_numbers.ensures.takes c.try_numbers.ensures.same c.try_numbers.ensures.listed c.try_numbers.ensures.follower) FindsBusy (c.try_numbers.ensures.busy busy)
