use Rattle.std.proofs.Common.{◌≡◌, ◌⊎◌, ◌+◌, refl}
use Rattle.history.specs.Step.{repair}
use Rattle.sharded.proofs.Seats.{held_seat, stepped_seat, held_of, held_store, held_name, kept_call, called_at, listed_call, step_same, held_ledger, seat_lone, busy_at, named_step}
use Rattle.sharded.proofs.makes.ShardedStoreMakes.try_repair.Goals as goal

pub try_repair-requires-clause-shard : goal.try_repair-requires-clause-shard
try_repair-requires-clause-shard c = held_store (held_seat c.pass.view_is c.pass.invariant c.self.view_is c.requires c.find_shard-place.ensures.below c.index_mut-seat.ensures.value) c.index-shard.result.now c.index-shard.ensures

pub try_repair-requires-clause-at : goal.try_repair-requires-clause-at
try_repair-requires-clause-at c = held_of (held_seat c.pass.view_is c.pass.invariant c.self.view_is c.requires c.find_shard-place.ensures.below c.index_mut-seat.ensures.value)

pub try_repair-requires-clause-ledger : goal.try_repair-requires-clause-ledger
try_repair-requires-clause-ledger c = held_ledger (held_seat c.pass.view_is c.pass.invariant c.self.view_is c.requires c.find_shard-place.ensures.below c.index_mut-seat.ensures.value)

pub try_repair-requires-clause-name : goal.try_repair-requires-clause-name
try_repair-requires-clause-name c = held_name (held_seat c.pass.view_is c.pass.invariant c.self.view_is c.requires c.find_shard-place.ensures.below c.index_mut-seat.ensures.value) c.args.name (repair c.args.name c.args.stripe c.args.fragment) c.find_shard-place.ensures.value refl

pub invariant_of-pass : goal.invariant_of-pass
invariant_of-pass c = kept_call (held_seat c.pass.view_is c.pass.invariant c.self.view_is c.requires c.find_shard-place.ensures.below c.index_mut-seat.ensures.value) c.args.name c.find_shard-place.ensures.value (stepped_seat c.index_mut-seat.result.now c.try_repair.new.seat c.pass.inside.follower c.try_repair.new.follower c.try_repair.ensures.called.takes c.try_repair.ensures.same c.try_repair.ensures.listed c.try_repair.ensures.follower) c.try_repair.ensures.called refl

pub returns-clause-called : goal.returns-clause-called
returns-clause-called c = called_at (held_seat c.pass.view_is c.pass.invariant c.self.view_is c.requires c.find_shard-place.ensures.below c.index_mut-seat.ensures.value) c.args.name c.find_shard-place.ensures.value c.try_repair.new.seat c.try_repair.ensures.called refl

pub returns-clause-listed : goal.returns-clause-listed
returns-clause-listed c = listed_call (held_seat c.pass.view_is c.pass.invariant c.self.view_is c.requires c.find_shard-place.ensures.below c.index_mut-seat.ensures.value) c.args.name c.find_shard-place.ensures.value (repair c.args.name c.args.stripe c.args.fragment) c.try_repair.result (stepped_seat c.index_mut-seat.result.now c.try_repair.new.seat c.pass.inside.follower c.try_repair.new.follower c.try_repair.ensures.called.takes c.try_repair.ensures.same c.try_repair.ensures.listed c.try_repair.ensures.follower) refl

pub returns-clause-same : goal.returns-clause-same
returns-clause-same c = step_same (held_seat c.pass.view_is c.pass.invariant c.self.view_is c.requires c.find_shard-place.ensures.below c.index_mut-seat.ensures.value) (stepped_seat c.index_mut-seat.result.now c.try_repair.new.seat c.pass.inside.follower c.try_repair.new.follower c.try_repair.ensures.called.takes c.try_repair.ensures.same c.try_repair.ensures.listed c.try_repair.ensures.follower)

pub returns-clause-lone : goal.returns-clause-lone
returns-clause-lone c lone = c.try_repair.ensures.lone (seat_lone (held_seat c.pass.view_is c.pass.invariant c.self.view_is c.requires c.find_shard-place.ensures.below c.index_mut-seat.ensures.value) lone)

pub returns-clause-busy : goal.returns-clause-busy
returns-clause-busy c busy = busy_at (held_seat c.pass.view_is c.pass.invariant c.self.view_is c.requires c.find_shard-place.ensures.below c.index_mut-seat.ensures.value) c.args.name c.find_shard-place.ensures.value c.args.stripe c.args.fragment c.try_repair.new.seat (c.try_repair.ensures.busy busy)

pub returns-clause-entered : goal.returns-clause-entered
returns-clause-entered c free = named_step (held_seat c.pass.view_is c.pass.invariant c.self.view_is c.requires c.find_shard-place.ensures.below c.index_mut-seat.ensures.value) c.args.name c.find_shard-place.ensures.value (λ x y. (y.visits ≡ x.visits + 1) ⊎ (y.visits ≡ x.visits + 2)) (repair c.args.name c.args.stripe c.args.fragment) c.try_repair.new.seat (c.try_repair.ensures.entered free) refl
