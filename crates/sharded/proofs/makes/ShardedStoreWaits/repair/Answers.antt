use Rattle.std.proofs.Common.{refl}
use Rattle.history.specs.Step.{repair}
use Rattle.sharded.proofs.Seats.{held_seat, stepped_seat, held_of, held_store, held_name, kept_call, called_at, listed_call, step_same, held_ledger}
use Rattle.sharded.proofs.makes.ShardedStoreWaits.repair.Goals as goal

pub repair-requires-clause-shard : goal.repair-requires-clause-shard
repair-requires-clause-shard g c = held_store (held_seat c.pass.view_is c.pass.invariant c.self.view_is c.requires c.find_shard-place.ensures.below c.index_mut-seat.ensures.value) c.index-shard.result.now c.index-shard.ensures

pub repair-requires-clause-at : goal.repair-requires-clause-at
repair-requires-clause-at g c = held_of (held_seat c.pass.view_is c.pass.invariant c.self.view_is c.requires c.find_shard-place.ensures.below c.index_mut-seat.ensures.value)

pub repair-requires-clause-ledger : goal.repair-requires-clause-ledger
repair-requires-clause-ledger g c = held_ledger (held_seat c.pass.view_is c.pass.invariant c.self.view_is c.requires c.find_shard-place.ensures.below c.index_mut-seat.ensures.value)

pub repair-requires-clause-name : goal.repair-requires-clause-name
repair-requires-clause-name g c = held_name (held_seat c.pass.view_is c.pass.invariant c.self.view_is c.requires c.find_shard-place.ensures.below c.index_mut-seat.ensures.value) c.args.name (repair c.args.name c.args.stripe c.args.fragment) c.find_shard-place.ensures.value refl

pub invariant_of-pass : goal.invariant_of-pass
invariant_of-pass g c = kept_call (held_seat c.pass.view_is c.pass.invariant c.self.view_is c.requires c.find_shard-place.ensures.below c.index_mut-seat.ensures.value) c.args.name c.find_shard-place.ensures.value (stepped_seat c.index_mut-seat.result.now c.repair.new.seat c.pass.inside.follower c.repair.new.follower c.repair.ensures.called.takes c.repair.ensures.same c.repair.ensures.listed c.repair.ensures.follower) c.repair.ensures.called refl

pub returns-clause-called : goal.returns-clause-called
returns-clause-called g c = called_at (held_seat c.pass.view_is c.pass.invariant c.self.view_is c.requires c.find_shard-place.ensures.below c.index_mut-seat.ensures.value) c.args.name c.find_shard-place.ensures.value c.repair.new.seat c.repair.ensures.called refl

pub returns-clause-listed : goal.returns-clause-listed
returns-clause-listed g c = listed_call (held_seat c.pass.view_is c.pass.invariant c.self.view_is c.requires c.find_shard-place.ensures.below c.index_mut-seat.ensures.value) c.args.name c.find_shard-place.ensures.value (repair c.args.name c.args.stripe c.args.fragment) c.repair.result (stepped_seat c.index_mut-seat.result.now c.repair.new.seat c.pass.inside.follower c.repair.new.follower c.repair.ensures.called.takes c.repair.ensures.same c.repair.ensures.listed c.repair.ensures.follower) refl

pub returns-clause-same : goal.returns-clause-same
returns-clause-same g c = step_same (held_seat c.pass.view_is c.pass.invariant c.self.view_is c.requires c.find_shard-place.ensures.below c.index_mut-seat.ensures.value) (stepped_seat c.index_mut-seat.result.now c.repair.new.seat c.pass.inside.follower c.repair.new.follower c.repair.ensures.called.takes c.repair.ensures.same c.repair.ensures.listed c.repair.ensures.follower)
