use Rattle.std.proofs.Common.{IfOk, length, refl, ap, subst, ◌∙◌}
use Rattle.one_map.specs.Hash.{shard_of}
use Rattle.requests.specs.Requests.{operation_of}
use Rattle.shared.specs.Requests.{IsGrantedTo, WantedFor}
use Rattle.named_calls.specs.Asked.{request_name}
use Rattle.sharded.specs.Steps.{width_for}
use Rattle.sharded.proofs.Requests.{can_at}
use Rattle.sharded.proofs.Seats.{held_seat, stepped_seat, held_of, held_store, held_name, named_there, kept_call, called_at, listed_call, step_same, held_ledger, width_at_name, seen_at_name}
use Rattle.sharded.proofs.makes.ShardedStoreWaits.make.Goals as goal

pub make-requires-clause-shard : goal.make-requires-clause-shard
make-requires-clause-shard g c = held_store (held_seat c.pass.view_is c.pass.invariant c.self.view_is c.requires.store c.find_shard-place.ensures.below c.index_mut-seat.ensures.value) c.index-shard.result.now c.index-shard.ensures

pub make-requires-clause-at : goal.make-requires-clause-at
make-requires-clause-at g c = held_of (held_seat c.pass.view_is c.pass.invariant c.self.view_is c.requires.store c.find_shard-place.ensures.below c.index_mut-seat.ensures.value)

pub make-requires-clause-ledger : goal.make-requires-clause-ledger
make-requires-clause-ledger g c = held_ledger (held_seat c.pass.view_is c.pass.invariant c.self.view_is c.requires.store c.find_shard-place.ensures.below c.index_mut-seat.ensures.value)

pub make-requires-clause-name : goal.make-requires-clause-name
make-requires-clause-name g c = held_name (held_seat c.pass.view_is c.pass.invariant c.self.view_is c.requires.store c.find_shard-place.ensures.below c.index_mut-seat.ensures.value) (request_name c.args.request) (operation_of c.args.request) (c.find_shard-place.ensures.value ∙ ap (shard_of (length c.args.self.now.shards)) c.name.ensures) refl

pub make-requires-clause-can : goal.make-requires-clause-can
make-requires-clause-can g c = can_at c.args.pass.now c.args.self.now c.args.request c.requires.store c.requires.can c.index_mut-seat.result.now.shows (named_there (held_seat c.pass.view_is c.pass.invariant c.self.view_is c.requires.store c.find_shard-place.ensures.below c.index_mut-seat.ensures.value) (request_name c.args.request) (c.find_shard-place.ensures.value ∙ ap (shard_of (length c.args.self.now.shards)) c.name.ensures))

pub invariant_of-pass : goal.invariant_of-pass
invariant_of-pass g c = kept_call (held_seat c.pass.view_is c.pass.invariant c.self.view_is c.requires.store c.find_shard-place.ensures.below c.index_mut-seat.ensures.value) (request_name c.args.request) (c.find_shard-place.ensures.value ∙ ap (shard_of (length c.args.self.now.shards)) c.name.ensures) (stepped_seat c.index_mut-seat.result.now c.make.new.seat c.pass.inside.follower c.make.new.follower c.make.ensures.called.takes c.make.ensures.same c.make.ensures.listed c.make.ensures.follower) c.make.ensures.called refl

pub returns-clause-called : goal.returns-clause-called
returns-clause-called g c = called_at (held_seat c.pass.view_is c.pass.invariant c.self.view_is c.requires.store c.find_shard-place.ensures.below c.index_mut-seat.ensures.value) (request_name c.args.request) (c.find_shard-place.ensures.value ∙ ap (shard_of (length c.args.self.now.shards)) c.name.ensures) c.make.new.seat c.make.ensures.called refl

pub returns-clause-listed : goal.returns-clause-listed
returns-clause-listed g c = listed_call (held_seat c.pass.view_is c.pass.invariant c.self.view_is c.requires.store c.find_shard-place.ensures.below c.index_mut-seat.ensures.value) (request_name c.args.request) (c.find_shard-place.ensures.value ∙ ap (shard_of (length c.args.self.now.shards)) c.name.ensures) (operation_of c.args.request) c.make.result (stepped_seat c.index_mut-seat.result.now c.make.new.seat c.pass.inside.follower c.make.new.follower c.make.ensures.called.takes c.make.ensures.same c.make.ensures.listed c.make.ensures.follower) refl

pub returns-clause-same : goal.returns-clause-same
returns-clause-same g c = step_same (held_seat c.pass.view_is c.pass.invariant c.self.view_is c.requires.store c.find_shard-place.ensures.below c.index_mut-seat.ensures.value) (stepped_seat c.index_mut-seat.result.now c.make.new.seat c.pass.inside.follower c.make.new.follower c.make.ensures.called.takes c.make.ensures.same c.make.ensures.listed c.make.ensures.follower)

pub returns-clause-granted : goal.returns-clause-granted
returns-clause-granted g c =
    subst (λ h. IfOk c.make.result (IsGrantedTo h (width_for c.args.self.now.shards (request_name c.args.request)) c.args.request)) (seen_at_name (held_seat c.pass.view_is c.pass.invariant c.self.view_is c.requires.store c.find_shard-place.ensures.below c.index_mut-seat.ensures.value) (request_name c.args.request) (c.find_shard-place.ensures.value ∙ ap (shard_of (length c.args.self.now.shards)) c.name.ensures) c.make.new.seat)
    (subst (λ w. IfOk c.make.result (IsGrantedTo c.make.new.seat.shows.seen w c.args.request)) (width_at_name (held_seat c.pass.view_is c.pass.invariant c.self.view_is c.requires.store c.find_shard-place.ensures.below c.index_mut-seat.ensures.value) (request_name c.args.request) (c.find_shard-place.ensures.value ∙ ap (shard_of (length c.args.self.now.shards)) c.name.ensures) c.index-shard.result.now c.index-shard.ensures) c.make.ensures.granted)

pub returns-clause-no_memory : goal.returns-clause-no_memory
returns-clause-no_memory g c refused =
    subst (λ h. WantedFor h (width_for c.args.self.now.shards (request_name c.args.request)) c.args.request) (seen_at_name (held_seat c.pass.view_is c.pass.invariant c.self.view_is c.requires.store c.find_shard-place.ensures.below c.index_mut-seat.ensures.value) (request_name c.args.request) (c.find_shard-place.ensures.value ∙ ap (shard_of (length c.args.self.now.shards)) c.name.ensures) c.make.new.seat)
    (subst (λ w. WantedFor c.make.new.seat.shows.seen w c.args.request) (width_at_name (held_seat c.pass.view_is c.pass.invariant c.self.view_is c.requires.store c.find_shard-place.ensures.below c.index_mut-seat.ensures.value) (request_name c.args.request) (c.find_shard-place.ensures.value ∙ ap (shard_of (length c.args.self.now.shards)) c.name.ensures) c.index-shard.result.now c.index-shard.ensures) (c.make.ensures.no_memory refused))
