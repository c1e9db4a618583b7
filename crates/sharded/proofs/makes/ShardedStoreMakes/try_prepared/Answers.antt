use Rattle.std.proofs.Common.{IfOk, length, slice_set, refl, ap, subst, ◌∙◌}
use Rattle.one_map.specs.Hash.{shard_of}
use Rattle.requests.specs.Requests.{operation_of}
use Rattle.shared.specs.Deeds.{deed_of, act_if}
use Rattle.shared.specs.Calls.{Called}
use Rattle.shared.specs.Passes.{VisitsOnce}
use Rattle.shared.specs.Requests.{IsGrantedTo, WantedFor}
use Rattle.named_calls.specs.Asked.{request_name}
use Rattle.shard.specs.Listed.{IsListed, listing_of}
use Rattle.sharded.specs.Listings.{IsListedCall}
use Rattle.sharded.specs.Seats.{shows_of, pass_shows}
use Rattle.sharded.specs.Steps.{width_for, IsCallAt}
use Rattle.sharded.proofs.Replies.{replied, replies, if_reply, if_back, ok_as, err_as}
use Rattle.sharded.proofs.Requests.{can_at}
use Rattle.sharded.proofs.Seats.{SteppedSeat, held_seat, stepped_seat, held_of, held_store, held_name, named_there, named_step, seat_lone, finds_at, kept_call, called_at, listed_call, step_same, held_ledger, width_at_name, seen_at_name}
use Rattle.sharded.proofs.makes.ShardedStoreMakes.try_prepared.Goals as goal

pub try_prepared-requires-clause-shard : goal.try_prepared-requires-clause-shard
try_prepared-requires-clause-shard c = held_store (held_seat c.pass.view_is c.pass.invariant c.self.view_is c.requires.store c.find_shard-place.ensures.below c.index_mut-seat.ensures.value) c.index-shard.result.now c.index-shard.ensures

pub try_prepared-requires-clause-at : goal.try_prepared-requires-clause-at
try_prepared-requires-clause-at c = held_of (held_seat c.pass.view_is c.pass.invariant c.self.view_is c.requires.store c.find_shard-place.ensures.below c.index_mut-seat.ensures.value)

pub try_prepared-requires-clause-ledger : goal.try_prepared-requires-clause-ledger
try_prepared-requires-clause-ledger c = held_ledger (held_seat c.pass.view_is c.pass.invariant c.self.view_is c.requires.store c.find_shard-place.ensures.below c.index_mut-seat.ensures.value)

pub try_prepared-requires-clause-name : goal.try_prepared-requires-clause-name
try_prepared-requires-clause-name c = held_name (held_seat c.pass.view_is c.pass.invariant c.self.view_is c.requires.store c.find_shard-place.ensures.below c.index_mut-seat.ensures.value) (request_name c.args.request) (operation_of c.args.request) (c.find_shard-place.ensures.value ∙ ap (shard_of (length c.args.self.now.shards)) c.name.ensures) refl

pub try_prepared-requires-clause-can : goal.try_prepared-requires-clause-can
try_prepared-requires-clause-can c = can_at c.args.pass.now c.args.self.now c.args.request c.requires.store c.requires.can c.index_mut-seat.result.now.shows (named_there (held_seat c.pass.view_is c.pass.invariant c.self.view_is c.requires.store c.find_shard-place.ensures.below c.index_mut-seat.ensures.value) (request_name c.args.request) (c.find_shard-place.ensures.value ∙ ap (shard_of (length c.args.self.now.shards)) c.name.ensures))

-- the call, whose reply is `Busy` if the request comes back
called : (c : goal.After-pass-1) → Called c.index_mut-seat.result.now.shows (operation_of c.args.request) (replied c.try_prepared.result) c.try_prepared.new.seat.shows
called c = replies c.try_prepared.result (λ r. Called c.index_mut-seat.result.now.shows (operation_of c.args.request) r c.try_prepared.new.seat.shows) c.try_prepared.ensures.called c.try_prepared.ensures.refused

step : (c : goal.After-pass-1) → SteppedSeat c.self.inside.ledger (deed_of (operation_of c.args.request) (replied c.try_prepared.result)) c.index_mut-seat.result.now c.try_prepared.new.seat c.pass.inside.follower c.try_prepared.new.follower
step c =
    stepped_seat c.index_mut-seat.result.now c.try_prepared.new.seat c.pass.inside.follower c.try_prepared.new.follower (called c).takes c.try_prepared.ensures.same
    (replies c.try_prepared.result (λ r. IsListed c.index_mut-seat.result.now.shard (act_if c.index_mut-seat.result.now.shows.who (deed_of (operation_of c.args.request) r)) c.index_mut-seat.result.now.shows.acts c.try_prepared.new.seat.shows.acts (listing_of c.pass.inside.follower) (listing_of c.try_prepared.new.follower)) c.try_prepared.ensures.listed c.try_prepared.ensures.unlisted)
    c.try_prepared.ensures.follower

pub invariant_of-pass : goal.invariant_of-pass
invariant_of-pass c = kept_call (held_seat c.pass.view_is c.pass.invariant c.self.view_is c.requires.store c.find_shard-place.ensures.below c.index_mut-seat.ensures.value) (request_name c.args.request) (c.find_shard-place.ensures.value ∙ ap (shard_of (length c.args.self.now.shards)) c.name.ensures) (step c) (called c) refl

pub returns-clause-called : goal.returns-clause-called
returns-clause-called c = if_reply c.try_prepared.result (λ r. IsCallAt c.args.pass.now.shards (operation_of c.args.request) r (shows_of (slice_set c.pass.inside.seats.items c.find_shard-place.result c.try_prepared.new.seat))) (called_at (held_seat c.pass.view_is c.pass.invariant c.self.view_is c.requires.store c.find_shard-place.ensures.below c.index_mut-seat.ensures.value) (request_name c.args.request) (c.find_shard-place.ensures.value ∙ ap (shard_of (length c.args.self.now.shards)) c.name.ensures) c.try_prepared.new.seat (called c) refl)

pub returns-clause-refused : goal.returns-clause-refused
returns-clause-refused c = if_back c.try_prepared.result (λ r. IsCallAt c.args.pass.now.shards (operation_of c.args.request) r (shows_of (slice_set c.pass.inside.seats.items c.find_shard-place.result c.try_prepared.new.seat))) (called_at (held_seat c.pass.view_is c.pass.invariant c.self.view_is c.requires.store c.find_shard-place.ensures.below c.index_mut-seat.ensures.value) (request_name c.args.request) (c.find_shard-place.ensures.value ∙ ap (shard_of (length c.args.self.now.shards)) c.name.ensures) c.try_prepared.new.seat (called c) refl)

pub returns-clause-listed : goal.returns-clause-listed
returns-clause-listed c = if_reply c.try_prepared.result (λ r. IsListedCall c.args.pass.now (operation_of c.args.request) r (pass_shows (slice_set c.pass.inside.seats.items c.find_shard-place.result c.try_prepared.new.seat) c.try_prepared.new.follower)) (listed_call (held_seat c.pass.view_is c.pass.invariant c.self.view_is c.requires.store c.find_shard-place.ensures.below c.index_mut-seat.ensures.value) (request_name c.args.request) (c.find_shard-place.ensures.value ∙ ap (shard_of (length c.args.self.now.shards)) c.name.ensures) (operation_of c.args.request) (replied c.try_prepared.result) (step c) refl)

pub returns-clause-unlisted : goal.returns-clause-unlisted
returns-clause-unlisted c = if_back c.try_prepared.result (λ r. IsListedCall c.args.pass.now (operation_of c.args.request) r (pass_shows (slice_set c.pass.inside.seats.items c.find_shard-place.result c.try_prepared.new.seat) c.try_prepared.new.follower)) (listed_call (held_seat c.pass.view_is c.pass.invariant c.self.view_is c.requires.store c.find_shard-place.ensures.below c.index_mut-seat.ensures.value) (request_name c.args.request) (c.find_shard-place.ensures.value ∙ ap (shard_of (length c.args.self.now.shards)) c.name.ensures) (operation_of c.args.request) (replied c.try_prepared.result) (step c) refl)

pub returns-clause-same : goal.returns-clause-same
returns-clause-same c = step_same (held_seat c.pass.view_is c.pass.invariant c.self.view_is c.requires.store c.find_shard-place.ensures.below c.index_mut-seat.ensures.value) (step c)

pub returns-clause-granted : goal.returns-clause-granted
returns-clause-granted c =
    ok_as c.try_prepared.result c.try_prepared.ensures.granted (λ reply granted.
    subst (λ h. IfOk reply (IsGrantedTo h (width_for c.args.self.now.shards (request_name c.args.request)) c.args.request)) (seen_at_name (held_seat c.pass.view_is c.pass.invariant c.self.view_is c.requires.store c.find_shard-place.ensures.below c.index_mut-seat.ensures.value) (request_name c.args.request) (c.find_shard-place.ensures.value ∙ ap (shard_of (length c.args.self.now.shards)) c.name.ensures) c.try_prepared.new.seat)
    (subst (λ w. IfOk reply (IsGrantedTo c.try_prepared.new.seat.shows.seen w c.args.request)) (width_at_name (held_seat c.pass.view_is c.pass.invariant c.self.view_is c.requires.store c.find_shard-place.ensures.below c.index_mut-seat.ensures.value) (request_name c.args.request) (c.find_shard-place.ensures.value ∙ ap (shard_of (length c.args.self.now.shards)) c.name.ensures) c.index-shard.result.now c.index-shard.ensures) granted))

pub returns-clause-no_memory : goal.returns-clause-no_memory
returns-clause-no_memory c =
    ok_as c.try_prepared.result c.try_prepared.ensures.no_memory (λ reply wanted refused.
    subst (λ h. WantedFor h (width_for c.args.self.now.shards (request_name c.args.request)) c.args.request) (seen_at_name (held_seat c.pass.view_is c.pass.invariant c.self.view_is c.requires.store c.find_shard-place.ensures.below c.index_mut-seat.ensures.value) (request_name c.args.request) (c.find_shard-place.ensures.value ∙ ap (shard_of (length c.args.self.now.shards)) c.name.ensures) c.try_prepared.new.seat)
    (subst (λ w. WantedFor c.try_prepared.new.seat.shows.seen w c.args.request) (width_at_name (held_seat c.pass.view_is c.pass.invariant c.self.view_is c.requires.store c.find_shard-place.ensures.below c.index_mut-seat.ensures.value) (request_name c.args.request) (c.find_shard-place.ensures.value ∙ ap (shard_of (length c.args.self.now.shards)) c.name.ensures) c.index-shard.result.now c.index-shard.ensures) (wanted refused)))

pub returns-clause-busy : goal.returns-clause-busy
returns-clause-busy c = err_as c.try_prepared.result c.try_prepared.ensures.busy (λ _ busy. finds_at (held_seat c.pass.view_is c.pass.invariant c.self.view_is c.requires.store c.find_shard-place.ensures.below c.index_mut-seat.ensures.value) (request_name c.args.request) (c.find_shard-place.ensures.value ∙ ap (shard_of (length c.args.self.now.shards)) c.name.ensures) (operation_of c.args.request) c.try_prepared.new.seat busy refl)

pub returns-clause-entered : goal.returns-clause-entered
returns-clause-entered c = ok_as c.try_prepared.result c.try_prepared.ensures.entered (λ _ entered. named_step (held_seat c.pass.view_is c.pass.invariant c.self.view_is c.requires.store c.find_shard-place.ensures.below c.index_mut-seat.ensures.value) (request_name c.args.request) (c.find_shard-place.ensures.value ∙ ap (shard_of (length c.args.self.now.shards)) c.name.ensures) VisitsOnce (operation_of c.args.request) c.try_prepared.new.seat entered refl)

pub returns-clause-lone : goal.returns-clause-lone
returns-clause-lone c lone = c.try_prepared.ensures.lone (seat_lone (held_seat c.pass.view_is c.pass.invariant c.self.view_is c.requires.store c.find_shard-place.ensures.below c.index_mut-seat.ensures.value) lone)
