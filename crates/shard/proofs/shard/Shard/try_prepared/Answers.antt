use Rattle.std.proofs.Common.{ap}
use Rattle.requests.specs.Requests.{operation_of}
use Rattle.ledger_map.specs.Legal.{event_shard}
use Rattle.shared.proofs.Steps.{made_by}
use Rattle.shared.proofs.Visits.{made_goes_on, made_follows}
use Rattle.shard.proofs.Visits.{keeps_at, legal_visit, calls_made, busy_seat, busy_place, busy_listed, busy_follower, found_inside, expected_plain}
use Rattle.shard.proofs.Entering.{can_be_made, made_visited, call_listed, call_shown, granted_shown, wanted_shown}
use Rattle.shared.proofs.Requests.{was_busy, finds_busy, visits_once}
use Rattle.shard.specs.Seats.{plain}
use Rattle.shard.proofs.shard.Shard.try_prepared.Goals as goal

pub try_visit-requires-clause-keeps : goal.try_visit-requires-clause-keeps
try_visit-requires-clause-keeps c = keeps_at c.args.ledger.now c.seat.inside.seat c.seat.inside.who c.args.seat.now c.seat.view_is c.requires.at c.seat.invariant

pub try_visit-requires-clause-can : goal.try_visit-requires-clause-can
try_visit-requires-clause-can c = can_be_made c.seat.inside.seat c.seat.inside.who c.args.request c.args.seat.now c.seat.view_is c.seat.invariant c.requires.can

pub try_visit-requires-clause-follows : goal.try_visit-requires-clause-follows
try_visit-requires-clause-follows c = λ x y reply can did. made_follows c.seat.inside.who c.args.request x.0.0.value y.0.0.value reply did

pub try_visit-requires-clause-legal : goal.try_visit-requires-clause-legal
try_visit-requires-clause-legal c =
    λ list x y reply seen chain last lone did before.
    legal_visit c.args.ledger.now c.seat.inside.seat c.seat.inside.who c.args.seat.now c.seat.view_is c.requires.at c.seat.invariant list x y (made_by c.seat.inside.who (operation_of c.args.request) reply) 0 seen chain last lone
    (made_goes_on c.seat.inside.who c.args.request x.value.0.0.value y.0.0.value reply did)
    (calls_made (event_shard c.args.ledger.now.setup.count) c.args.seat.now.shard c.seat.inside.who (operation_of c.args.request) reply (λ _. c.requires.name)) before

pub invariant_of-seat : goal.invariant_of-seat
invariant_of-seat c =
    (made_visited c.args.ledger.now c.seat.inside.seat c.try_visit.new.seat c.args.follower.now c.try_visit.new.follower c.seat.inside.who c.args.seat.now c.seat.view_is c.requires.at c.seat.invariant c.args.request c.in-Ok.reply c.in-Ok.ensures.visited c.in-Ok.ensures.legal).seat

pub returns-in-Ok-clause-same : goal.returns-in-Ok-clause-same
returns-in-Ok-clause-same c =
    (made_visited c.args.ledger.now c.seat.inside.seat c.try_visit.new.seat c.args.follower.now c.try_visit.new.follower c.seat.inside.who c.args.seat.now c.seat.view_is c.requires.at c.seat.invariant c.args.request c.in-Ok.reply c.in-Ok.ensures.visited c.in-Ok.ensures.legal).same

pub returns-in-Ok-clause-follower : goal.returns-in-Ok-clause-follower
returns-in-Ok-clause-follower c =
    (made_visited c.args.ledger.now c.seat.inside.seat c.try_visit.new.seat c.args.follower.now c.try_visit.new.follower c.seat.inside.who c.args.seat.now c.seat.view_is c.requires.at c.seat.invariant c.args.request c.in-Ok.reply c.in-Ok.ensures.visited c.in-Ok.ensures.legal).follower

pub returns-in-Ok-clause-listed : goal.returns-in-Ok-clause-listed
returns-in-Ok-clause-listed c =
    call_listed c.args.ledger.now c.seat.inside.seat c.try_visit.new.seat c.args.follower.now c.try_visit.new.follower c.seat.inside.who c.args.seat.now c.seat.view_is c.requires.at c.seat.invariant c.args.request c.in-Ok.reply c.in-Ok.ensures.visited c.in-Ok.ensures.legal

pub returns-in-Ok-clause-called : goal.returns-in-Ok-clause-called
returns-in-Ok-clause-called c =
    call_shown c.args.ledger.now c.seat.inside.seat c.try_visit.new.seat c.args.follower.now c.try_visit.new.follower c.seat.inside.who c.args.seat.now c.seat.view_is c.requires.at c.seat.invariant c.args.request c.in-Ok.reply c.in-Ok.ensures.visited c.in-Ok.ensures.legal c.requires.can

pub returns-in-Ok-clause-granted : goal.returns-in-Ok-clause-granted
returns-in-Ok-clause-granted c =
    granted_shown c.args.ledger.now c.seat.inside.seat c.try_visit.new.seat c.args.follower.now c.try_visit.new.follower c.seat.inside.who c.args.seat.now c.seat.view_is c.requires.at c.seat.invariant c.args.request c.in-Ok.reply c.in-Ok.ensures.visited c.in-Ok.ensures.legal c.args.self.now c.requires.shard

pub returns-in-Ok-clause-no_memory : goal.returns-in-Ok-clause-no_memory
returns-in-Ok-clause-no_memory c =
    wanted_shown c.args.ledger.now c.seat.inside.seat c.try_visit.new.seat c.args.follower.now c.try_visit.new.follower c.seat.inside.who c.args.seat.now c.seat.view_is c.requires.at c.seat.invariant c.args.request c.in-Ok.reply c.in-Ok.ensures.visited c.in-Ok.ensures.legal c.args.self.now c.requires.shard

pub returns-in-Ok-clause-entered : goal.returns-in-Ok-clause-entered
returns-in-Ok-clause-entered c =
    visits_once (plain c.seat.inside.seat) (plain c.try_visit.new.seat) c.seat.inside.who c.args.seat.now.shows (expected_plain c.seat.inside.seat c.try_visit.new.seat c.in-Ok.ensures.expected)
    (made_visited c.args.ledger.now c.seat.inside.seat c.try_visit.new.seat c.args.follower.now c.try_visit.new.follower c.seat.inside.who c.args.seat.now c.seat.view_is c.requires.at c.seat.invariant c.args.request c.in-Ok.reply c.in-Ok.ensures.visited c.in-Ok.ensures.legal).step.visits (ap (λ t. t.shows) c.seat.view_is)

-- ---- another thread was inside
pub invariant_of-seat-2 : goal.invariant_of-seat-2
invariant_of-seat-2 c = busy_seat c.seat.inside.seat c.try_visit.new.seat c.seat.invariant c.in-Err.ensures.busy

pub returns-clause-same : goal.returns-clause-same
returns-clause-same c = busy_place c.seat.inside.seat c.try_visit.new.seat c.seat.inside.who c.args.seat.now c.seat.view_is c.in-Err.ensures.busy

pub returns-clause-unlisted : goal.returns-clause-unlisted
returns-clause-unlisted c =
    busy_listed c.seat.inside.seat c.try_visit.new.seat c.seat.inside.who c.args.seat.now c.args.seat.now.shard c.args.follower.now c.try_visit.new.follower c.seat.view_is c.in-Err.ensures.busy c.in-Err.ensures.unchanged.1

pub returns-clause-follower : goal.returns-clause-follower
returns-clause-follower c =
    busy_follower c.args.ledger.now.setup c.seat.inside.seat c.try_visit.new.seat c.seat.inside.who c.args.seat.now c.args.seat.now.shard c.args.follower.now c.try_visit.new.follower c.seat.view_is c.in-Err.ensures.busy c.in-Err.ensures.unchanged.1

pub returns-clause-busy : goal.returns-clause-busy
returns-clause-busy c =
    finds_busy (plain c.seat.inside.seat) (plain c.try_visit.new.seat) c.seat.inside.who c.args.seat.now.shows (found_inside c.seat.inside.seat c.try_visit.new.seat c.in-Err.ensures.busy) (ap (λ t. t.shows) c.seat.view_is)

pub returns-clause-refused : goal.returns-clause-refused
returns-clause-refused c =
    was_busy (plain c.seat.inside.seat) (plain c.try_visit.new.seat) c.seat.inside.who c.args.seat.now.shows (operation_of c.args.request) c.seat.invariant.pass (found_inside c.seat.inside.seat c.try_visit.new.seat c.in-Err.ensures.busy) (ap (λ t. t.shows) c.seat.view_is)
