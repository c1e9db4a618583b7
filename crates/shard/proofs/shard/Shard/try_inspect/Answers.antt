use Rattle.std.proofs.Common.{ap}
use Rattle.history.specs.Step.{repair}
use Rattle.ledger_map.specs.Legal.{event_shard}
use Rattle.shared.proofs.Mends.{events_at_inspection, inspection_goes_on}
use Rattle.shared.proofs.Visits.{inspected_follows}
use Rattle.shard.proofs.Visits.{keeps_at, legal_visit, calls_inspected, busy_seat, busy_place, busy_listed, busy_follower, found_inside, expected_plain}
use Rattle.shard.proofs.Entering.{inspected_visited, inspection_listed, inspection_shown}
use Rattle.shared.proofs.Requests.{was_busy, finds_busy, visits_once}
use Rattle.shard.specs.Seats.{plain}
use Rattle.shard.proofs.shard.Shard.try_inspect.Goals as goal

pub try_visit-requires-clause-keeps : goal.try_visit-requires-clause-keeps
try_visit-requires-clause-keeps c = keeps_at c.args.ledger.now c.seat.inside.seat c.seat.inside.who c.args.seat.now c.seat.view_is c.requires.at c.seat.invariant

pub try_visit-requires-clause-follows : goal.try_visit-requires-clause-follows
try_visit-requires-clause-follows c = λ x y reply can did. inspected_follows c.seat.inside.who c.args.name.now c.args.stripe c.args.fragment x.0.0.value y.0.0.value reply did

pub try_visit-requires-clause-legal : goal.try_visit-requires-clause-legal
try_visit-requires-clause-legal c =
    λ list x y reply seen chain last lone did before.
    legal_visit c.args.ledger.now c.seat.inside.seat c.seat.inside.who c.args.seat.now c.seat.view_is c.requires.at c.seat.invariant list x y (events_at_inspection reply c.seat.inside.who (repair c.args.name.now c.args.stripe c.args.fragment)) 0 seen chain last lone
    (inspection_goes_on reply x.value.0.0.value y.0.0.value c.seat.inside.who c.args.name.now c.args.stripe c.args.fragment did.unchanged did.found)
    (calls_inspected (event_shard c.args.ledger.now.setup.count) c.args.seat.now.shard c.seat.inside.who (repair c.args.name.now c.args.stripe c.args.fragment) reply (λ _. c.requires.name)) before

pub invariant_of-seat-2 : goal.invariant_of-seat-2
invariant_of-seat-2 c =
    (inspected_visited c.args.ledger.now c.seat.inside.seat c.try_visit.new.seat c.args.follower.now c.try_visit.new.follower c.seat.inside.who c.args.seat.now c.seat.view_is c.requires.at c.seat.invariant c.args.name.now c.args.stripe c.args.fragment c.in-Ok.inspection c.in-Ok.ensures.visited c.in-Ok.ensures.legal).seat

pub returns-clause-same : goal.returns-clause-same
returns-clause-same c =
    (inspected_visited c.args.ledger.now c.seat.inside.seat c.try_visit.new.seat c.args.follower.now c.try_visit.new.follower c.seat.inside.who c.args.seat.now c.seat.view_is c.requires.at c.seat.invariant c.args.name.now c.args.stripe c.args.fragment c.in-Ok.inspection c.in-Ok.ensures.visited c.in-Ok.ensures.legal).same

pub returns-clause-follower : goal.returns-clause-follower
returns-clause-follower c =
    (inspected_visited c.args.ledger.now c.seat.inside.seat c.try_visit.new.seat c.args.follower.now c.try_visit.new.follower c.seat.inside.who c.args.seat.now c.seat.view_is c.requires.at c.seat.invariant c.args.name.now c.args.stripe c.args.fragment c.in-Ok.inspection c.in-Ok.ensures.visited c.in-Ok.ensures.legal).follower

pub returns-clause-listed : goal.returns-clause-listed
returns-clause-listed c =
    inspection_listed c.args.ledger.now c.seat.inside.seat c.try_visit.new.seat c.args.follower.now c.try_visit.new.follower c.seat.inside.who c.args.seat.now c.seat.view_is c.requires.at c.seat.invariant c.args.name.now c.args.stripe c.args.fragment c.in-Ok.inspection c.in-Ok.ensures.visited c.in-Ok.ensures.legal

pub returns-clause-found : goal.returns-clause-found
returns-clause-found c =
    inspection_shown c.args.ledger.now c.seat.inside.seat c.try_visit.new.seat c.args.follower.now c.try_visit.new.follower c.seat.inside.who c.args.seat.now c.seat.view_is c.requires.at c.seat.invariant c.args.name.now c.args.stripe c.args.fragment c.in-Ok.inspection c.in-Ok.ensures.visited c.in-Ok.ensures.legal

pub returns-clause-entered : goal.returns-clause-entered
returns-clause-entered c =
    λ _.
    visits_once (plain c.seat.inside.seat) (plain c.try_visit.new.seat) c.seat.inside.who c.args.seat.now.shows (expected_plain c.seat.inside.seat c.try_visit.new.seat c.in-Ok.ensures.expected)
    (inspected_visited c.args.ledger.now c.seat.inside.seat c.try_visit.new.seat c.args.follower.now c.try_visit.new.follower c.seat.inside.who c.args.seat.now c.seat.view_is c.requires.at c.seat.invariant c.args.name.now c.args.stripe c.args.fragment c.in-Ok.inspection c.in-Ok.ensures.visited c.in-Ok.ensures.legal).step.visits (ap (λ t. t.shows) c.seat.view_is)

-- ---- another thread was inside
pub invariant_of-seat : goal.invariant_of-seat
invariant_of-seat c = busy_seat c.seat.inside.seat c.try_visit.new.seat c.seat.invariant c.in_default.ensures.busy

pub returns-in_default-clause-same : goal.returns-in_default-clause-same
returns-in_default-clause-same c = busy_place c.seat.inside.seat c.try_visit.new.seat c.seat.inside.who c.args.seat.now c.seat.view_is c.in_default.ensures.busy

pub returns-in_default-clause-listed : goal.returns-in_default-clause-listed
returns-in_default-clause-listed c =
    busy_listed c.seat.inside.seat c.try_visit.new.seat c.seat.inside.who c.args.seat.now c.args.seat.now.shard c.args.follower.now c.try_visit.new.follower c.seat.view_is c.in_default.ensures.busy c.in_default.ensures.unchanged.1

pub returns-in_default-clause-follower : goal.returns-in_default-clause-follower
returns-in_default-clause-follower c =
    busy_follower c.args.ledger.now.setup c.seat.inside.seat c.try_visit.new.seat c.seat.inside.who c.args.seat.now c.args.seat.now.shard c.args.follower.now c.try_visit.new.follower c.seat.view_is c.in_default.ensures.busy c.in_default.ensures.unchanged.1

pub returns-in_default-clause-busy : goal.returns-in_default-clause-busy
returns-in_default-clause-busy c =
    λ _. finds_busy (plain c.seat.inside.seat) (plain c.try_visit.new.seat) c.seat.inside.who c.args.seat.now.shows (found_inside c.seat.inside.seat c.try_visit.new.seat c.in_default.ensures.busy) (ap (λ t. t.shows) c.seat.view_is)

pub returns-in_default-clause-found : goal.returns-in_default-clause-found
returns-in_default-clause-found c =
    was_busy (plain c.seat.inside.seat) (plain c.try_visit.new.seat) c.seat.inside.who c.args.seat.now.shows (repair c.args.name.now c.args.stripe c.args.fragment) c.seat.invariant.pass (found_inside c.seat.inside.seat c.try_visit.new.seat c.in_default.ensures.busy) (ap (λ t. t.shows) c.seat.view_is)
