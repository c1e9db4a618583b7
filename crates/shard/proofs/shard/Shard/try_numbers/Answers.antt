use Rattle.std.proofs.Common.{[], ap}
use Rattle.shared.proofs.Steps.{same_goes_on}
use Rattle.shared.proofs.Visits.{same_follows}
use Rattle.shard.proofs.Visits.{keeps_at, legal_visit, busy_seat, busy_place, busy_listed, busy_follower, found_inside, expected_plain}
use Rattle.shard.proofs.Entering.{counted_visited, numbers_take, numbers_shown, entries_shown}
use Rattle.shared.proofs.Requests.{did_nothing, finds_busy, visits_once}
use Rattle.shard.specs.Seats.{plain}
use Rattle.shard.proofs.shard.Shard.try_numbers.Goals as goal

pub try_visit-requires-clause-keeps : goal.try_visit-requires-clause-keeps
try_visit-requires-clause-keeps c = keeps_at c.args.ledger.now c.seat.inside.seat c.seat.inside.who c.args.seat.now c.seat.view_is c.requires.at c.seat.invariant

pub try_visit-requires-clause-follows : goal.try_visit-requires-clause-follows
try_visit-requires-clause-follows c = λ x y reply can did. same_follows x.0.0.value y.0.0.value did.unchanged

pub try_visit-requires-clause-legal : goal.try_visit-requires-clause-legal
try_visit-requires-clause-legal c =
    λ list x y reply seen chain last lone did before.
    legal_visit c.args.ledger.now c.seat.inside.seat c.seat.inside.who c.args.seat.now c.seat.view_is c.requires.at c.seat.invariant list x y [] 0 seen chain last lone
    (same_goes_on x.value.0.0.value y.0.0.value did.unchanged)
    tt before

pub invariant_of-seat-2 : goal.invariant_of-seat-2
invariant_of-seat-2 c =
    (counted_visited c.args.ledger.now c.seat.inside.seat c.try_visit.new.seat c.args.follower.now c.try_visit.new.follower c.seat.inside.who c.args.seat.now c.seat.view_is c.requires.at c.seat.invariant c.in-Ok.numbers c.in-Ok.ensures.visited c.in-Ok.ensures.legal).seat

pub returns-clause-same : goal.returns-clause-same
returns-clause-same c =
    (counted_visited c.args.ledger.now c.seat.inside.seat c.try_visit.new.seat c.args.follower.now c.try_visit.new.follower c.seat.inside.who c.args.seat.now c.seat.view_is c.requires.at c.seat.invariant c.in-Ok.numbers c.in-Ok.ensures.visited c.in-Ok.ensures.legal).same

pub returns-clause-follower : goal.returns-clause-follower
returns-clause-follower c =
    (counted_visited c.args.ledger.now c.seat.inside.seat c.try_visit.new.seat c.args.follower.now c.try_visit.new.follower c.seat.inside.who c.args.seat.now c.seat.view_is c.requires.at c.seat.invariant c.in-Ok.numbers c.in-Ok.ensures.visited c.in-Ok.ensures.legal).follower

pub returns-clause-listed : goal.returns-clause-listed
returns-clause-listed c =
    (counted_visited c.args.ledger.now c.seat.inside.seat c.try_visit.new.seat c.args.follower.now c.try_visit.new.follower c.seat.inside.who c.args.seat.now c.seat.view_is c.requires.at c.seat.invariant c.in-Ok.numbers c.in-Ok.ensures.visited c.in-Ok.ensures.legal).listed

pub returns-clause-takes : goal.returns-clause-takes
returns-clause-takes c =
    numbers_take c.args.ledger.now c.seat.inside.seat c.try_visit.new.seat c.args.follower.now c.try_visit.new.follower c.seat.inside.who c.args.seat.now c.seat.view_is c.requires.at c.seat.invariant c.in-Ok.numbers c.in-Ok.ensures.visited c.in-Ok.ensures.legal

pub returns-clause-ok : goal.returns-clause-ok
returns-clause-ok c =
    numbers_shown c.args.ledger.now c.seat.inside.seat c.try_visit.new.seat c.args.follower.now c.try_visit.new.follower c.seat.inside.who c.args.seat.now c.seat.view_is c.requires.at c.seat.invariant c.in-Ok.numbers c.in-Ok.ensures.visited c.in-Ok.ensures.legal c.args.self.now c.requires.shard

pub returns-clause-entries : goal.returns-clause-entries
returns-clause-entries c =
    entries_shown c.args.ledger.now c.seat.inside.seat c.try_visit.new.seat c.args.follower.now c.try_visit.new.follower c.seat.inside.who c.args.seat.now c.seat.view_is c.requires.at c.seat.invariant c.in-Ok.numbers c.in-Ok.ensures.visited c.in-Ok.ensures.legal c.args.self.now c.requires.shard

pub returns-clause-entered : goal.returns-clause-entered
returns-clause-entered c =
    λ _.
    visits_once (plain c.seat.inside.seat) (plain c.try_visit.new.seat) c.seat.inside.who c.args.seat.now.shows (expected_plain c.seat.inside.seat c.try_visit.new.seat c.in-Ok.ensures.expected)
    (counted_visited c.args.ledger.now c.seat.inside.seat c.try_visit.new.seat c.args.follower.now c.try_visit.new.follower c.seat.inside.who c.args.seat.now c.seat.view_is c.requires.at c.seat.invariant c.in-Ok.numbers c.in-Ok.ensures.visited c.in-Ok.ensures.legal).step.visits (ap (λ t. t.shows) c.seat.view_is)

-- ---- another thread was inside
pub invariant_of-seat : goal.invariant_of-seat
invariant_of-seat c = busy_seat c.seat.inside.seat c.try_visit.new.seat c.seat.invariant c.in_default.ensures.busy

pub returns-in_default-clause-same : goal.returns-in_default-clause-same
returns-in_default-clause-same c = busy_place c.seat.inside.seat c.try_visit.new.seat c.seat.inside.who c.args.seat.now c.seat.view_is c.in_default.ensures.busy

pub returns-in_default-clause-listed : goal.returns-in_default-clause-listed
returns-in_default-clause-listed c =
    busy_listed c.seat.inside.seat c.try_visit.new.seat c.seat.inside.who c.args.seat.now c.args.seat.now.shard c.args.follower.now c.try_visit.new.follower c.seat.view_is c.in_default.ensures.busy c.in_default.ensures.unchanged.1

pub returns-in_default-clause-follower : goal.returns-in_default-clause-follower
returns-in_default-clause-follower c =
    busy_follower c.args.ledger.now.setup c.seat.inside.seat c.try_visit.new.seat c.seat.inside.who c.args.seat.now c.args.seat.now.shard c.args.follower.now c.try_visit.new.follower c.seat.view_is c.in_default.ensures.busy c.in_default.ensures.unchanged.1

pub returns-in_default-clause-busy : goal.returns-in_default-clause-busy
returns-in_default-clause-busy c =
    λ _. finds_busy (plain c.seat.inside.seat) (plain c.try_visit.new.seat) c.seat.inside.who c.args.seat.now.shows (found_inside c.seat.inside.seat c.try_visit.new.seat c.in_default.ensures.busy) (ap (λ t. t.shows) c.seat.view_is)

pub returns-in_default-clause-takes : goal.returns-in_default-clause-takes
returns-in_default-clause-takes c =
    did_nothing (plain c.seat.inside.seat) (plain c.try_visit.new.seat) c.seat.inside.who c.args.seat.now.shows c.seat.invariant.pass (found_inside c.seat.inside.seat c.try_visit.new.seat c.in_default.ensures.busy) (ap (λ t. t.shows) c.seat.view_is)
