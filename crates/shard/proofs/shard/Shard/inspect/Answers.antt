use Rattle.history.specs.Step.{repair}
use Rattle.ledger_map.specs.Legal.{event_shard}
use Rattle.shared.proofs.Mends.{events_at_inspection, inspection_goes_on}
use Rattle.shared.proofs.Visits.{inspected_follows}
use Rattle.shard.proofs.Visits.{keeps_at, legal_visit, calls_inspected}
use Rattle.shard.proofs.Entering.{inspected_visited, inspection_listed, inspection_shown}
use Rattle.shard.proofs.shard.Shard.inspect.Goals as goal

pub make_visit-requires-clause-keeps : goal.make_visit-requires-clause-keeps
make_visit-requires-clause-keeps g c = keeps_at c.args.ledger.now c.seat.inside.seat c.seat.inside.who c.args.seat.now c.seat.view_is c.requires.at c.seat.invariant

pub make_visit-requires-clause-follows : goal.make_visit-requires-clause-follows
make_visit-requires-clause-follows g c = λ x y reply can did. inspected_follows c.seat.inside.who c.args.name.now c.args.stripe c.args.fragment x.0.0.value y.0.0.value reply did

pub make_visit-requires-clause-legal : goal.make_visit-requires-clause-legal
make_visit-requires-clause-legal g c =
    λ list x y reply seen chain last lone did before.
    legal_visit c.args.ledger.now c.seat.inside.seat c.seat.inside.who c.args.seat.now c.seat.view_is c.requires.at c.seat.invariant list x y (events_at_inspection reply c.seat.inside.who (repair c.args.name.now c.args.stripe c.args.fragment)) 0 seen chain last lone
    (inspection_goes_on reply x.value.0.0.value y.0.0.value c.seat.inside.who c.args.name.now c.args.stripe c.args.fragment did.unchanged did.found)
    (calls_inspected (event_shard c.args.ledger.now.setup.count) c.args.seat.now.shard c.seat.inside.who (repair c.args.name.now c.args.stripe c.args.fragment) reply (λ _. c.requires.name)) before

pub invariant_of-seat : goal.invariant_of-seat
invariant_of-seat g c =
    (inspected_visited c.args.ledger.now c.seat.inside.seat c.make_visit.new.seat c.args.follower.now c.make_visit.new.follower c.seat.inside.who c.args.seat.now c.seat.view_is c.requires.at c.seat.invariant c.args.name.now c.args.stripe c.args.fragment c.make_visit.result c.make_visit.ensures.visited c.make_visit.ensures.legal).seat

pub returns-clause-same : goal.returns-clause-same
returns-clause-same g c =
    (inspected_visited c.args.ledger.now c.seat.inside.seat c.make_visit.new.seat c.args.follower.now c.make_visit.new.follower c.seat.inside.who c.args.seat.now c.seat.view_is c.requires.at c.seat.invariant c.args.name.now c.args.stripe c.args.fragment c.make_visit.result c.make_visit.ensures.visited c.make_visit.ensures.legal).same

pub returns-clause-follower : goal.returns-clause-follower
returns-clause-follower g c =
    (inspected_visited c.args.ledger.now c.seat.inside.seat c.make_visit.new.seat c.args.follower.now c.make_visit.new.follower c.seat.inside.who c.args.seat.now c.seat.view_is c.requires.at c.seat.invariant c.args.name.now c.args.stripe c.args.fragment c.make_visit.result c.make_visit.ensures.visited c.make_visit.ensures.legal).follower

pub returns-clause-listed : goal.returns-clause-listed
returns-clause-listed g c =
    inspection_listed c.args.ledger.now c.seat.inside.seat c.make_visit.new.seat c.args.follower.now c.make_visit.new.follower c.seat.inside.who c.args.seat.now c.seat.view_is c.requires.at c.seat.invariant c.args.name.now c.args.stripe c.args.fragment c.make_visit.result c.make_visit.ensures.visited c.make_visit.ensures.legal

pub returns-clause-found : goal.returns-clause-found
returns-clause-found g c =
    inspection_shown c.args.ledger.now c.seat.inside.seat c.make_visit.new.seat c.args.follower.now c.make_visit.new.follower c.seat.inside.who c.args.seat.now c.seat.view_is c.requires.at c.seat.invariant c.args.name.now c.args.stripe c.args.fragment c.make_visit.result c.make_visit.ensures.visited c.make_visit.ensures.legal
