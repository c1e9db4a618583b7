use Rattle.requests.specs.Requests.{operation_of}
use Rattle.ledger_map.specs.Legal.{event_shard}
use Rattle.shared.proofs.Steps.{made_by}
use Rattle.shared.proofs.Visits.{made_goes_on, made_follows}
use Rattle.shard.proofs.Visits.{keeps_at, legal_visit, calls_made}
use Rattle.shard.proofs.Entering.{can_be_made, made_visited, call_listed, call_shown, granted_shown, wanted_shown}
use Rattle.shard.proofs.shard.Shard.make.Goals as goal

pub make_visit-requires-clause-keeps : goal.make_visit-requires-clause-keeps
make_visit-requires-clause-keeps g c = keeps_at c.args.ledger.now c.seat.inside.seat c.seat.inside.who c.args.seat.now c.seat.view_is c.requires.at c.seat.invariant

pub make_visit-requires-clause-can : goal.make_visit-requires-clause-can
make_visit-requires-clause-can g c = can_be_made c.seat.inside.seat c.seat.inside.who c.args.request c.args.seat.now c.seat.view_is c.seat.invariant c.requires.can

pub make_visit-requires-clause-follows : goal.make_visit-requires-clause-follows
make_visit-requires-clause-follows g c = λ x y reply can did. made_follows c.seat.inside.who c.args.request x.0.0.value y.0.0.value reply did

pub make_visit-requires-clause-legal : goal.make_visit-requires-clause-legal
make_visit-requires-clause-legal g c =
    λ list x y reply seen chain last lone did before.
    legal_visit c.args.ledger.now c.seat.inside.seat c.seat.inside.who c.args.seat.now c.seat.view_is c.requires.at c.seat.invariant list x y (made_by c.seat.inside.who (operation_of c.args.request) reply) 0 seen chain last lone
    (made_goes_on c.seat.inside.who c.args.request x.value.0.0.value y.0.0.value reply did)
    (calls_made (event_shard c.args.ledger.now.setup.count) c.args.seat.now.shard c.seat.inside.who (operation_of c.args.request) reply (λ _. c.requires.name)) before

pub invariant_of-seat : goal.invariant_of-seat
invariant_of-seat g c =
    (made_visited c.args.ledger.now c.seat.inside.seat c.make_visit.new.seat c.args.follower.now c.make_visit.new.follower c.seat.inside.who c.args.seat.now c.seat.view_is c.requires.at c.seat.invariant c.args.request c.make_visit.result c.make_visit.ensures.visited c.make_visit.ensures.legal).seat

pub returns-clause-same : goal.returns-clause-same
returns-clause-same g c =
    (made_visited c.args.ledger.now c.seat.inside.seat c.make_visit.new.seat c.args.follower.now c.make_visit.new.follower c.seat.inside.who c.args.seat.now c.seat.view_is c.requires.at c.seat.invariant c.args.request c.make_visit.result c.make_visit.ensures.visited c.make_visit.ensures.legal).same

pub returns-clause-follower : goal.returns-clause-follower
returns-clause-follower g c =
    (made_visited c.args.ledger.now c.seat.inside.seat c.make_visit.new.seat c.args.follower.now c.make_visit.new.follower c.seat.inside.who c.args.seat.now c.seat.view_is c.requires.at c.seat.invariant c.args.request c.make_visit.result c.make_visit.ensures.visited c.make_visit.ensures.legal).follower

pub returns-clause-listed : goal.returns-clause-listed
returns-clause-listed g c =
    call_listed c.args.ledger.now c.seat.inside.seat c.make_visit.new.seat c.args.follower.now c.make_visit.new.follower c.seat.inside.who c.args.seat.now c.seat.view_is c.requires.at c.seat.invariant c.args.request c.make_visit.result c.make_visit.ensures.visited c.make_visit.ensures.legal

pub returns-clause-called : goal.returns-clause-called
returns-clause-called g c =
    call_shown c.args.ledger.now c.seat.inside.seat c.make_visit.new.seat c.args.follower.now c.make_visit.new.follower c.seat.inside.who c.args.seat.now c.seat.view_is c.requires.at c.seat.invariant c.args.request c.make_visit.result c.make_visit.ensures.visited c.make_visit.ensures.legal c.requires.can

pub returns-clause-granted : goal.returns-clause-granted
returns-clause-granted g c =
    granted_shown c.args.ledger.now c.seat.inside.seat c.make_visit.new.seat c.args.follower.now c.make_visit.new.follower c.seat.inside.who c.args.seat.now c.seat.view_is c.requires.at c.seat.invariant c.args.request c.make_visit.result c.make_visit.ensures.visited c.make_visit.ensures.legal c.args.self.now c.requires.shard

pub returns-clause-no_memory : goal.returns-clause-no_memory
returns-clause-no_memory g c =
    wanted_shown c.args.ledger.now c.seat.inside.seat c.make_visit.new.seat c.args.follower.now c.make_visit.new.follower c.seat.inside.who c.args.seat.now c.seat.view_is c.requires.at c.seat.invariant c.args.request c.make_visit.result c.make_visit.ensures.visited c.make_visit.ensures.legal c.args.self.now c.requires.shard
