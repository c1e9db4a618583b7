use Rattle.std.proofs.Common.{[]}
use Rattle.std.specs.Option.{option_map}
use Rattle.shared.proofs.Steps.{same_goes_on}
use Rattle.shared.proofs.Visits.{same_follows}
use Rattle.shard.proofs.Visits.{keeps_at, legal_visit}
use Rattle.shard.proofs.Entering.{planned_visited, plan_takes, plan_shown}
use Rattle.shard.proofs.shard.Shard.plan_part.Goals as goal

pub make_visit-requires-clause-keeps : goal.make_visit-requires-clause-keeps
make_visit-requires-clause-keeps g c = keeps_at c.args.ledger.now c.seat.inside.seat c.seat.inside.who c.args.seat.now c.seat.view_is c.requires.at c.seat.invariant

pub make_visit-requires-clause-follows : goal.make_visit-requires-clause-follows
make_visit-requires-clause-follows g c = λ x y reply can did. same_follows x.0.0.value y.0.0.value did.unchanged

pub make_visit-requires-clause-legal : goal.make_visit-requires-clause-legal
make_visit-requires-clause-legal g c =
    λ list x y reply seen chain last lone did before.
    legal_visit c.args.ledger.now c.seat.inside.seat c.seat.inside.who c.args.seat.now c.seat.view_is c.requires.at c.seat.invariant list x y [] 0 seen chain last lone
    (same_goes_on x.value.0.0.value y.0.0.value did.unchanged)
    tt before

pub invariant_of-seat : goal.invariant_of-seat
invariant_of-seat g c =
    (planned_visited c.args.ledger.now c.seat.inside.seat c.make_visit.new.seat c.args.follower.now c.make_visit.new.follower c.seat.inside.who c.args.seat.now c.seat.view_is c.requires.at c.seat.invariant (option_map (λ i. i.now) c.args.after) c.args.most c.make_visit.result c.make_visit.ensures.visited c.make_visit.ensures.legal).seat

pub returns-clause-same : goal.returns-clause-same
returns-clause-same g c =
    (planned_visited c.args.ledger.now c.seat.inside.seat c.make_visit.new.seat c.args.follower.now c.make_visit.new.follower c.seat.inside.who c.args.seat.now c.seat.view_is c.requires.at c.seat.invariant (option_map (λ i. i.now) c.args.after) c.args.most c.make_visit.result c.make_visit.ensures.visited c.make_visit.ensures.legal).same

pub returns-clause-follower : goal.returns-clause-follower
returns-clause-follower g c =
    (planned_visited c.args.ledger.now c.seat.inside.seat c.make_visit.new.seat c.args.follower.now c.make_visit.new.follower c.seat.inside.who c.args.seat.now c.seat.view_is c.requires.at c.seat.invariant (option_map (λ i. i.now) c.args.after) c.args.most c.make_visit.result c.make_visit.ensures.visited c.make_visit.ensures.legal).follower

pub returns-clause-listed : goal.returns-clause-listed
returns-clause-listed g c =
    (planned_visited c.args.ledger.now c.seat.inside.seat c.make_visit.new.seat c.args.follower.now c.make_visit.new.follower c.seat.inside.who c.args.seat.now c.seat.view_is c.requires.at c.seat.invariant (option_map (λ i. i.now) c.args.after) c.args.most c.make_visit.result c.make_visit.ensures.visited c.make_visit.ensures.legal).listed

pub returns-clause-takes : goal.returns-clause-takes
returns-clause-takes g c =
    plan_takes c.args.ledger.now c.seat.inside.seat c.make_visit.new.seat c.args.follower.now c.make_visit.new.follower c.seat.inside.who c.args.seat.now c.seat.view_is c.requires.at c.seat.invariant (option_map (λ i. i.now) c.args.after) c.args.most c.make_visit.result c.make_visit.ensures.visited c.make_visit.ensures.legal

pub returns-clause-ok : goal.returns-clause-ok
returns-clause-ok g c =
    plan_shown c.args.ledger.now c.seat.inside.seat c.make_visit.new.seat c.args.follower.now c.make_visit.new.follower c.seat.inside.who c.args.seat.now c.seat.view_is c.requires.at c.seat.invariant (option_map (λ i. i.now) c.args.after) c.args.most c.make_visit.result c.make_visit.ensures.visited c.make_visit.ensures.legal
