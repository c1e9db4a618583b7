use Rattle.std.proofs.Common.{[]}
use Rattle.shared.proofs.Looks.{given_by, few_given, whole_given}
use Rattle.shared.proofs.Visits.{trimmed_goes_on, trimmed_follows}
use Rattle.shard.proofs.Visits.{keeps_at, legal_visit}
use Rattle.shard.proofs.Entering.{trimmed_visited, trim_listed, trim_takes_part, trim_takes_as}
use Rattle.shard.proofs.shard.Shard.trim_part.Goals as goal

pub make_visit-requires-clause-keeps : goal.make_visit-requires-clause-keeps
make_visit-requires-clause-keeps g c = keeps_at c.args.ledger.now c.seat.inside.seat c.seat.inside.who c.args.seat.now c.seat.view_is c.requires.at c.seat.invariant

pub make_visit-requires-clause-follows : goal.make_visit-requires-clause-follows
make_visit-requires-clause-follows g c = λ x y reply can did. trimmed_follows c.args.keep c.args.most x.0.0.value y.0.0.value reply did

pub make_visit-requires-clause-legal : goal.make_visit-requires-clause-legal
make_visit-requires-clause-legal g c =
    λ list x y reply seen chain last lone did before.
    legal_visit c.args.ledger.now c.seat.inside.seat c.seat.inside.who c.args.seat.now c.seat.view_is c.requires.at c.seat.invariant list x y [] (given_by reply) seen chain last lone
    (trimmed_goes_on c.args.keep c.args.most x.value.0.0.value y.0.0.value reply did)
    tt before

pub invariant_of-seat : goal.invariant_of-seat
invariant_of-seat g c =
    (trimmed_visited c.args.ledger.now c.seat.inside.seat c.make_visit.new.seat c.args.follower.now c.make_visit.new.follower c.seat.inside.who c.args.seat.now c.seat.view_is c.requires.at c.seat.invariant c.args.keep c.args.most c.make_visit.result c.make_visit.ensures.visited c.make_visit.ensures.legal).seat

pub returns-clause-same : goal.returns-clause-same
returns-clause-same g c =
    (trimmed_visited c.args.ledger.now c.seat.inside.seat c.make_visit.new.seat c.args.follower.now c.make_visit.new.follower c.seat.inside.who c.args.seat.now c.seat.view_is c.requires.at c.seat.invariant c.args.keep c.args.most c.make_visit.result c.make_visit.ensures.visited c.make_visit.ensures.legal).same

pub returns-clause-follower : goal.returns-clause-follower
returns-clause-follower g c =
    (trimmed_visited c.args.ledger.now c.seat.inside.seat c.make_visit.new.seat c.args.follower.now c.make_visit.new.follower c.seat.inside.who c.args.seat.now c.seat.view_is c.requires.at c.seat.invariant c.args.keep c.args.most c.make_visit.result c.make_visit.ensures.visited c.make_visit.ensures.legal).follower

pub returns-clause-listed : goal.returns-clause-listed
returns-clause-listed g c =
    trim_listed c.args.ledger.now c.seat.inside.seat c.make_visit.new.seat c.args.follower.now c.make_visit.new.follower c.seat.inside.who c.args.seat.now c.seat.view_is c.requires.at c.seat.invariant c.args.keep c.args.most c.make_visit.result c.make_visit.ensures.visited c.make_visit.ensures.legal

pub returns-clause-part : goal.returns-clause-part
returns-clause-part g c =
    trim_takes_part c.args.ledger.now c.seat.inside.seat c.make_visit.new.seat c.args.follower.now c.make_visit.new.follower c.seat.inside.who c.args.seat.now c.seat.view_is c.requires.at c.seat.invariant c.args.keep c.args.most c.make_visit.result c.make_visit.ensures.visited c.make_visit.ensures.legal

pub returns-clause-few : goal.returns-clause-few
returns-clause-few g c = few_given c.make_visit.result _ _ c.args.keep c.args.most c.make_visit.ensures.visited.did.answer c.make_visit.ensures.visited.did.few

pub returns-clause-whole : goal.returns-clause-whole
returns-clause-whole g c =
    whole_given c.make_visit.result _ _ c.args.keep c.args.most c.make_visit.ensures.visited.did.answer
    (trim_takes_as c.args.ledger.now c.seat.inside.seat c.make_visit.new.seat c.args.follower.now c.make_visit.new.follower c.seat.inside.who c.args.seat.now c.seat.view_is c.requires.at c.seat.invariant c.args.keep c.args.most c.make_visit.result c.make_visit.ensures.visited c.make_visit.ensures.legal c.args.keep)
