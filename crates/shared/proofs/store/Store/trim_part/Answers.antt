use Rattle.shared.proofs.Looks.{few_given, whole_given}
use Rattle.shared.proofs.Visits.{trimmed_follows, trimmed_step, takes_as, takes_part}
use Rattle.shared.proofs.store.Store.trim_part.Goals as goal

pub make_visit-requires-clause-follows : goal.make_visit-requires-clause-follows
make_visit-requires-clause-follows g c = λ x y reply can did. trimmed_follows c.args.keep c.args.most x.0.value y.0.value reply did

pub invariant_of-pass : goal.invariant_of-pass
invariant_of-pass g c = (trimmed_step c.pass.inside.seat c.make_visit.new.seat c.pass.inside.who c.args.keep c.args.most c.make_visit.result c.args.pass.now c.pass.view_is c.pass.invariant c.make_visit.ensures.visited).pass

pub returns-clause-part : goal.returns-clause-part
returns-clause-part g c = takes_part c.pass.inside.seat c.make_visit.new.seat c.pass.inside.who c.args.keep c.args.most c.make_visit.result c.args.pass.now c.pass.view_is c.pass.invariant c.make_visit.ensures.visited

pub returns-clause-few : goal.returns-clause-few
returns-clause-few g c =
    let did = c.make_visit.ensures.visited.did in
    few_given c.make_visit.result _ _ c.args.keep c.args.most did.answer did.few

pub returns-clause-whole : goal.returns-clause-whole
returns-clause-whole g c =
    let v = c.make_visit.ensures.visited in
    whole_given c.make_visit.result _ _ c.args.keep c.args.most v.did.answer
    (takes_as c.pass.inside.seat c.make_visit.new.seat c.pass.inside.who c.args.keep c.args.most c.make_visit.result c.args.pass.now c.pass.view_is c.pass.invariant v c.args.keep)
