use Rattle.std.proofs.Common.{◌≡◌, ◌∷◌, ◌++◌, arith, rules, subst}
use Rattle.std.proofs.lemmas.Grind.{common_steps}
use Rattle.std.specs.Vec.Iter.{into_iter_items}
use Rattle.rounds.specs.Rounds.{AreReady, DidAt}
use Rattle.rounds.proofs.Joining.{joined-more, one-ready}
use Rattle.rounds.proofs.round.join_all.Goals as goal

pub loop-one-preserved : goal.loop-one-preserved
loop-one-preserved g c = (
  search rules,
  rw c.push_reserved.ensures.items (joined-more (DidAt g.E.Errand.did g.E.Errand.paced (g.P.Pace.may_answer c.args.pace.now)) c.loop-one.yielded c.in-Some.one c.loop-one.rans.items c.join.result c.loop-one.invariant.1 c.join.ensures),
  grind (arith, common_steps),
)

pub join-requires : goal.join-requires
join-requires g c =
    let is : c.args.started.items ≡ c.loop-one.yielded ++ c.in-Some.one ∷ into_iter_items c.next.new.self = grind (arith, common_steps) in
    one-ready g.E.Errand.fits g.E.Errand.did g.E.Errand.paced c.args.store.now c.args.pace.now (g.P.Pace.may_answer c.args.pace.now) c.loop-one.yielded (into_iter_items c.next.new.self) c.in-Some.one (subst (AreReady g.E.Errand.fits g.E.Errand.did g.E.Errand.paced c.args.store.now c.args.pace.now (g.P.Pace.may_answer c.args.pace.now)) is c.requires.ready)
