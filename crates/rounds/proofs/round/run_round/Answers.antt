use Rattle.std.proofs.Common.{vec_items, arith, refl, rules}
use Rattle.std.proofs.lemmas.Grind.{common_steps}
use Rattle.rounds.proofs.Joining.{if_each_did}
use Rattle.rounds.proofs.round.run_round.Goals as goal

pub returns-clause-did : goal.returns-clause-did
returns-clause-did g c = (if_each_did vec_items g.E.Errand.did g.E.Errand.paced (g.P.Pace.may_answer c.args.pace.now) c.args.works.items c.scoped.result c.scoped.ensures.1.0).0

pub returns-clause-paced : goal.returns-clause-paced
returns-clause-paced g c = (if_each_did vec_items g.E.Errand.did g.E.Errand.paced (g.P.Pace.may_answer c.args.pace.now) c.args.works.items c.scoped.result c.scoped.ensures.1.0).1

pub scoped-requires : goal.scoped-requires
scoped-requires g c = record {
  at = λ a. (
    (
      c.requires,
      c.in-Ok-Ok-Ok.ensures.items,
      grind (arith, common_steps),
      c.in-Ok-Ok-Ok.ensures'.items,
      c.in-Ok-Ok-Ok.ensures''.items,
      refl,
      grind (arith, common_steps),
      grind (arith, common_steps),
    ),
    (search rules, search rules, search rules, search rules),
  );
}
