use Rattle.std.proofs.Common.{◌≡◌, ◌∙◌, ◌<◌, ◌++◌, List, ℕ, length, ap, arith}
use Rattle.std.proofs.lemmas.Grind.{common_steps}
use Rattle.gate.proofs.Lists.{prefix_trans}
use Rattle.rounds.proofs.Pooling.{seen-longer, seen-more, did-more}
use Rattle.rounds.proofs.pool.Pool.join.Goals as goal

pub loop-pass-preserved : goal.loop-pass-preserved
loop-pass-preserved c =
    let inv = c.loop-pass.invariant in
    let old = c.loop-pass.first in
    let new = c.join.new.self in
    let pass = c.in-Some.pass in
    record {
      store = grind (arith, common_steps);
      workers = grind (arith, common_steps);
      rooms = grind (arith, common_steps);
      did = c.join.ensures.did ∙ ap (λ (l : List ℕ). l ++ pass.did) inv.did ∙ did-more c.args.self.first.did c.loop-pass.yielded pass;
      seen = (
        seen-more new.acts c.loop-pass.yielded pass (seen-longer old.acts new.acts c.loop-pass.yielded c.join.ensures.acts.0 inv.seen.0) c.join.ensures.acts.1,
        prefix_trans c.args.self.first.acts old.acts new.acts inv.seen.1 c.join.ensures.acts.0,
      );
      own = λ some all. (c.join.ensures.whole all).all;
      all = grind (arith, common_steps);
    }

pub returns-clause-own : goal.returns-clause-own
returns-clause-own c =
    let inv = c.loop-pass.invariant in
    let some : 0 < length c.loop-pass.yielded = grind (arith, common_steps) in
    let all : c.loop-pass.first.room ≡ 64 = grind (arith, common_steps) in
    inv.own some all
