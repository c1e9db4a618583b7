use Rattle.std.proofs.Common.{◌≤◌, arith}
use Rattle.std.proofs.lemmas.Result.{IfOk-weaker}
use Rattle.lent.specs.declared.grant.Grant.{Grant}
use Rattle.lent.proofs.Running.{run_gives, run_joins, alone}
use Rattle.lent.proofs.walk.Walk.next_run.Goals as goal

pub returns-in-Some-clause-ok : goal.returns-in-Some-clause-ok
returns-in-Some-clause-ok c =
    let g : Grant = c.self.inside.grant.now in
    let inside : c.in-Some.behind ≤ c.self.inside.end = omega (arith, c.in-Some.ensures.inside, c.self.invariant) in
    run_gives g.sealed.value g.start g.len c.self.inside.end c.self.inside.at c.in-Some.behind c.in-Some.ensures.more inside c.in-Some.run' c.args.self.now c.self.view_is c.in-Some.ensures.present

pub returns-in-Some-clause-joins : goal.returns-in-Some-clause-joins
returns-in-Some-clause-joins c =
    let g : Grant = c.self.inside.grant.now in
    let inside : c.in-Some.behind ≤ c.self.inside.end = omega (arith, c.in-Some.ensures.inside, c.self.invariant) in
    run_joins g.sealed.value g.start g.len c.self.inside.end c.self.inside.at c.in-Some.behind c.in-Some.ensures.more inside c.in-Some.run' c.args.self.now c.self.view_is
    c.self.invariant.2 c.self.invariant.0 g.inside c.in-Some.ensures.bytes

pub returns-clause-ok : goal.returns-clause-ok
returns-clause-ok c = IfOk-weaker c.next_piece.result _ _ (alone c.args.self.now c.next_piece.new.self) c.next_piece.ensures.ok
