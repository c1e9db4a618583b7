use Rattle.std.proofs.Common.{◌+◌, arith}
use Rattle.lent.specs.declared.grant.Grant.{Grant}
use Rattle.lent.proofs.Joining.{step_gives, step_joins, step_absent}
use Rattle.lent.proofs.walk.Walk.next_piece.Goals as goal

pub returns-clause-ok : goal.returns-clause-ok
returns-clause-ok c =
    let g : Grant = c.self.inside.grant.now in
    step_gives g.sealed.value g.start (g.start + g.len) c.self.inside.end c.self.inside.at (omega (arith, c.self.invariant)) c.part_at-part.result c.part_at-part.ensures.value c.in-Ok.piece c.in-Ok.ensures.ok
    c.args.self.now c.self.view_is

pub returns-clause-joins : goal.returns-clause-joins
returns-clause-joins c =
    let g : Grant = c.self.inside.grant.now in
    step_joins g.sealed.value g.start (g.start + g.len) c.self.inside.end c.self.inside.at (omega (arith, c.self.invariant)) c.part_at-part.result c.part_at-part.ensures.value c.in-Ok.piece c.in-Ok.ensures.ok
    c.args.self.now c.self.view_is c.part_at-part.ensures.stripe c.part_at-part.ensures.fragment c.part_at-part.ensures.range.1

pub returns-in-Err-clause-refused : goal.returns-in-Err-clause-refused
returns-in-Err-clause-refused c =
    let g : Grant = c.self.inside.grant.now in
    step_absent g.sealed.value g.start (g.start + g.len) c.self.inside.end c.self.inside.at (omega (arith, c.self.invariant)) c.part_at-part.result c.part_at-part.ensures.value c.args.self.now c.self.view_is
    c.in-Err.ensures.err
