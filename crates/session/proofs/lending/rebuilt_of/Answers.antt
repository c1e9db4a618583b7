use Rattle.std.proofs.Common.{subst, sym}
use Rattle.session.proofs.Lendings.{IsRebuilding, one_more, rebuilt_all}
use Rattle.lent.proofs.Collecting.{at_end}
use Rattle.session.proofs.lending.rebuilt_of.Goals as goal

pub loop-walk-preserved : goal.loop-walk-preserved
loop-walk-preserved c =
    let gives = rw c.in-Some.is at c.in_ok-piece.ensures.ok in
    let joins = rw c.in-Some.is at c.in_ok-piece.ensures.joins in
    subst (IsRebuilding c.walk-walk.result c.next_piece.new.self) (sym c.in_ok-push.ensures.items)
    (one_more c.walk-walk.result c.loop-walk.walk c.next_piece.new.self c.loop-walk.rebuilt.items c.in-Some.piece c.needed_of.result c.loop-walk.invariant gives joins c.needed_of.ensures)

pub returns : goal.returns
returns c =
    let walk = c.walk-walk.ensures in
    rebuilt_all c.args.grant.now c.walk-walk.result c.loop-walk.walk c.loop-walk.rebuilt.items walk.sealed walk.parts walk.bytes c.loop-walk.invariant
    (at_end c.loop-walk.walk c.next_piece.new.self c.in_ok-piece.field-0 c.in_ok-piece.ensures.ok c.in_default.not-Some)
