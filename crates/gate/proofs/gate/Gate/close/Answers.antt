use Rattle.std.proofs.Common.{ap, sym, subst, ◌∙◌}
use Rattle.gate.specs.Places.{last_of, HasAll}
use Rattle.gate.proofs.Moves.{closes}
use Rattle.gate.proofs.gate.Gate.close.Goals as goal

pub unreachable-requires : goal.unreachable-requires
unreachable-requires g c =
    let e = closes g.T.Follows.follows c.seat.inside.table_seat.id c.seat.inside.table_seat.me.0 _ _ c.seat.invariant.heard (cc) (cc) c.seat.invariant.some_list c.close_with-closed.ensures.values.2 c.take.result c.take.ensures.value in
    c.in_default.not-Some e.0.0 e.0.1

pub returns-clause-last : goal.returns-clause-last
returns-clause-last g c =
    let e = closes g.T.Follows.follows c.seat.inside.table_seat.id c.seat.inside.table_seat.me.0 _ _ c.seat.invariant.heard (cc) (cc) c.seat.invariant.some_list c.close_with-closed.ensures.values.2 c.take.result c.take.ensures.value in
    sym (ap (λ p. last_of p.list) c.seat.view_is) ∙ (e.1 ∙ c.in-Some.is)

pub returns-clause-own : goal.returns-clause-own
returns-clause-own g c =
    let e = closes g.T.Follows.follows c.seat.inside.table_seat.id c.seat.inside.table_seat.me.0 _ _ c.seat.invariant.heard (cc) (cc) c.seat.invariant.some_list c.close_with-closed.ensures.values.2 c.take.result c.take.ensures.value in
    subst (λ p. HasAll p.list p.own) c.seat.view_is e.2
