use Rattle.std.proofs.Common.{◌≡◌, false, ap, ◌∙◌, arith}
use Rattle.gate.specs.Places.{times}
use Rattle.gate.specs.Rule.{slots_of}
use Rattle.gate.proofs.Moves.{joins, settles_as}
use Rattle.gate.proofs.gate.Seat.join.Goals as goal

pub join_seat-requires : goal.join_seat-requires
join_seat-requires g c =
    let outside : c.other.inside.table_seat.me.0.inside ≡ false = cc in
    (cc, cc, c.other.invariant.slots ∙ ap slots_of outside, omega arith, joins g.T.Follows.follows _ _ _ _ c.self.invariant.heard (cc) c.self.invariant.some_room c.other.invariant.heard (cc))

pub load-requires : goal.load-requires
load-requires g c =
    (cc, omega arith, settles_as g.T.Follows.follows _ _ _ c.self.inside.table_seat.me.0 c.other.inside.table_seat.me.0 _ c.join_seat.ensures.2 (cc) c.self.invariant.some_room c.self.invariant.some_list)

pub returns-clause-apart : goal.returns-clause-apart
returns-clause-apart g c = λ p.
    let mine = ap (λ m. times p m.0.shown.own) c.join_seat.ensures.2 ∙ ap (λ q. times p q.own) c.self.view_is in
    let theirs = ap (λ m. times p m.0.heard.own) c.join_seat.ensures.2 ∙ ap (λ q. times p q.own) c.other.view_is in
    let both = c.load.ensures.2.5 p in
    omega arith
