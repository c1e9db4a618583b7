use Rattle.std.proofs.Common.{◌≡◌, ◌+◌, ap, ◌∙◌, arith}
use Rattle.gate.specs.Places.{times}
use Rattle.mender.proofs.Moves.{joins, looks}
use Rattle.gate.proofs.Lists.{times-append}
use Rattle.mender.proofs.tickets.Drawer.join.Goals as goal

pub join_seat-requires : goal.join_seat-requires
join_seat-requires c = (cc, cc, c.other.invariant.slots, omega arith, joins _ _ _ _)

pub load-requires : goal.load-requires
load-requires c = (cc, omega arith, looks _ _ _)

pub returns-clause-apart : goal.returns-clause-apart
returns-clause-apart c = λ n.
    let most = c.load.ensures.2.1.once n in
    let joined : times n c.join_seat.new.seat.me.0.drawn ≡ times n c.self.inside.seat.me.0.drawn + times n c.other.inside.seat.me.0.drawn =
    ap (λ m. times n m.0.drawn) c.join_seat.ensures.2 ∙ times-append n c.self.inside.seat.me.0.drawn c.other.inside.seat.me.0.drawn in
    let mine : times n c.self.inside.seat.me.0.drawn ≡ times n c.args.self.now.drawn = ap (λ h. times n h.drawn) c.self.view_is in
    let theirs : times n c.other.inside.seat.me.0.drawn ≡ times n c.args.other.drawn = ap (λ h. times n h.drawn) c.other.view_is in
    omega arith
