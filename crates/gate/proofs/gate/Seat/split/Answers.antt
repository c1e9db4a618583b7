use Rattle.std.proofs.Common.{◌≡◌, ap, arith}
use Rattle.gate.proofs.Moves.{splits}
use Rattle.gate.proofs.gate.Seat.split.Goals as goal

pub split_seat-table_seat-requires : goal.split_seat-table_seat-requires
split_seat-table_seat-requires g c =
    (cc, omega arith, splits g.T.Follows.follows _ _ c.self.invariant.heard (cc) (let room : c.self.inside.table_seat.me.0.room ≡ c.args.self.now.room = ap (λ p. p.room) c.self.view_is in omega arith))
