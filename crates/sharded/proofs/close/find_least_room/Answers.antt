use Rattle.std.proofs.Common.{◌≡◌, ◌+◌, ◌∙◌, length, min, refl, subst, sym, arith, nat_cmp, ℕ}
use Rattle.std.proofs.lemmas.Option.{slice_get_read}
use Rattle.std.proofs.lemmas.Grind.{common_steps}
use Rattle.std.specs.Ordering.{ord_min}
use Rattle.sharded.specs.Seats.{shows_of}
use Rattle.sharded.proofs.Seats.{shows_length, shows_there}
use Rattle.sharded.proofs.Rooms.{LeastOf, least_none, least_more, least_all, least_lone, least_legal, least_least, least_some}
use Rattle.sharded.proofs.close.find_least_room.Goals as goal

least_is : (a b : ℕ) → ord_min nat_cmp a b ≡ min a b
least_is a b = grind (arith, common_steps)

pub loop-seat-init : goal.loop-seat-init
loop-seat-init c = least_none (shows_of c.args.seats.now)

pub loop-seat-preserved : goal.loop-seat-preserved
loop-seat-preserved c =
    let there = shows_there c.args.seats.now c.loop-seat.seat-index c.seat-item.result (slice_get_read c.args.seats.now (length c.args.seats.now) c.loop-seat.seat-index c.seat-item.result refl c.loop-seat-test.true c.seat-item.is) in
    subst (LeastOf (shows_of c.args.seats.now) (c.loop-seat.seat-index + 1)) (sym (c.min-least.ensures ∙ least_is c.loop-seat.least c.room.result))
    (least_more (shows_of c.args.seats.now) c.loop-seat.seat-index c.loop-seat.least c.room.result c.seat-item.result.shows there c.room.ensures.value c.room.ensures.range c.who-who.ensures.legal c.loop-seat.invariant)

pub returns-clause-least : goal.returns-clause-least
returns-clause-least c = least_least (shows_of c.args.seats.now) c.loop-seat.least (least_all (shows_of c.args.seats.now) c.loop-seat.seat-index c.loop-seat.least (omega (arith, shows_length c.args.seats.now, c.loop-seat-test.false)) c.loop-seat.invariant)

pub returns-clause-lone : goal.returns-clause-lone
returns-clause-lone c full = least_lone (shows_of c.args.seats.now) c.loop-seat.least (least_all (shows_of c.args.seats.now) c.loop-seat.seat-index c.loop-seat.least (omega (arith, shows_length c.args.seats.now, c.loop-seat-test.false)) c.loop-seat.invariant) full

pub returns-clause-legal : goal.returns-clause-legal
returns-clause-legal c = least_legal (shows_of c.args.seats.now) c.loop-seat.least (least_all (shows_of c.args.seats.now) c.loop-seat.seat-index c.loop-seat.least (omega (arith, shows_length c.args.seats.now, c.loop-seat-test.false)) c.loop-seat.invariant)

pub returns-clause-some : goal.returns-clause-some
returns-clause-some c = least_some (shows_of c.args.seats.now) c.loop-seat.least (least_all (shows_of c.args.seats.now) c.loop-seat.seat-index c.loop-seat.least (omega (arith, shows_length c.args.seats.now, c.loop-seat-test.false)) c.loop-seat.invariant)

pub returns-clause-range : goal.returns-clause-range
returns-clause-range c = c.loop-seat.invariant.range
