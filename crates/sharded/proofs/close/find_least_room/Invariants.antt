use Rattle.sharded.specs.Seats.{shows_of}
use Rattle.sharded.proofs.Rooms.{LeastOf}
use Rattle.sharded.proofs.close.find_least_room.Given as goal

abbrev pub invariant-loop-seat : goal.invariant-loop-seat
invariant-loop-seat l = LeastOf (shows_of l.seats) l.seat-index l.least
