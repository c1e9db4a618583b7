use Rattle.std.proofs.Common.{◌+◌, ◌≤◌, vec_len, vec_capacity}
use Rattle.sharded.specs.Seats.{shows_of}
use Rattle.sharded.proofs.Closings.{ClosedFrom, SeatsLeft}
use Rattle.sharded.proofs.close.take_all.Given as goal

abbrev pub invariant-loop-seat : goal.invariant-loop-seat
invariant-loop-seat l = record {
  closed : ClosedFrom (shows_of l.fn.seats.items) (shows_of l.seats.items) l.books.items;
  seats : SeatsLeft l.fn.seats.items l.seats.items l.fn.follower l.follower;
  room : vec_len l.seats + vec_len l.books ≤ vec_capacity l.books;
}

abbrev pub decreases-loop-seat : goal.decreases-loop-seat
decreases-loop-seat l = vec_len l.seats
