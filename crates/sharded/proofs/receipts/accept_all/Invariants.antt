use Rattle.shard.specs.Seats.{SeatShows}
use Rattle.sharded.specs.Seats.{IsSeatAccepted}
use Rattle.sharded.proofs.Taken.{TakenFrom}
use Rattle.sharded.proofs.receipts.accept_all.Given as goal

abbrev pub invariant-loop-receipt : goal.invariant-loop-receipt
invariant-loop-receipt l = TakenFrom (λ (s : SeatShows). s.shows.store) IsSeatAccepted l.fn.seats.items l.fn.receipts.items l.seats.items l.receipts.items

abbrev pub decreases-loop-receipt : goal.decreases-loop-receipt
decreases-loop-receipt l = goal.left-loop-receipt l
