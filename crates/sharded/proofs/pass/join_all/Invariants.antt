use Rattle.shard.specs.Seats.{SeatShows}
use Rattle.sharded.specs.Seats.{IsSeatJoined}
use Rattle.sharded.proofs.Taken.{TakenFrom}
use Rattle.sharded.proofs.pass.join_all.Given as goal

abbrev pub invariant-loop-other : goal.invariant-loop-other
invariant-loop-other l = TakenFrom (λ (s : SeatShows). s.shows.store) IsSeatJoined l.fn.seats.items l.fn.others.items l.seats.items l.others.items

abbrev pub decreases-loop-other : goal.decreases-loop-other
decreases-loop-other l = goal.left-loop-other l
