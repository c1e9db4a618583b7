use Rattle.std.proofs.Common.{◌≡◌, map, take}
use Rattle.sharded.specs.Passes.{AreTaken}
use Rattle.sharded.specs.Seats.{IsSeatAccepted, seen_seat}
use Rattle.sharded.proofs.receipts.learn_all.Given as goal

abbrev pub invariant-loop-shard : goal.invariant-loop-shard
invariant-loop-shard l = record {
  taken : AreTaken IsSeatAccepted l.fn.seats.items (take l.shard (map seen_seat l.fn.others.items)) l.seats.items;
  same : l.others.items ≡ l.fn.others.items;
}
