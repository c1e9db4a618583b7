use Rattle.std.proofs.Common.{◌≡◌, map, take}
use Rattle.sharded.specs.Seats.{seen_seat}
use Rattle.sharded.proofs.receipts.receipts_of.Given as goal

abbrev pub invariant-loop-shard : goal.invariant-loop-shard
invariant-loop-shard l = (l.seats.items ≡ l.fn.seats.items) × (l.receipts.items ≡ map seen_seat (take l.shard l.fn.seats.items))
