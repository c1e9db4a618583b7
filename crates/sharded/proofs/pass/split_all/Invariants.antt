use Rattle.std.proofs.Common.{◌≡◌, map, take}
use Rattle.sharded.specs.Passes.{HaveRoom}
use Rattle.sharded.specs.Seats.{shows_of, kept_seat, given_seat}
use Rattle.sharded.proofs.Passes.{mapped}
use Rattle.sharded.proofs.pass.split_all.Given as goal

abbrev pub invariant-loop-shard : goal.invariant-loop-shard
invariant-loop-shard l =
    (l.seats.items ≡ mapped kept_seat l.shard l.fn.seats.items) × (l.given.items ≡ map (given_seat l.who) (take l.shard l.fn.seats.items)) × HaveRoom (shows_of (take l.shard l.fn.seats.items))
