use Rattle.std.proofs.Common.{ℕ, ◌≤◌, length}
use Rattle.shared.specs.Deeds.{Takes, trim_deed}
use Rattle.shared.specs.Passes.{FindsBusy}
use Rattle.sharded.specs.Seats.{shows_of}
use Rattle.sharded.proofs.Steps.{trim_of}
use Rattle.sharded.proofs.Replies.{ok_as}
use Rattle.sharded.proofs.Seats.{held_seat, held_of, held_store, held_ledger, step_kept, step_listed, step_same, step_at, seat_lone}
use Rattle.sharded.proofs.TrimParts.{part_stepped, part_listed}
use Rattle.sharded.proofs.store.ShardedStore.try_trim_shard_part.Goals as goal

pub try_trim_part-requires-clause-shard : goal.try_trim_part-requires-clause-shard
try_trim_part-requires-clause-shard c = held_store (held_seat c.pass.view_is c.pass.invariant c.self.view_is c.requires.store c.requires.shard c.index_mut-seat.ensures.value) c.index-at.result.now c.index-at.ensures

pub try_trim_part-requires-clause-at : goal.try_trim_part-requires-clause-at
try_trim_part-requires-clause-at c = held_of (held_seat c.pass.view_is c.pass.invariant c.self.view_is c.requires.store c.requires.shard c.index_mut-seat.ensures.value)

pub try_trim_part-requires-clause-ledger : goal.try_trim_part-requires-clause-ledger
try_trim_part-requires-clause-ledger c = held_ledger (held_seat c.pass.view_is c.pass.invariant c.self.view_is c.requires.store c.requires.shard c.index_mut-seat.ensures.value)

pub invariant_of-pass : goal.invariant_of-pass
invariant_of-pass c = step_kept (held_seat c.pass.view_is c.pass.invariant c.self.view_is c.requires.store c.requires.shard c.index_mut-seat.ensures.value) (part_stepped c.index_mut-seat.result.now c.try_trim_part.new.seat c.pass.inside.follower c.try_trim_part.new.follower c.args.keep c.try_trim_part.ensures.part.0 c.try_trim_part.result c.try_trim_part.ensures.part.2 c.try_trim_part.ensures.same c.try_trim_part.ensures.listed c.try_trim_part.ensures.follower) (trim_of (length (shows_of c.pass.inside.seats.items)) c.args.shard c.try_trim_part.ensures.part.0 c.try_trim_part.result)

pub returns-clause-listed : goal.returns-clause-listed
returns-clause-listed c = part_listed _ _ c.try_trim_part.ensures.part.0 c.args.keep c.try_trim_part.result _ _ _ _ (step_listed (held_seat c.pass.view_is c.pass.invariant c.self.view_is c.requires.store c.requires.shard c.index_mut-seat.ensures.value) (part_stepped c.index_mut-seat.result.now c.try_trim_part.new.seat c.pass.inside.follower c.try_trim_part.new.follower c.args.keep c.try_trim_part.ensures.part.0 c.try_trim_part.result c.try_trim_part.ensures.part.2 c.try_trim_part.ensures.same c.try_trim_part.ensures.listed c.try_trim_part.ensures.follower))

pub returns-clause-same : goal.returns-clause-same
returns-clause-same c = step_same (held_seat c.pass.view_is c.pass.invariant c.self.view_is c.requires.store c.requires.shard c.index_mut-seat.ensures.value) (part_stepped c.index_mut-seat.result.now c.try_trim_part.new.seat c.pass.inside.follower c.try_trim_part.new.follower c.args.keep c.try_trim_part.ensures.part.0 c.try_trim_part.result c.try_trim_part.ensures.part.2 c.try_trim_part.ensures.same c.try_trim_part.ensures.listed c.try_trim_part.ensures.follower)

pub returns-clause-part : goal.returns-clause-part
returns-clause-part c = step_at (held_seat c.pass.view_is c.pass.invariant c.self.view_is c.requires.store c.requires.shard c.index_mut-seat.ensures.value) (part_stepped c.index_mut-seat.result.now c.try_trim_part.new.seat c.pass.inside.follower c.try_trim_part.new.follower c.args.keep c.try_trim_part.ensures.part.0 c.try_trim_part.result c.try_trim_part.ensures.part.2 c.try_trim_part.ensures.same c.try_trim_part.ensures.listed c.try_trim_part.ensures.follower) (λ v w. (k : ℕ) × (c.args.keep ≤ k) × Takes v (trim_deed k c.try_trim_part.result) w) c.try_trim_part.ensures.part

pub returns-clause-few : goal.returns-clause-few
returns-clause-few c = ok_as c.try_trim_part.result c.try_trim_part.ensures.few (λ _ few. few.0)

pub returns-clause-whole : goal.returns-clause-whole
returns-clause-whole c = ok_as c.try_trim_part.result c.try_trim_part.ensures.whole (λ _ whole less. step_at (held_seat c.pass.view_is c.pass.invariant c.self.view_is c.requires.store c.requires.shard c.index_mut-seat.ensures.value) (part_stepped c.index_mut-seat.result.now c.try_trim_part.new.seat c.pass.inside.follower c.try_trim_part.new.follower c.args.keep c.try_trim_part.ensures.part.0 c.try_trim_part.result c.try_trim_part.ensures.part.2 c.try_trim_part.ensures.same c.try_trim_part.ensures.listed c.try_trim_part.ensures.follower) (λ v w. Takes v (trim_deed c.args.keep c.try_trim_part.result) w) (whole less))

pub returns-clause-lone : goal.returns-clause-lone
returns-clause-lone c lone = c.try_trim_part.ensures.lone (seat_lone (held_seat c.pass.view_is c.pass.invariant c.self.view_is c.requires.store c.requires.shard c.index_mut-seat.ensures.value) lone)

pub returns-clause-busy : goal.returns-clause-busy
returns-clause-busy c busy = step_at (held_seat c.pass.view_is c.pass.invariant c.self.view_is c.requires.store c.requires.shard c.index_mut-seat.ensures.value) (part_stepped c.index_mut-seat.result.now c.try_trim_part.new.seat c.pass.inside.follower c.try_trim_part.new.follower c.args.keep c.try_trim_part.ensures.part.0 c.try_trim_part.result c.try_trim_part.ensures.part.2 c.try_trim_part.ensures.same c.try_trim_part.ensures.listed c.try_trim_part.ensures.follower) FindsBusy (c.try_trim_part.ensures.busy busy)
