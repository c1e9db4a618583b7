use Rattle.std.proofs.Common.{ℕ, ◌≤◌, length}
use Rattle.shared.specs.Deeds.{Takes, trim_deed}
use Rattle.sharded.specs.Seats.{shows_of}
use Rattle.sharded.proofs.Steps.{trim_of}
use Rattle.sharded.proofs.Replies.{ok_as}
use Rattle.sharded.proofs.Seats.{held_seat, held_of, held_store, held_ledger, step_kept, step_listed, step_same, step_at}
use Rattle.sharded.proofs.TrimParts.{part_stepped, part_listed}
use Rattle.sharded.proofs.store.ShardedStore.trim_shard_part.Goals as goal

pub trim_part-requires-clause-shard : goal.trim_part-requires-clause-shard
trim_part-requires-clause-shard g c = held_store (held_seat c.pass.view_is c.pass.invariant c.self.view_is c.requires.store c.requires.shard c.index_mut-seat.ensures.value) c.index-at.result.now c.index-at.ensures

pub trim_part-requires-clause-at : goal.trim_part-requires-clause-at
trim_part-requires-clause-at g c = held_of (held_seat c.pass.view_is c.pass.invariant c.self.view_is c.requires.store c.requires.shard c.index_mut-seat.ensures.value)

pub trim_part-requires-clause-ledger : goal.trim_part-requires-clause-ledger
trim_part-requires-clause-ledger g c = held_ledger (held_seat c.pass.view_is c.pass.invariant c.self.view_is c.requires.store c.requires.shard c.index_mut-seat.ensures.value)

pub invariant_of-pass : goal.invariant_of-pass
invariant_of-pass g c = step_kept (held_seat c.pass.view_is c.pass.invariant c.self.view_is c.requires.store c.requires.shard c.index_mut-seat.ensures.value) (part_stepped c.index_mut-seat.result.now c.trim_part.new.seat c.pass.inside.follower c.trim_part.new.follower c.args.keep c.trim_part.ensures.part.0 c.trim_part.result c.trim_part.ensures.part.2 c.trim_part.ensures.same c.trim_part.ensures.listed c.trim_part.ensures.follower) (trim_of (length (shows_of c.pass.inside.seats.items)) c.args.shard c.trim_part.ensures.part.0 c.trim_part.result)

pub returns-clause-listed : goal.returns-clause-listed
returns-clause-listed g c = part_listed _ _ c.trim_part.ensures.part.0 c.args.keep c.trim_part.result _ _ _ _ (step_listed (held_seat c.pass.view_is c.pass.invariant c.self.view_is c.requires.store c.requires.shard c.index_mut-seat.ensures.value) (part_stepped c.index_mut-seat.result.now c.trim_part.new.seat c.pass.inside.follower c.trim_part.new.follower c.args.keep c.trim_part.ensures.part.0 c.trim_part.result c.trim_part.ensures.part.2 c.trim_part.ensures.same c.trim_part.ensures.listed c.trim_part.ensures.follower))

pub returns-clause-same : goal.returns-clause-same
returns-clause-same g c = step_same (held_seat c.pass.view_is c.pass.invariant c.self.view_is c.requires.store c.requires.shard c.index_mut-seat.ensures.value) (part_stepped c.index_mut-seat.result.now c.trim_part.new.seat c.pass.inside.follower c.trim_part.new.follower c.args.keep c.trim_part.ensures.part.0 c.trim_part.result c.trim_part.ensures.part.2 c.trim_part.ensures.same c.trim_part.ensures.listed c.trim_part.ensures.follower)

pub returns-clause-part : goal.returns-clause-part
returns-clause-part g c = step_at (held_seat c.pass.view_is c.pass.invariant c.self.view_is c.requires.store c.requires.shard c.index_mut-seat.ensures.value) (part_stepped c.index_mut-seat.result.now c.trim_part.new.seat c.pass.inside.follower c.trim_part.new.follower c.args.keep c.trim_part.ensures.part.0 c.trim_part.result c.trim_part.ensures.part.2 c.trim_part.ensures.same c.trim_part.ensures.listed c.trim_part.ensures.follower) (λ v w. (k : ℕ) × (c.args.keep ≤ k) × Takes v (trim_deed k c.trim_part.result) w) c.trim_part.ensures.part

pub returns-clause-few : goal.returns-clause-few
returns-clause-few g c = ok_as c.trim_part.result c.trim_part.ensures.few (λ _ few. few.0)

pub returns-clause-whole : goal.returns-clause-whole
returns-clause-whole g c = ok_as c.trim_part.result c.trim_part.ensures.whole (λ _ whole less. step_at (held_seat c.pass.view_is c.pass.invariant c.self.view_is c.requires.store c.requires.shard c.index_mut-seat.ensures.value) (part_stepped c.index_mut-seat.result.now c.trim_part.new.seat c.pass.inside.follower c.trim_part.new.follower c.args.keep c.trim_part.ensures.part.0 c.trim_part.result c.trim_part.ensures.part.2 c.trim_part.ensures.same c.trim_part.ensures.listed c.trim_part.ensures.follower) (λ v w. Takes v (trim_deed c.args.keep c.trim_part.result) w) (whole less))
