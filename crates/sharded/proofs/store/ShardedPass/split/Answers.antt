use Rattle.std.proofs.Common.{◌≡◌, Err, map, refl, ap, sym, ◌∙◌, subst, slice_get}
use Rattle.sealed.specs.declared.fault.Fault.TheVariants.{NoPass}
use Rattle.sharded.specs.Passes.{HasRoomOfOne, stores_of, HaveRoomAgain, kept_in_split, given_in_split}
use Rattle.sharded.specs.Seats.{shows_of, IsPassOf}
use Rattle.sharded.proofs.Passes.{restored_all, restored_stores, kept_stores, given_all_stores}
use Rattle.sharded.proofs.Rooms.{one_left, none_left}
use Rattle.sharded.proofs.Joins.{seat_stores_of, kept_shows, given_shows, kept_pass, given_pass, part_stores, back_pass, back_restored, some_room}
use Rattle.sharded.proofs.store.ShardedPass.split.Goals as goal

pub split_all-requires-clause-stores : goal.split_all-requires-clause-stores
split_all-requires-clause-stores c = seat_stores_of c.self.inside.seats.items ∙ ap (λ v. stores_of v.shards) c.self.view_is ∙ ap (λ s. s.shards) c.requires ∙ ap (λ s. s.shards) (sym c.store.view_is) ∙ sym c.deref.ensures.value

pub split-follower-requires-clause-ledger : goal.split-follower-requires-clause-ledger
split-follower-requires-clause-ledger c = ap (λ v. v.ledger) c.self.view_is ∙ ap (λ s. s.ledger) c.requires ∙ ap (λ s. s.ledger) (sym c.store.view_is)

pub split-follower-requires-clause-room : goal.split-follower-requires-clause-room
split-follower-requires-clause-room c = some_room c.self.inside.seats.items c.self.inside.follower c.self.invariant c.room.result (λ k v e. c.room.ensures.least k v (ap (λ p. slice_get p.shards k) (sym c.self.view_is) ∙ e)) c.if-room-le1.false

pub invariant_of-result : goal.invariant_of-result
invariant_of-result c = subst (λ seats. IsPassOf seats c.split-follower.result) (sym c.in-Ok.ensures.given) (given_pass c.args.who c.self.inside.seats.items c.self.inside.follower c.split-follower.result c.self.invariant c.split-follower.ensures.given)

pub invariant_of-self : goal.invariant_of-self
invariant_of-self c = subst (λ seats. IsPassOf seats c.split-follower.new.self) (sym c.in-Ok.ensures.unchanged) (kept_pass c.self.inside.seats.items c.self.inside.follower c.split-follower.new.self c.self.invariant c.split-follower.ensures.unchanged)

pub join_all-requires-clause-stores : goal.join_all-requires-clause-stores
join_all-requires-clause-stores c =
    let split = part_stores c.args.who c.self.inside.seats.items c.split_all.new.seats.items c.split_all.new.given.items c.args.store.now.shards (ap (λ v. stores_of v.shards) c.self.view_is ∙ ap (λ s. s.shards) c.requires) c.in-Err.ensures.err in
    split.0 ∙ ap (λ s. s.shards) (sym c.store.view_is) ∙ sym c.deref-in-Err.ensures.value

pub join_all-requires-clause-others : goal.join_all-requires-clause-others
join_all-requires-clause-others c =
    let split = part_stores c.args.who c.self.inside.seats.items c.split_all.new.seats.items c.split_all.new.given.items c.args.store.now.shards (ap (λ v. stores_of v.shards) c.self.view_is ∙ ap (λ s. s.shards) c.requires) c.in-Err.ensures.err in
    (split.1.0, split.1.1 ∙ ap (λ s. s.shards) (sym c.store.view_is) ∙ sym c.deref-in-Err.ensures.value)

pub invariant_of-self-in-Err : goal.invariant_of-self-in-Err
invariant_of-self-in-Err c = back_pass c.args.who c.self.inside.seats.items c.split_all.new.seats.items c.split_all.new.given.items c.join_all.new.seats.items c.self.inside.follower c.self.invariant c.in-Err.ensures.err c.join_all.ensures

pub returns-in-Err-clause-err : goal.returns-in-Err-clause-err
returns-in-Err-clause-err c =
    subst (λ v. HaveRoomAgain v.shards (shows_of c.join_all.new.seats.items)) c.self.view_is
    (back_restored c.args.who c.self.inside.seats.items c.split_all.new.seats.items c.split_all.new.given.items c.join_all.new.seats.items c.in-Err.ensures.err c.join_all.ensures)

pub returns-in-Err-clause-same : goal.returns-in-Err-clause-same
returns-in-Err-clause-same c =
    let back = back_restored c.args.who c.self.inside.seats.items c.split_all.new.seats.items c.split_all.new.given.items c.join_all.new.seats.items c.in-Err.ensures.err c.join_all.ensures in
    ap (λ l. record { shards = l; ledger = c.self.inside.follower.ledger }) (restored_stores (shows_of c.self.inside.seats.items) (shows_of c.join_all.new.seats.items) back) ∙ ap (λ v. record { shards = stores_of v.shards; ledger = v.ledger }) c.self.view_is ∙ c.requires

pub returns-in-Ok-clause-unchanged : goal.returns-in-Ok-clause-unchanged
returns-in-Ok-clause-unchanged c = ap shows_of c.in-Ok.ensures.unchanged ∙ kept_shows c.self.inside.seats.items ∙ ap (λ v. map kept_in_split v.shards) c.self.view_is

pub returns-in-Ok-clause-given : goal.returns-in-Ok-clause-given
returns-in-Ok-clause-given c = ap shows_of c.in-Ok.ensures.given ∙ given_shows c.args.who c.self.inside.seats.items ∙ ap (λ v. map (given_in_split c.args.who) v.shards) c.self.view_is

pub returns-in-Ok-clause-same : goal.returns-in-Ok-clause-same
returns-in-Ok-clause-same c =
    (λ i. record { shards = (ap (λ l. stores_of (shows_of l)) c.in-Ok.ensures.unchanged ∙ ap stores_of (kept_shows c.self.inside.seats.items) ∙ kept_stores (shows_of c.self.inside.seats.items)) i; ledger = (c.split-follower.ensures.unchanged i).ledger })
    ∙ ap (λ v. record { shards = stores_of v.shards; ledger = v.ledger }) c.self.view_is ∙ c.requires

pub returns-in-Ok-clause-given_same : goal.returns-in-Ok-clause-given_same
returns-in-Ok-clause-given_same c =
    (λ i. record { shards = (ap (λ l. stores_of (shows_of l)) c.in-Ok.ensures.given ∙ ap stores_of (given_shows c.args.who c.self.inside.seats.items) ∙ given_all_stores c.args.who (shows_of c.self.inside.seats.items)) i; ledger = (c.split-follower.ensures.given i).ledger })
    ∙ ap (λ v. record { shards = stores_of v.shards; ledger = v.ledger }) c.self.view_is ∙ c.requires

pub returns-then-room-le1-clause-no_pass : goal.returns-then-room-le1-clause-no_pass
returns-then-room-le1-clause-no_pass c = (λ e. one_left c.args.self.now.shards c.room.result c.room.ensures.range.0 c.room.ensures.some c.if-room-le1.true, λ one. refl)

pub returns-then-room-le1-clause-err : goal.returns-then-room-le1-clause-err
returns-then-room-le1-clause-err c = restored_all c.args.self.now.shards

pub returns-in-Ok-clause-no_pass : goal.returns-in-Ok-clause-no_pass
returns-in-Ok-clause-no_pass c = (λ e. absurd (cc), λ one. absurd (none_left c.args.self.now.shards c.room.result c.room.ensures.least c.if-room-le1.false one))

pub returns-in-Err-clause-no_pass : goal.returns-in-Err-clause-no_pass
returns-in-Err-clause-no_pass c = (
  λ e. let is : c.in-Err.fault ≡ NoPass = cc in subst (λ v. HasRoomOfOne v.shards) c.self.view_is (c.in-Err.ensures.no_pass (ap Err is)),
  λ one. absurd (none_left c.args.self.now.shards c.room.result c.room.ensures.least c.if-room-le1.false one),
)
