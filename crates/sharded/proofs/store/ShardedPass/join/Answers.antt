use Rattle.std.proofs.Common.{[], append-nil, ap, sym, subst, ◌∙◌}
use Rattle.sharded.specs.Passes.{AreJoined, stores_of}
use Rattle.sharded.specs.Seats.{shows_of}
use Rattle.sharded.proofs.Passes.{joined_stores}
use Rattle.sharded.proofs.Joins.{seat_stores_of, joined_shows, joined_pass, same_many}
use Rattle.sharded.proofs.store.ShardedPass.join.Goals as goal

pub join_all-requires-clause-stores : goal.join_all-requires-clause-stores
join_all-requires-clause-stores c = seat_stores_of c.self.inside.seats.items ∙ ap (λ v. stores_of v.shards) c.self.view_is ∙ ap (λ s. s.shards) c.requires.store ∙ ap (λ s. s.shards) (sym c.store.view_is) ∙ sym c.deref.ensures.value

pub join_all-requires-clause-others : goal.join_all-requires-clause-others
join_all-requires-clause-others c =
    ([], append-nil _ ∙ seat_stores_of c.other.inside.seats.items ∙ ap (λ v. stores_of v.shards) c.other.view_is ∙ ap (λ s. s.shards) c.requires.other ∙ ap (λ s. s.shards) (sym c.store.view_is) ∙ sym c.deref.ensures.value)

pub join-requires : goal.join-requires
join-requires c = record {
  ledger = (
    ap (λ v. v.ledger) c.self.view_is ∙ ap (λ s. s.ledger) c.requires.store ∙ ap (λ s. s.ledger) (sym c.store.view_is),
    ap (λ v. v.ledger) c.other.view_is ∙ ap (λ s. s.ledger) c.requires.other ∙ ap (λ s. s.ledger) (sym c.store.view_is),
  );
}

pub invariant_of-self : goal.invariant_of-self
invariant_of-self c =
    let e = c.join.ensures in
    joined_pass c.self.inside.seats.items c.other.inside.seats.items c.join_all.new.seats.items c.self.inside.follower c.other.inside.follower c.join.new.self c.self.invariant c.other.invariant c.join_all.ensures
    (same_many c.other.inside.seats.items c.self.inside.seats.items (ap (λ v. stores_of v.shards) c.other.view_is ∙ ap (λ s. s.shards) c.requires.other ∙ ap (λ s. s.shards) (sym c.requires.store) ∙ ap (λ v. stores_of v.shards) (sym c.self.view_is)))
    e.unchanged.0 e.unchanged.1 (ap (λ v. v.ledger) c.other.view_is ∙ ap (λ s. s.ledger) c.requires.other ∙ ap (λ s. s.ledger) (sym c.requires.store) ∙ ap (λ v. v.ledger) (sym c.self.view_is)) e.one e.seen.0 e.seen.1

pub returns-clause-joined : goal.returns-clause-joined
returns-clause-joined c =
    subst (λ v. AreJoined v.shards c.args.other.shards (shows_of c.join_all.new.seats.items)) c.self.view_is
    (subst (λ o. AreJoined (shows_of c.self.inside.seats.items) o.shards (shows_of c.join_all.new.seats.items)) c.other.view_is (joined_shows c.self.inside.seats.items c.other.inside.seats.items c.join_all.new.seats.items c.join_all.ensures))

pub returns-clause-same : goal.returns-clause-same
returns-clause-same c =
    (λ i. record { shards = joined_stores (shows_of c.self.inside.seats.items) (shows_of c.other.inside.seats.items) (shows_of c.join_all.new.seats.items) (joined_shows c.self.inside.seats.items c.other.inside.seats.items c.join_all.new.seats.items c.join_all.ensures) i; ledger = c.join.ensures.unchanged.0 i })
    ∙ ap (λ v. record { shards = stores_of v.shards; ledger = v.ledger }) c.self.view_is ∙ c.requires.store
