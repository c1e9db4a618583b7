use Rattle.std.proofs.Common.{ap, sym, subst, ◌∙◌}
use mathlib.Core.List.{IsPrefix}
use Rattle.sharded.specs.Passes.{AreAccepted, stores_of, receipt_stores}
use Rattle.sharded.specs.Seats.{shows_of, pass_shows}
use Rattle.sharded.proofs.Passes.{accepted_stores}
use Rattle.sharded.proofs.Listings.{done_after}
use Rattle.sharded.proofs.Joins.{seat_stores_of, accepted_shows, accepted_pass, receipts_many}
use Rattle.sharded.proofs.store.ShardedPass.accept.Goals as goal

pub accept_all-requires-clause-stores : goal.accept_all-requires-clause-stores
accept_all-requires-clause-stores c = seat_stores_of c.self.inside.seats.items ∙ ap (λ v. stores_of v.shards) c.self.view_is ∙ ap (λ s. s.shards) c.requires.store ∙ ap (λ s. s.shards) (sym c.store.view_is) ∙ sym c.deref.ensures.value

pub accept_all-requires-clause-receipts : goal.accept_all-requires-clause-receipts
accept_all-requires-clause-receipts c = ap (λ r. receipt_stores r.shards) c.receipt.view_is ∙ ap (λ s. s.shards) c.requires.receipt ∙ ap (λ s. s.shards) (sym c.store.view_is) ∙ sym c.deref.ensures.value

pub accept-requires : goal.accept-requires
accept-requires c = record {
  ledger = (
    ap (λ v. v.ledger) c.self.view_is ∙ ap (λ s. s.ledger) c.requires.store ∙ ap (λ s. s.ledger) (sym c.store.view_is),
    ap (λ r. r.ledger) c.receipt.view_is ∙ ap (λ s. s.ledger) c.requires.receipt ∙ ap (λ s. s.ledger) (sym c.store.view_is),
  );
}

pub invariant_of-self : goal.invariant_of-self
invariant_of-self c =
    let e = c.accept.ensures in
    accepted_pass c.self.inside.seats.items c.receipt.inside.receipts.items c.accept_all.new.seats.items c.self.inside.follower c.accept.new.self c.receipt.inside.receipt c.self.invariant c.receipt.invariant c.accept_all.ensures
    (receipts_many c.receipt.inside.receipts.items c.self.inside.seats.items (ap (λ r. receipt_stores r.shards) c.receipt.view_is ∙ ap (λ s. s.shards) c.requires.receipt ∙ ap (λ s. s.shards) (sym c.requires.store) ∙ ap (λ v. stores_of v.shards) (sym c.self.view_is)))
    e.unchanged (ap (λ r. r.ledger) c.receipt.view_is ∙ ap (λ s. s.ledger) c.requires.receipt ∙ ap (λ s. s.ledger) (sym c.requires.store) ∙ ap (λ v. v.ledger) (sym c.self.view_is)) e.one e.seen.0 e.seen.1

pub returns-clause-accepted : goal.returns-clause-accepted
returns-clause-accepted c =
    subst (λ v. AreAccepted v.shards c.args.receipt.shards (shows_of c.accept_all.new.seats.items)) c.self.view_is
    (subst (λ r. AreAccepted (shows_of c.self.inside.seats.items) r.shards (shows_of c.accept_all.new.seats.items)) c.receipt.view_is (accepted_shows c.self.inside.seats.items c.receipt.inside.receipts.items c.accept_all.new.seats.items c.accept_all.ensures))

pub returns-clause-later : goal.returns-clause-later
returns-clause-later c = λ k deed w listed.
    done_after c.args.receipt.list (pass_shows c.accept_all.new.seats.items c.accept.new.self) w k deed
    (subst (λ r. IsPrefix r.list c.accept.new.self.list) c.receipt.view_is c.accept.ensures.seen.1) listed

pub returns-clause-same : goal.returns-clause-same
returns-clause-same c =
    (λ i. record { shards = accepted_stores (shows_of c.self.inside.seats.items) c.receipt.inside.receipts.items (shows_of c.accept_all.new.seats.items) (accepted_shows c.self.inside.seats.items c.receipt.inside.receipts.items c.accept_all.new.seats.items c.accept_all.ensures) i; ledger = (c.accept.ensures.unchanged i).ledger })
    ∙ ap (λ v. record { shards = stores_of v.shards; ledger = v.ledger }) c.self.view_is ∙ c.requires.store
