use Rattle.std.proofs.Common.{◌≡◌, map, length, ap, sym, subst, ◌∙◌}
use Rattle.std.proofs.lemmas.List.{length-map}
use mathlib.Core.List.{IsPrefix}
use Rattle.shared.specs.Passes.{seen_by}
use Rattle.sharded.specs.Passes.{AreAccepted, stores_of}
use Rattle.sharded.specs.Seats.{shows_of, pass_shows, seen_seat}
use Rattle.sharded.proofs.Passes.{accepted_stores}
use Rattle.sharded.proofs.Listings.{done_after}
use Rattle.sharded.proofs.Joins.{seat_stores_of, seen_shows, seen_receipt, accepted_shows, accepted_pass, same_many}
use Rattle.sharded.proofs.store.ShardedPass.learn.Goals as goal

pub learn_all-requires-clause-stores : goal.learn_all-requires-clause-stores
learn_all-requires-clause-stores c = seat_stores_of c.self.inside.seats.items ∙ ap (λ v. stores_of v.shards) c.self.view_is ∙ ap (λ s. s.shards) c.requires.store ∙ ap (λ s. s.shards) (sym c.store.view_is) ∙ sym c.deref.ensures.value

pub learn_all-requires-clause-others : goal.learn_all-requires-clause-others
learn_all-requires-clause-others c = seat_stores_of c.other.inside.seats.items ∙ ap (λ v. stores_of v.shards) c.other.view_is ∙ ap (λ s. s.shards) c.requires.other ∙ ap (λ s. s.shards) (sym c.store.view_is) ∙ sym c.deref.ensures.value

pub invariant_of-self : goal.invariant_of-self
invariant_of-self c =
    let e = c.accept.ensures in
    let given = c.receipt-receipt.ensures.given in
    let seats = c.self.inside.seats.items in
    let others = c.other.inside.seats.items in
    let many : length others ≡ length seats = same_many others seats (ap (λ v. stores_of v.shards) c.other.view_is ∙ ap (λ s. s.shards) c.requires.other ∙ ap (λ s. s.shards) (sym c.requires.store) ∙ ap (λ v. stores_of v.shards) (sym c.self.view_is)) in
    let ledger = ap (λ v. v.ledger) c.other.view_is ∙ ap (λ s. s.ledger) c.requires.other ∙ ap (λ s. s.ledger) (sym c.requires.store) ∙ ap (λ v. v.ledger) (sym c.self.view_is) in
    accepted_pass seats (map seen_seat others) c.learn_all.new.seats.items c.self.inside.follower c.accept.new.self c.receipt-receipt.result c.self.invariant
    (seen_receipt others c.other.inside.follower c.receipt-receipt.result c.other.invariant (ap (λ r. r.ledger) given) (ap (λ r. r.list) given))
    c.learn_all.ensures.taken (length-map others seen_seat ∙ many) e.unchanged (ap (λ r. r.ledger) given ∙ ledger) e.one e.seen.0 e.seen.1

pub returns-clause-accepted : goal.returns-clause-accepted
returns-clause-accepted c =
    let others = c.other.inside.seats.items in
    subst (λ v. AreAccepted v.shards (map seen_by c.args.other.now.shards) (shows_of c.learn_all.new.seats.items)) c.self.view_is
    (subst (λ rs. AreAccepted (shows_of c.self.inside.seats.items) rs (shows_of c.learn_all.new.seats.items)) (seen_shows others ∙ ap (λ v. map seen_by v.shards) c.other.view_is)
    (accepted_shows c.self.inside.seats.items (map seen_seat others) c.learn_all.new.seats.items c.learn_all.ensures.taken))

pub returns-clause-later : goal.returns-clause-later
returns-clause-later c = λ k deed w listed.
    done_after c.args.other.now.list (pass_shows c.learn_all.new.seats.items c.accept.new.self) w k deed
    (subst (λ l. IsPrefix l c.accept.new.self.list) (ap (λ r. r.list) c.receipt-receipt.ensures.given ∙ ap (λ v. v.list) c.other.view_is) c.accept.ensures.seen.1) listed

pub returns-clause-same : goal.returns-clause-same
returns-clause-same c =
    (λ i. record { shards = accepted_stores (shows_of c.self.inside.seats.items) (map seen_seat c.other.inside.seats.items) (shows_of c.learn_all.new.seats.items) (accepted_shows c.self.inside.seats.items (map seen_seat c.other.inside.seats.items) c.learn_all.new.seats.items c.learn_all.ensures.taken) i; ledger = (c.accept.ensures.unchanged i).ledger })
    ∙ ap (λ v. record { shards = stores_of v.shards; ledger = v.ledger }) c.self.view_is ∙ c.requires.store
