use Rattle.std.proofs.Common.{◌≡◌, ap, subst, ◌∙◌}
use mathlib.Core.List.{IsPrefix}
use Rattle.gate.specs.Places.{SeatState, HasAll}
use Rattle.requests.specs.declared.boxed_book.BoxedBook.{BoxedBook}
use Rattle.shared.specs.Passes.{ReceiptShows, shows, acts_of, seen_of}
use Rattle.shared.proofs.Passes.{agreed, told_acts, told_seen, accepted_kept, accepted_same}
use Rattle.shared.proofs.Steps.{no_longer, takes_after}
use Rattle.shard.specs.Seats.{books_in, plain, plain_receipt}
use Rattle.shard.proofs.Visits.{plain_prefix, plain_all}
use Rattle.shard.proofs.Joining.{accepted_seat, one_received, kept_same}
use Rattle.shard.proofs.seat.ShardSeat.accept.Goals.{After-accept}
use Rattle.shard.proofs.seat.ShardSeat.accept.Goals as goal

pub invariant_of-self : goal.invariant_of-self
invariant_of-self c =
    let e = c.accept.ensures in
    accepted_seat c.self.inside.seat c.accept.new.self c.receipt.inside.receipt c.self.invariant c.receipt.invariant e.unchanged e.seen.0 e.one

pub returns-clause-same : goal.returns-clause-same
returns-clause-same c =
    let e = c.accept.ensures in
    let same = kept_same c.self.inside.seat.list c.accept.new.self.list c.self.invariant.kept (one_received c.self.inside.seat c.receipt.inside.receipt c.accept.new.self c.self.invariant c.receipt.invariant e.one) e.seen.0 in
    (same.0 ∙ ap (λ t. t.ledger) c.self.view_is, same.1 ∙ ap (λ t. t.shard) c.self.view_is)

pub returns-clause-unchanged : goal.returns-clause-unchanged
returns-clause-unchanged c =
    let e = c.accept.ensures in
    let now = shows (plain c.accept.new.self) c.self.inside.who in
    subst (λ t. now ≡ record t.shows { seen = now.seen; trimmed = now.trimmed; acts = now.acts; seen_visits = now.seen_visits }) c.self.view_is
    (accepted_kept (plain c.self.inside.seat) (plain c.accept.new.self) (plain_receipt c.receipt.inside.receipt) c.self.invariant.pass c.receipt.invariant.holds (ap plain e.unchanged) (plain_prefix c.self.inside.seat.list c.accept.new.self.list e.seen.0) c.self.inside.who)

pub returns-clause-seen : goal.returns-clause-seen
returns-clause-seen c =
    let e = c.accept.ensures in
    let list = books_in c.accept.new.self.list in (
      subst (λ t. IsPrefix t.shows.seen (seen_of list)) c.self.view_is (told_seen (books_in c.self.inside.seat.list) list c.self.invariant.pass.holds (plain_prefix c.self.inside.seat.list c.accept.new.self.list e.seen.0)),
      subst (λ (v : ReceiptShows). IsPrefix v.seen (seen_of list)) c.receipt.view_is (told_seen (books_in c.receipt.inside.receipt.list) list c.receipt.invariant.holds (plain_prefix c.receipt.inside.receipt.list c.accept.new.self.list e.seen.1)),
    )

-- the seat shows the acts of the receipt
heard : (c : After-accept) → IsPrefix c.args.receipt.acts (acts_of (books_in c.accept.new.self.list))
heard c =
    let list = books_in c.accept.new.self.list in
    subst (λ (v : ReceiptShows). IsPrefix v.acts (acts_of list)) c.receipt.view_is (told_acts (books_in c.receipt.inside.receipt.list) list c.receipt.invariant.holds (plain_prefix c.receipt.inside.receipt.list c.accept.new.self.list c.accept.ensures.seen.1))

pub returns-clause-acts : goal.returns-clause-acts
returns-clause-acts c =
    let list = books_in c.accept.new.self.list in (
      subst (λ t. IsPrefix t.shows.acts (acts_of list)) c.self.view_is (told_acts (books_in c.self.inside.seat.list) list c.self.invariant.pass.holds (plain_prefix c.self.inside.seat.list c.accept.new.self.list c.accept.ensures.seen.0)),
      heard (goal.at.returns-clause-acts c).After-accept,
    )

pub returns-clause-later : goal.returns-clause-later
returns-clause-later c = λ deed w takes. takes_after c.args.receipt.acts (shows (plain c.accept.new.self) c.self.inside.who) w deed (heard (goal.at.returns-clause-later c).After-accept) takes

pub returns-clause-lone : goal.returns-clause-lone
returns-clause-lone c = λ all.
    let e = c.accept.ensures in
    let own = plain c.self.inside.seat in
    let now = plain c.accept.new.self in
    let last = c.self.invariant.pass.holds in
    let first = plain_prefix c.self.inside.seat.list c.accept.new.self.list e.seen.0 in
    let has : HasAll now.list own.own = subst (HasAll now.list) (ap (λ (p : SeatState BoxedBook). p.own) (ap plain e.unchanged)) (plain_all c.accept.new.self.list c.accept.new.self.own (e.lone (ap (λ t. t.shows.room) c.self.view_is ∙ all))) in
    accepted_same own now (plain_receipt c.receipt.inside.receipt) c.self.invariant.pass c.receipt.invariant.holds (ap plain e.unchanged) first c.self.inside.who
    (no_longer own.list first.0 now.list last.0 own.own last.1 first.1 c.self.invariant.pass.within has)
    ∙ ap (λ t. t.shows) c.self.view_is

pub returns-clause-agrees : goal.returns-clause-agrees
returns-clause-agrees c =
    let e = c.accept.ensures in
    agreed (plain c.accept.new.self) c.self.inside.who (accepted_seat c.self.inside.seat c.accept.new.self c.receipt.inside.receipt c.self.invariant c.receipt.invariant e.unchanged e.seen.0 e.one).pass
