use Rattle.std.proofs.Common.{◌≡◌, ℕ, ◌+◌, ◌<◌, Some, length, ap, sym, subst, ◌∙◌, arith, rules}
use Rattle.gate.specs.Places.{TableId, times, last_of, HasAll}
use Rattle.ledger.specs.Values.{KeepsAll}
use Rattle.ledger_map.specs.Books.{between_books}
use Rattle.book.specs.Contents.{Contents}
use Rattle.book.specs.Holds.{HoldsHistory}
use Rattle.ledger.specs.Acts.{acts_at}
use Rattle.shared.specs.Passes.{IsConsistent}
use Rattle.shared.proofs.Passes.{closed, closed_count, closed_acts, closed_acts_count, closed_entries, closed_told, trimmed_is, agreed}
use Rattle.shard.specs.Seats.{books_in, plain}
use Rattle.shard.proofs.Visits.{plain_all, plain_acts, plain_length, kept_at}
use Rattle.shard.proofs.Joining.{last_is}
use Rattle.shard.proofs.shard.Shard.take_book.Goals.{After-take_value-book}
use Rattle.shard.proofs.shard.Shard.take_book.Goals as goal

pub take_value-book-requires-clause-within : goal.take_value-book-requires-clause-within
take_value-book-requires-clause-within c p past = c.seat.invariant.pass.within p (omega (arith, past, plain_length c.seat.inside.seat.list))

-- the seat had seen the book that is taken, and left all values
own : (c : After-take_value-book) → (last_of (plain c.seat.inside.seat).list ≡ Some c.take_value-book.result.0) × HasAll (plain c.seat.inside.seat).list (plain c.seat.inside.seat).own
own c =
    let e = c.take_value-book.ensures in
    (last_is c.seat.inside.seat.list c.seat.invariant.kept.keeps.0 c.take_value-book.result c.seat.invariant.kept.keeps.1 e.last, plain_all c.seat.inside.seat.list c.seat.inside.seat.own e.own)

pub returns-clause-made : goal.returns-clause-made
returns-clause-made c =
    subst (λ t. (k : ℕ) → k < length t.shows.seen → times k t.shows.made ≡ 1) c.seat.view_is (closed (plain c.seat.inside.seat) (own (goal.at.returns-clause-made c).After-take_value-book).1)

pub returns-clause-count : goal.returns-clause-count
returns-clause-count c = subst (λ t. length t.shows.made ≡ length t.shows.seen) c.seat.view_is (closed_count (plain c.seat.inside.seat) (own (goal.at.returns-clause-count c).After-take_value-book).1)

pub returns-clause-entries : goal.returns-clause-entries
returns-clause-entries c =
    let all = own (goal.at.returns-clause-entries c).After-take_value-book in
    let Q : Contents → Type 0 = λ book. book.base.trimmed + length book.entries ≡ length c.args.seat.shows.made in
    subst Q (sym c.into_inner.ensures) (subst (λ t. c.take_value-book.result.0.0.value.base.trimmed + length c.take_value-book.result.0.0.value.entries ≡ length t.shows.made) c.seat.view_is
    (closed_entries (plain c.seat.inside.seat) c.take_value-book.result.0 c.seat.invariant.pass all.0 all.1))

pub returns-clause-trimmed : goal.returns-clause-trimmed
returns-clause-trimmed c =
    let Q : Contents → Type 0 = λ book. book.base.trimmed ≡ c.args.seat.shows.trimmed in
    subst Q (sym c.into_inner.ensures) (subst (λ t. c.take_value-book.result.0.0.value.base.trimmed ≡ t.shows.trimmed) c.seat.view_is
    (sym (trimmed_is (books_in c.seat.inside.seat.list) c.take_value-book.result.0 (own (goal.at.returns-clause-trimmed c).After-take_value-book).0)))

pub returns-clause-did : goal.returns-clause-did
returns-clause-did c =
    subst (λ t. (k : ℕ) → k < length t.shows.acts → times k t.shows.did ≡ 1) c.seat.view_is (closed_acts (plain c.seat.inside.seat) (own (goal.at.returns-clause-did c).After-take_value-book).1)

pub returns-clause-did_count : goal.returns-clause-did_count
returns-clause-did_count c = subst (λ t. length t.shows.did ≡ length t.shows.acts) c.seat.view_is (closed_acts_count (plain c.seat.inside.seat) (own (goal.at.returns-clause-did_count c).After-take_value-book).1)

pub returns-clause-agrees : goal.returns-clause-agrees
returns-clause-agrees c = subst (λ t. IsConsistent t.shows) c.seat.view_is (agreed (plain c.seat.inside.seat) c.seat.inside.who c.seat.invariant.pass)

pub returns-clause-holds : goal.returns-clause-holds
returns-clause-holds c =
    let all = own (goal.at.returns-clause-holds c).After-take_value-book in
    let Q : Contents → Type 0 = λ book. HoldsHistory book c.args.seat.shows.seen in
    subst Q (sym c.into_inner.ensures) (subst (λ t. HoldsHistory c.take_value-book.result.0.0.value t.shows.seen) c.seat.view_is (closed_told (plain c.seat.inside.seat) c.take_value-book.result.0 c.seat.invariant.pass all.0).holds.holds)

pub returns-clause-unchanged : goal.returns-clause-unchanged
returns-clause-unchanged c =
    let all = own (goal.at.returns-clause-unchanged c).After-take_value-book in
    let is = closed_told (plain c.seat.inside.seat) c.take_value-book.result.0 c.seat.invariant.pass all.0 in
    search rules

pub returns-clause-acts : goal.returns-clause-acts
returns-clause-acts c =
    let kept = c.seat.invariant.kept in
    let places = kept_at c.seat.inside.seat.list kept in
    let id = by_some (sym places.0 ∙ ap (λ t. t.ledger) c.seat.view_is ∙ c.requires.at.ledger_is) in
    let shard = sym places.1 ∙ ap (λ t. t.shard) c.seat.view_is in
    (λ i. acts_at (sym shard i) (sym (ap (λ f. f.list) (c.take_value-book.ensures.all c.requires.ledger.1).0) i))
    ∙ c.take_value-book.ensures.acts kept.shard (subst (λ t. KeepsAll between_books t kept.shard c.seat.inside.seat.list) id kept.keeps)
    ∙ plain_acts c.seat.inside.seat.list ∙ ap (λ t. t.shows.acts) c.seat.view_is
  where
    by_some : {a b : TableId} → Some a ≡ Some b → a ≡ b
    by_some f = cc (f)
