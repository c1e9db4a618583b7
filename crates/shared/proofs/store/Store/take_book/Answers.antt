use Rattle.std.proofs.Common.{◌≡◌, ℕ, ◌+◌, ◌<◌, Some, length, sym, subst, rules}
use Rattle.gate.specs.Places.{times, last_of, HasAll}
use Rattle.book.specs.Contents.{Contents}
use Rattle.book.specs.Holds.{HoldsHistory}
use Rattle.shared.specs.Passes.{IsConsistent}
use Rattle.shared.proofs.Passes.{closed, closed_count, closed_acts, closed_acts_count, closed_entries, closed_told, trimmed_is, agreed}
use Rattle.shared.proofs.Steps.{taken}
use Rattle.shared.proofs.store.Store.take_book.Goals.{After-take-book}
use Rattle.shared.proofs.store.Store.take_book.Goals as goal

-- the seat had seen the book that it takes, and left all values
own : (c : After-take-book) → (last_of c.pass.inside.seat.list ≡ Some c.take-book.result) × HasAll c.pass.inside.seat.list c.pass.inside.seat.own
own c =
    let e = c.take-book.ensures.last in
    taken c.pass.inside.seat c.take-book.result e.0 c.pass.invariant e.1 e.2 e.3

pub returns-clause-made : goal.returns-clause-made
returns-clause-made c =
    subst (λ v. (k : ℕ) → k < length v.seen → times k v.made ≡ 1) c.pass.view_is (closed c.pass.inside.seat (own (goal.at.returns-clause-made c).After-take-book).1)

pub returns-clause-count : goal.returns-clause-count
returns-clause-count c = subst (λ v. length v.made ≡ length v.seen) c.pass.view_is (closed_count c.pass.inside.seat (own (goal.at.returns-clause-count c).After-take-book).1)

pub returns-clause-entries : goal.returns-clause-entries
returns-clause-entries c =
    let all = own (goal.at.returns-clause-entries c).After-take-book in
    let Q : Contents → Type 0 = λ book. book.base.trimmed + length book.entries ≡ length c.args.pass.made in
    subst Q (sym c.into_inner.ensures) (subst (λ v. c.take-book.result.0.value.base.trimmed + length c.take-book.result.0.value.entries ≡ length v.made) c.pass.view_is
    (closed_entries c.pass.inside.seat c.take-book.result c.pass.invariant all.0 all.1))

pub returns-clause-trimmed : goal.returns-clause-trimmed
returns-clause-trimmed c =
    let Q : Contents → Type 0 = λ book. book.base.trimmed ≡ c.args.pass.trimmed in
    subst Q (sym c.into_inner.ensures) (subst (λ v. c.take-book.result.0.value.base.trimmed ≡ v.trimmed) c.pass.view_is
    (sym (trimmed_is c.pass.inside.seat.list c.take-book.result (own (goal.at.returns-clause-trimmed c).After-take-book).0)))

pub returns-clause-did : goal.returns-clause-did
returns-clause-did c =
    subst (λ v. (k : ℕ) → k < length v.acts → times k v.did ≡ 1) c.pass.view_is (closed_acts c.pass.inside.seat (own (goal.at.returns-clause-did c).After-take-book).1)

pub returns-clause-did_count : goal.returns-clause-did_count
returns-clause-did_count c = subst (λ v. length v.did ≡ length v.acts) c.pass.view_is (closed_acts_count c.pass.inside.seat (own (goal.at.returns-clause-did_count c).After-take-book).1)

pub returns-clause-agrees : goal.returns-clause-agrees
returns-clause-agrees c = subst IsConsistent c.pass.view_is (agreed c.pass.inside.seat c.pass.inside.who c.pass.invariant)

pub returns-clause-holds : goal.returns-clause-holds
returns-clause-holds c =
    let all = own (goal.at.returns-clause-holds c).After-take-book in
    let Q : Contents → Type 0 = λ book. HoldsHistory book c.args.pass.seen in
    subst Q (sym c.into_inner.ensures) (subst (λ v. HoldsHistory c.take-book.result.0.value v.seen) c.pass.view_is (closed_told c.pass.inside.seat c.take-book.result c.pass.invariant all.0).holds.holds)

pub returns-clause-unchanged : goal.returns-clause-unchanged
returns-clause-unchanged c =
    let all = own (goal.at.returns-clause-unchanged c).After-take-book in
    let is = closed_told c.pass.inside.seat c.take-book.result c.pass.invariant all.0 in
    search rules
