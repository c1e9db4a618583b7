use Rattle.std.proofs.Common.{◌≡◌, ap, subst, Option}
use Rattle.sealed.specs.declared.value.Sealed.{Sealed}
use Rattle.book.specs.Asked.{IsReadAnswer}
use Rattle.book.specs.Contents.{Contents}
use Rattle.book.proofs.Reading.{carries_read}
use Rattle.book.proofs.book.Book.read.Goals as goal

pub returns-clause-ok : goal.returns-clause-ok
returns-clause-ok c =
    let P : Option Sealed → Type 0 = λ found. IsReadAnswer found c.args.start c.args.len c.in_ok-answer.answer in
    let entries : c.self.inside.log.entries ≡ c.args.self.now.entries = ap (λ (s : Contents). s.entries) c.self.view_is in
    rw c.note_call.ensures.answer (
    carries_read c.args.self.now _ c.args.who c.args.name c.args.start c.args.len c.in_ok-answer.answer
    (subst P c.find.ensures c.in_ok-answer.ensures.ok)
    (ap (λ (s : Contents). s.width) c.self.view_is)
    (ap (λ (s : Contents). s.base) c.self.view_is)
    (ap (λ (s : Contents). s.catalogue) c.self.view_is)
    (ap (λ (s : Contents). s.truth) c.self.view_is)
    (cc))
