use Rattle.std.proofs.Common.{◌≡◌, ap, sym, subst, Option, None, Some, length}
use Rattle.std.specs.Prelude.{IfSome}
use Rattle.sealed.specs.declared.value.Sealed.{Sealed}
use Rattle.book.specs.Contents.{Contents, sealed_at}
use Rattle.book.specs.Known.{IsGiven}
use Rattle.book.specs.Losing.{Restores, Catalogue, Replaces, value_at}
use Rattle.book.specs.Notes.{note_of}
use Rattle.history.specs.Views.{restore_reply}
use Rattle.book.proofs.Known.{known_given, given_long}
use Rattle.book.proofs.Losing.{carries_restore}
use Rattle.book.proofs.book.Book.restore.Goals as goal

pub returns-clause-ok : goal.returns-clause-ok
returns-clause-ok c =
    let entries : c.self.inside.log.entries ≡ c.args.self.now.entries = ap (λ (s : Contents). s.entries) c.self.view_is in
    let P : Catalogue → Type 0 = λ old. Replaces (λ w x. restore_reply w x c.args.version c.args.stripe c.args.fragment) (Restores c.args.version c.args.stripe c.args.fragment c.args.bytes (note_of c.in_ok-answer.answer)) old c.restore.new.self c.args.name (note_of c.in_ok-answer.answer) in
    rw c.note_call.ensures.answer (
    carries_restore c.args.self.now _ c.args.who c.args.name c.args.version c.args.stripe c.args.fragment c.args.bytes c.in_ok-answer.answer
    (known_given c.args.self.now c.requires.known.0 c.args.name c.args.version c.args.stripe c.args.fragment c.args.bytes c.requires.known.1 c.requires.known.2)
    (subst P (ap (λ (s : Contents). s.catalogue) c.self.view_is) c.in_ok-answer.ensures.ok)
    (ap (λ (s : Contents). s.width) c.self.view_is)
    (ap (λ (s : Contents). s.base) c.self.view_is)
    (ap (λ (s : Contents). s.truth) c.self.view_is)
    (cc))

pub restore-requires : goal.restore-requires
restore-requires c =
    let P : Catalogue → Type 0 = λ x. IfSome (value_at x c.args.name) (λ s. length c.args.bytes ≡ s.width) in
    subst P (ap (λ (s : Contents). s.catalogue) (sym c.self.view_is))
    (given_long (sealed_at c.args.self.now c.args.name) _ c.args.version c.args.stripe c.args.fragment c.args.bytes
    (known_given c.args.self.now c.requires.known.0 c.args.name c.args.version c.args.stripe c.args.fragment c.args.bytes c.requires.known.1 c.requires.known.2))
