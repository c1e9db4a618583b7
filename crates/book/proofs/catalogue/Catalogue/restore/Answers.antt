use Rattle.std.proofs.Common.{IfOk, subst}
use Rattle.history.specs.Views.{restore_reply}
use Rattle.book.specs.Losing.{Restores, Catalogue, Replaces}
use Rattle.book.specs.Notes.{note_of}
use Rattle.book.proofs.catalogue.Catalogue.restore.Goals as goal

pub returns-clause-ok : goal.returns-clause-ok
returns-clause-ok c =
    let P : Catalogue → Type 0 = λ old. IfOk c.restore_in-answer.result (λ a. Replaces (λ w x. restore_reply w x c.args.version c.args.stripe c.args.fragment) (Restores c.args.version c.args.stripe c.args.fragment c.args.bytes (note_of a)) old c.restore_in-answer.new.catalogue.entries c.args.name.now (note_of a)) in
    subst P c.self.view_is c.restore_in-answer.ensures.ok
