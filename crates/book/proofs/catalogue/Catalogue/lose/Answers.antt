use Rattle.std.proofs.Common.{IfOk, subst}
use Rattle.history.specs.Views.{lose_reply}
use Rattle.book.specs.Losing.{Loses, Catalogue, Replaces}
use Rattle.book.specs.Notes.{note_of}
use Rattle.book.proofs.catalogue.Catalogue.lose.Goals as goal

pub returns-clause-ok : goal.returns-clause-ok
returns-clause-ok c =
    let P : Catalogue → Type 0 = λ old. IfOk c.lose_in-answer.result (λ a. Replaces (λ w x. lose_reply w x c.args.stripe c.args.fragment) (Loses c.args.stripe c.args.fragment (note_of a)) old c.lose_in-answer.new.catalogue.entries c.args.name.now (note_of a)) in
    subst P c.self.view_is c.lose_in-answer.ensures.ok
