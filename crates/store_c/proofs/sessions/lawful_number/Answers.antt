use Rattle.std.proofs.Common.{rules, sym, subst, ◌∙◌}
use Rattle.std.proofs.lemmas.Bool.{false≢true}
use Rattle.history.specs.Lawful.{IsLawfulFrom}
use Rattle.history.proofs.Kept.{all_kept}
use Rattle.book.specs.Contents.{journal_of}
use Rattle.book.proofs.Carrying.{told_is_lawful}
use Rattle.store_c.proofs.sessions.lawful_number.Goals as goal

pub returns-in-Ok-false : goal.returns-in-Ok-false
returns-in-Ok-false c =
    let book = c.args.book.now in
    let law : IsLawfulFrom book.base book.width (journal_of book) = subst (IsLawfulFrom book.base book.width) (sym (all_kept book.limit book.entries (c.limit.ensures.variant.0 (search rules)))) (told_is_lawful book c.requires.0 c.requires.1) in
    absurd (false≢true (sym c.in-Ok-false.field-0-test ∙ c.in-Ok-false.ensures.1 (rw (c.base.ensures, c.width.ensures, c.entries.ensures.value) law)))
