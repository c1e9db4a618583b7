use Rattle.std.proofs.Common.{◌≡◌, ℕ, List, map, take, sym, ap, ◌∙◌, subst}
use Rattle.std.specs.Prelude.{IfOk}
use Rattle.history.specs.Parts.{changes_of}
use Rattle.history.specs.Stretch.{Stretch}
use Rattle.history.specs.declared.note.Entry.{Entry}
use Rattle.history.proofs.Changing.{changes_before}
use Rattle.history.proofs.journal.Journal.changes.Goals as goal

pub returns : goal.returns
returns c =
    let n : ℕ = c.args.n in
    let first : ℕ = c.min.result in
    let journal = c.self.inside in
    let found = c.entries.ensures.value ∙ sym (ap (λ (s : Stretch). s.entries) c.self.view_is) in
    let same = ap (λ (es : List Entry). changes_of (take first es)) found
    ∙ changes_before n journal.changing first journal.window.entries c.min.ensures c.self.invariant
    ∙ ap (λ (s : Stretch). changes_of (take n s.entries)) c.self.view_is in
    subst (λ (all : List Entry). IfOk c.changes_in.result (λ changes. map (λ e. e.now) changes.items ≡ all)) same c.changes_in.ensures
