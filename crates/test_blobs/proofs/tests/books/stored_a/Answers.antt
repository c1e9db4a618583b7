use Rattle.std.proofs.Common.{◌≡◌, ◌∙◌, ◌∷◌, [], ℕ, List, refl, sym, ap, subst, arith}
use Rattle.lrc_code.specs.declared.Code.TheVariants.{Wide}
use Rattle.history.specs.declared.note.Note.{Note}
use Rattle.history.specs.declared.note.Note.TheVariants.{Stored}
use Rattle.history.specs.History.{Event, History}
use Rattle.history.specs.Step.{put}
use Rattle.book.specs.Known.{IsFragmentIn}
use Rattle.test_blobs.proofs.tests.books.stored_a.Goals as goal

abbrev letters : List ℕ
letters = 65 ∷ 66 ∷ 67 ∷ 68 ∷ 69 ∷ 70 ∷ 71 ∷ 72 ∷ 73 ∷ 74 ∷ 75 ∷ 76 ∷ []

abbrev event : List ℕ → Note → Event
event name note = record { who = 1; operation = put name Wide letters; note = note }

first_of : (name : List ℕ) (note : Note) → note ≡ Stored 1 → IsFragmentIn (event name note ∷ []) 1 name 1 0 0 (65 ∷ [])
first_of name note is =
    record {
      code = Wide;
      bytes = letters;
      put = record { who = 1; before = []; later = []; whole = ap (λ (n : Note). event name n ∷ []) is };
      stripe = omega arith;
      number = omega arith;
      is = refl;
    }

pub returns : goal.returns
returns g c =
    let name = c.beginning-book.result.1 in
    let one : c.in-Stored-eq1.field-0 ≡ 1 = omega (arith, c.in-Stored-eq1.field-0-test, c.in-Stored-eq1.field-0-is) in
    let h : History = event name c.store.result ∷ [] in (
      h,
      c.store.ensures.holds [] c.beginning-book.ensures.holds,
      subst (λ w. IsFragmentIn h w name 1 0 0 (65 ∷ [])) (sym (c.store.ensures.width ∙ c.beginning-book.ensures.width)) (first_of name c.store.result (c.in-Stored-eq1.is ∙ ap Stored one)),
    )
