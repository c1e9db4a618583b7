-- A call on the value of a name writes the new value over the old one in the catalogue.
use Rattle.std.proofs.Common.{◌≡◌, ℕ, Bool, true, false, List, [], ◌∷◌, Option, None, Some, Result, Ok, Err, IfOk, OnErr, IsSome, cond, rules, refl, sym, ap, ◌∙◌, subst}
use Rattle.std.specs.BTreeMap.{is_at}
use Rattle.std.specs.Map.{lookup, set_value}
use Rattle.sealed.specs.declared.fault.Fault.{Fault}
use Rattle.sealed.specs.declared.value.Sealed.{Sealed}
use Rattle.history.specs.declared.note.Note.{Note}
use Rattle.history.specs.Names.{name_cmp}
use Rattle.history.specs.Views.{View}
use Rattle.book.specs.declared.answer.Answer.{Answer}
use Rattle.book.specs.Lacking.{reply_for}
use Rattle.book.specs.Losing.{Catalogue, value_at, Replaces}
use Rattle.book.specs.Notes.{note_of}

-- a value that is written over itself leaves the catalogue as it is
written_over : (b : Bool) (e : List ℕ × Sealed) (rest again : Catalogue) (s : Sealed) (later : Option Sealed) → cond b (Some e.1) later ≡ Some s → (later ≡ Some s → again ≡ rest) → cond b ((e.0, s) ∷ rest) (e ∷ again) ≡ e ∷ rest
written_over true e rest again s later is same = let value : e.1 ≡ s = let some : Some e.1 ≡ Some s = is in cc in λ i. (e.0, sym value i) ∷ rest
written_over false e rest again s later is same = ap (λ (es : Catalogue). e ∷ es) (same is)

same_value : (test : List ℕ → Bool) (es : Catalogue) (s : Sealed) → lookup test es ≡ Some s → set_value test es s ≡ es
same_value test [] s is = refl
same_value test (e ∷ es) s is = written_over (test e.0) e es (set_value test es s) s (lookup test es) is (same_value test es s)

pub is_some_at : (found : Option Sealed) (s : Sealed) → Some s ≡ found → IsSome found
is_some_at found s e = search rules

-- the name n had the value s, and a call with this result made t of it
module _ (old new : Catalogue) (n : List ℕ) (s t : Sealed) (here : Some s ≡ value_at old n) where
  replaced_by : (reply : ℕ → Option View → Note) (Becomes : Sealed → Sealed → Type 0) (m : Note) → m ≡ reply_for reply (Some s) → Becomes s t
      → ((q : List ℕ) → value_at new q ≡ cond (is_at (name_cmp n) q) (Some t) (value_at old q)) → Replaces reply Becomes old new n m
  replaced_by reply Becomes m is becomes updates =
      record {
        note_is = is ∙ ap (reply_for reply) here;
        absent = λ none. absurd (let no : Some s ≡ None = here ∙ none in cc);
        present = λ other there. (t, (let same : Some s ≡ Some other = here ∙ there in let P : Sealed → Type 0 = λ v. Becomes v t in subst P (let value : s ≡ other = cc in value) becomes), updates);
      }

  pub replaced_on_ok : (r : Result Answer Fault) (reply : ℕ → Option View → Note) (Becomes : Note → Sealed → Sealed → Type 0)
      → (IsSome (value_at old n) → (q : List ℕ) → value_at new q ≡ cond (is_at (name_cmp n) q) (Some t) (value_at old q))
      → IfOk r (λ a. note_of a ≡ reply_for reply (Some s)) → IfOk r (λ a. Becomes (note_of a) s t) → IfOk r (λ a. Replaces reply (Becomes (note_of a)) old new n (note_of a))
  replaced_on_ok (Ok a) reply Becomes updates is becomes = replaced_by reply (Becomes (note_of a)) (note_of a) is becomes (updates (is_some_at (value_at old n) s here))
  replaced_on_ok (Err e) reply Becomes updates is becomes = tt

  pub unchanged_on_err : (r : Result Answer Fault) → new ≡ set_value (is_at (name_cmp n)) old t → OnErr r (t ≡ s) → OnErr r (new ≡ old)
  unchanged_on_err (Ok a) written same = tt
  unchanged_on_err (Err e) written same = written ∙ ap (set_value (is_at (name_cmp n)) old) same ∙ same_value (is_at (name_cmp n)) old s (sym here)
