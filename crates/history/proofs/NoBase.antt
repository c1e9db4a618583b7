-- The state after the calls is no base for them: there the pair is lost already, and no loss of it can be noted.
use Rattle.std.proofs.Common.{◌≡◌, ℕ, Bool, true, false, List, [], ◌∷◌, map, Option, Some, refl, sym, ap, ◌∙◌, subst}
use Rattle.std.specs.Prelude.{MatchBool}
use Rattle.std.specs.List.{list_any}
use Rattle.std.specs.FinMap as finite
use Rattle.std.specs.Ordering.{eq_by_cmp}
use Rattle.std.proofs.lemmas.Bool.{false≢true}
use Rattle.lrc_code.specs.declared.Code.TheVariants.{Wide}
use Rattle.sealed.specs.Blob.{Lost, pair_cmp, lost_in}
use Rattle.history.specs.Names.{name_cmp}
use Rattle.history.specs.State.{State, Blob}
use Rattle.history.specs.Step.{Operation, put, read, lose, repair, restore, delete, stat, IsReply, IsLoseReply, is_no_fragment}
use Rattle.history.specs.History.{History, IsLegalFrom, call_of, entry_of}
use Rattle.history.specs.Base.{Checkpoint, Outline, outline_of, pairs_of}
use Rattle.history.specs.Lawful.{IsLawfulFrom}
use Rattle.history.specs.declared.note.Entry.{Entry}
use Rattle.history.specs.declared.note.Call.{Call}
use Rattle.history.specs.declared.note.Call.TheVariants.{Lose}
use Rattle.history.specs.declared.note.Note.{Note}
use Rattle.history.specs.declared.note.Note.TheVariants as note
use Rattle.history.proofs.Beginnings.{a, two_losses}
use Rattle.history.proofs.Rising.{pairs_of-has}

abbrev present : Outline
present = record { name = a; version = 1; len = 12; code = Wide; lost = (0, 0) ∷ [] }

head_of : (o p : Outline) (xs ys : List Outline) → o ∷ xs ≡ p ∷ ys → o ≡ p
head_of o p xs ys e = cc

not_none : (o : Outline) (xs : List Outline) → o ∷ xs ≡ [] → ⊥
not_none o xs e = cc

-- the first name of such a state has the pair lost
first_name : (es : List (List ℕ × Blob)) → present ∷ [] ≡ map outline_of es → (blob : Blob) × (finite.find name_cmp a es ≡ Some blob) × (pairs_of blob.lost ≡ (0, 0) ∷ [])
first_name [] e = absurd (not_none present [] e)
first_name ((n, blob) ∷ es) e =
    let same = head_of present (outline_of (n, blob)) [] (map outline_of es) e in
    (blob, subst (λ (k : List ℕ). finite.find name_cmp a ((k, blob) ∷ es) ≡ Some blob) (ap (λ (o : Outline). o.name) same) refl, sym (ap (λ (o : Outline). o.lost) same))

is_lost : (lost : Lost) → pairs_of lost ≡ (0, 0) ∷ [] → lost_in lost 0 0 ≡ true
is_lost lost e = sym (pairs_of-has lost (0, 0)) ∙ ap (list_any (eq_by_cmp pair_cmp (0, 0))) e

abbrev is_fresh : Note → Bool
is_fresh (note.Lost v) = true
is_fresh m = false

refused : (none lost : Bool) (m : Note) (X : Type 0) → m ≡ note.Lost 1 → lost ≡ true → MatchBool none (m ≡ note.NoFragment) (MatchBool lost (m ≡ note.AlreadyLost) X) → ⊥
refused true lost m X e t r = false≢true (ap is_fresh (sym r ∙ e))
refused false true m X e t r = false≢true (ap is_fresh (sym r ∙ e))
refused false false m X e t r = false≢true t

abbrev is_loss : Call → Bool
is_loss (Lose n j f) = true
is_loss c = false

only_loss : (o : Operation) → call_of o ≡ Lose a 0 0 → o ≡ lose a 0 0
only_loss (put n code b) e = absurd (false≢true (ap is_loss e))
only_loss (read n start len) e = absurd (false≢true (ap is_loss e))
only_loss (lose n j f) e = cc
only_loss (repair n j f) e = absurd (false≢true (ap is_loss e))
only_loss (restore n v j f) e = absurd (false≢true (ap is_loss e))
only_loss (delete n) e = absurd (false≢true (ap is_loss e))
only_loss (stat n) e = absurd (false≢true (ap is_loss e))

head_entry : (x y : Entry) (xs ys : List Entry) → x ∷ xs ≡ y ∷ ys → x ≡ y
head_entry x y xs ys e = cc

no_entry : (y : Entry) (ys : List Entry) → [] ≡ y ∷ ys → ⊥
no_entry y ys e = cc

no_events : (s : State) (h : History) → present ∷ [] ≡ map outline_of (finite.entries s.names) → IsLegalFrom 1 s h → map entry_of h ≡ map entry_of two_losses → ⊥
no_events s [] e legal same = no_entry _ _ same
no_events s (x ∷ h) e legal same =
    let first = head_entry (entry_of x) _ (map entry_of h) _ same in
    let o : x.operation ≡ lose a 0 0 = only_loss x.operation (ap (λ (y : Entry). y.call) first) in
    let m : x.note ≡ note.Lost 1 = ap (λ (y : Entry). y.note) first in
    let reply : IsReply 1 s (lose a 0 0) x.note = subst (λ (k : Operation). IsReply 1 s k x.note) o legal.0 in
    let found = first_name (finite.entries s.names) e in
    let at : finite.get s.names a ≡ Some found.0 = finite.get-entries s.names a ∙ found.1 in
    let here : IsLoseReply 1 (Some found.0) 0 0 x.note = subst (λ (b : Option Blob). IsLoseReply 1 b 0 0 x.note) at reply in
    refused (is_no_fragment 1 found.0 0 0) (lost_in found.0.lost 0 0) x.note _ m (is_lost found.0.lost found.2) here

pub present_is_no_base : (base : Checkpoint) → base.names ≡ present ∷ [] → IsLawfulFrom base 1 (map entry_of two_losses) → ⊥
present_is_no_base base e l = no_events l.state l.events (sym e ∙ l.outlined.names) l.legal l.entries_are
