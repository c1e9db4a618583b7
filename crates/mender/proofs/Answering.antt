-- What a repair answers.
use Rattle.std.proofs.Common.{◌≡◌, ℕ, ◌++◌, List, Bool, true, false, Option, None, Some, Result, Ok, Err, IfOk, MatchBool, refl, ap, ◌∙◌, ⊎_elim}
use Rattle.std.specs.FinMap as finite
use Rattle.sealed.specs.Blob.{lost_in}
use Rattle.sealed.specs.declared.fault.Fault.{Fault}
use Rattle.history.specs.declared.note.Note.{Note}
use Rattle.history.specs.declared.note.Note.TheVariants as note
use Rattle.history.specs.State.{Blob}
use Rattle.history.specs.Step.{IfHolds, is_no_fragment, IsRepairReply, repair}
use Rattle.book.specs.declared.answer.Answer.{Answer}
use Rattle.book.specs.declared.answer.Answer.TheVariants.{Stored, NoName, OutOfRange, Unrecoverable, Granted, Lost, NoFragment, AlreadyLost, Repaired, NotLost, Replaced, Deleted, Shape}
use Rattle.book.specs.Notes.{note_of}
use Rattle.book.specs.Serial.{standing_of}
use Rattle.shared.specs.Passes.{Shows}
use Rattle.shared.specs.Calls.{Called}
use Rattle.mender.specs.Answers.{is_of_repair, IsOfRepair}

-- the same of a note
abbrev is_noted : Note → Bool
is_noted note.NoName = true
is_noted note.NoFragment = true
is_noted note.NotLost = true
is_noted (note.Unrecoverable v) = true
is_noted (note.Repaired v) = true
is_noted n = false

noted : (a : Answer) → is_of_repair a ≡ is_noted (note_of a)
noted (Stored v) = refl
noted NoName = refl
noted OutOfRange = refl
noted (Unrecoverable v) = refl
noted (Granted g) = refl
noted (Lost v) = refl
noted NoFragment = refl
noted AlreadyLost = refl
noted (Repaired v) = refl
noted NotLost = refl
noted (Replaced v) = refl
noted (Deleted v) = refl
noted (Shape v len stripes lost) = refl

by_test : (b : Bool) (P Q R : Type 0) → (P → R) → (Q → R) → MatchBool b P Q → R
by_test true P Q R p q m = p m
by_test false P Q R p q m = q m

by_case : (P A B R : Type 0) → (A → R) → (B → R) → IfHolds P A B → R
by_case P A B R a b h = ⊎_elim (λ (t : P × A). a t.1) (λ (t : (P → ⊥) × B). b t.1) h

as_noted : (n m : Note) → is_noted m ≡ true → n ≡ m → is_noted n ≡ true
as_noted n m e same = ap is_noted same ∙ e

reply_noted : (w : ℕ) (found : Option Blob) (j f : ℕ) (n : Note) → IsRepairReply w found j f n → is_noted n ≡ true
reply_noted w None j f n reply = as_noted n note.NoName refl reply
reply_noted w (Some blob) j f n reply =
    by_test (is_no_fragment w blob j f) _ _ _ (as_noted n note.NoFragment refl)
    (by_test (lost_in blob.lost j f) _ _ _
    (by_case _ _ _ _ (as_noted n (note.Unrecoverable blob.version) refl) (as_noted n (note.Repaired blob.version) refl))
    (as_noted n note.NotLost refl))
    reply

-- a repair answers by one of its five answers
pub answer_of_repair : (v w : Shows) (n : List ℕ) (j f : ℕ) (a : Answer) → Called v (repair n j f) (Ok a) w → IsOfRepair a
answer_of_repair v w n j f a c = noted a ∙ reply_noted v.store.width (finite.get (standing_of (v.acts ++ c.takes.others)).state.names n) j f (note_of a) c.takes.does.1

pub repair_answers : (v w : Shows) (n : List ℕ) (j f : ℕ) (r : Result Answer Fault) → Called v (repair n j f) r w → IfOk r IsOfRepair
repair_answers v w n j f (Ok a) c = answer_of_repair v w n j f a c
repair_answers v w n j f (Err e) c = tt
