-- What a pass does, as the sequential specification does it after all that was done before.
use Rattle.std.specs.Prelude.{◌≡◌, ℕ, List, [], ◌++◌, length, Option, None, Some, Result, Ok, Err, IfSome}
use Rattle.gate.specs.Events.{number_if}
use Rattle.sealed.specs.declared.fault.Fault.{Fault}
use Rattle.sealed.specs.declared.fault.Fault.TheVariants.{JournalFull, TooLong}
use Rattle.history.specs.Step.{Operation}
use Rattle.book.specs.declared.answer.Answer.{Answer}
use Rattle.book.specs.Notes.{note_of}
use Rattle.book.specs.Serial.{Deed, called, full, too_long, trimmed, Does, Act, act_of, standing_of}
use Rattle.shared.specs.Passes.{Shows, IsConsistent, Stays}

-- what a call did. With another fault it did nothing
abbrev pub deed_of : Operation → Result Answer Fault → Option Deed
deed_of o (Ok a) = Some (called o (note_of a))
deed_of o (Err JournalFull) = Some (full o)
deed_of o (Err TooLong) = Some (too_long o)
deed_of o (Err fault) = None

-- what a trim did
abbrev pub trim_deed : ℕ → Result ℕ Fault → Option Deed
trim_deed keep (Ok n) = Some (trimmed keep n)
trim_deed keep (Err fault) = None

abbrev pub act_if : ℕ → Option Deed → List Act
act_if who None = []
act_if who (Some deed) = act_of who deed

-- After the acts that the pass had seen, and those of others, one thread does this deed, if there
-- is one. It is the last act that the pass shows, at a new own place, where it is one at all. While
-- no other pass is out, there are no acts of others
pub record Takes (v : Shows) (deed : Option Deed) (w : Shows) : Type 0 where
  pub stays : Stays v w
  pub others : List Act
  pub does : IfSome deed (Does v.store.width v.store.limit (standing_of (v.acts ++ others)))
  pub acts : w.acts ≡ (v.acts ++ others) ++ act_if v.who deed
  pub did : w.did ≡ v.did ++ number_if (length (v.acts ++ others)) (act_if v.who deed)
  pub agrees : IsConsistent w
  pub lone : v.room ≡ 64 → others ≡ []
