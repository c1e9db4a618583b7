-- The entries of legal histories.
use Rattle.std.specs.Prelude.{◌≡◌, ℕ, List, map}
use Rattle.history.specs.State.{State}
use Rattle.history.specs.History.{History, IsLegalFrom, entry_of}
use Rattle.history.specs.Base.{Checkpoint, Outlines, empty_base}
use Rattle.history.specs.declared.note.Entry.{Entry}

-- the entries are those of events that are legal from some state which the base outlines
pub record IsLawfulFrom (base : Checkpoint) (w : ℕ) (entries : List Entry) : Type 0 where
  pub state : State
  pub outlined : Outlines base state
  pub events : History
  pub legal : IsLegalFrom w state events
  pub entries_are : map entry_of events ≡ entries

-- the same with nothing discarded
abbrev pub IsLawful : ℕ → List Entry → Type 0
IsLawful w entries = IsLawfulFrom empty_base w entries
