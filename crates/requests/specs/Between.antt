-- What was done between two books that were left one after the other.
use Rattle.std.specs.Prelude.{◌≡◌, ℕ, ◌+◌, ◌-◌, ◌≤◌, List, [], ◌∷◌, ◌++◌, length, drop, Option, None, Some}
use Rattle.sealed.specs.declared.value.Sealed.{Sealed}
use Rattle.history.specs.declared.note.Call.{Call}
use Rattle.history.specs.declared.note.Call.TheVariants.{Put, Read, Lose, Repair, Restore, Delete, Stat}
use Rattle.history.specs.declared.note.Entry.{Entry}
use Rattle.history.specs.Step.{Operation, put, read, lose, repair, restore, delete, stat}
use Rattle.history.specs.History.{History}
use Rattle.book.specs.Contents.{Contents, sealed_at}
use Rattle.book.specs.Serial.{Act, call, trim_acts, events_in, given_in}
use Rattle.book.specs.Holds.{HoldsHistory}
use Rattle.book.specs.BlobBytes.{blob_bytes}

abbrev pub bytes_found : Option Sealed → List ℕ
bytes_found None = []
bytes_found (Some s) = blob_bytes s

-- a call with its bytes. Those of a put are what its name has in the book after it
abbrev pub operation_in : Contents → Call → Operation
operation_in book (Put n code len) = put n code (bytes_found (sealed_at book n))
operation_in book (Read n start len) = read n start len
operation_in book (Lose n j f) = lose n j f
operation_in book (Repair n j f) = repair n j f
operation_in book (Restore n v j f) = restore n v j f
operation_in book (Delete n) = delete n
operation_in book (Stat n) = stat n

-- the first of these entries as an event, where there is one
abbrev pub first_in : Contents → List Entry → History
first_in book [] = []
first_in book (e ∷ es) = record { who = e.who; operation = operation_in book e.call; note = e.note } ∷ []

-- the call that was made between two books, where one was made: the first entry of the second book past the last one of the first
abbrev pub between : Contents → Contents → History
between a b = first_in b (drop (a.base.trimmed + length a.entries - b.base.trimmed) b.entries)

-- a call, or else a trim that discarded n entries, as acts
abbrev pub acts_for : History → ℕ → List Act
acts_for [] n = trim_acts n
acts_for (e ∷ es) n = call e ∷ []

-- the acts between two books: the call, or else the trim that discarded the entries which the second
-- one no longer has
abbrev pub acts_between : Contents → Contents → List Act
acts_between a b = acts_for (between a b) (b.base.trimmed - a.base.trimmed)

-- the book represents the calls of these acts, has discarded as many as they discard, and has no more
-- entries than its limit
pub record RecordsActs (book : Contents) (acts : List Act) : Type 0 where
  pub holds : HoldsHistory book (events_in acts)
  pub given : book.base.trimmed ≡ given_in acts
  pub room : length book.entries ≤ book.limit

-- whatever acts the first book represents, the second represents them with the acts between the two
pub record MayFollow (a b : Contents) : Type 0 where
  pub width : b.width ≡ a.width
  pub limit : b.limit ≡ a.limit
  pub holds : (acts : List Act) → RecordsActs a acts → RecordsActs b (acts ++ acts_between a b)
