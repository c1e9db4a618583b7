-- The journal of a closed store, for C.
use Rattle.std.specs.Prelude.{◌≡◌, ◌≢◌, ◌⊎◌, ◌+◌, ℕ, List, length, slice_get, MatchOption, Option, Some, None}
use Rattle.lrc_code.specs.declared.Code.{Code}
use Rattle.lrc_code.specs.declared.Code.TheVariants.{Wide, Small}
use Rattle.history.specs.Parts.{name_of}
use Rattle.history.specs.declared.note.Entry.{Entry}
use Rattle.history.specs.declared.note.Call.{Call}
use Rattle.history.specs.declared.note.Call.TheVariants.{Put, Read, Lose, Repair, Restore, Delete, Stat}
use Rattle.history.specs.declared.note.Note.{Note}
use Rattle.history.specs.declared.note.Note.TheVariants.{Stored, NoName, OutOfRange, Unrecoverable, Granted, Lost, NoFragment, AlreadyLost, Repaired, NotLost, Replaced, Deleted, Shape}
use Rattle.book.specs.Contents.{journal_of}
use Rattle.session.specs.declared.held.Held.{Held}
use Rattle.session.specs.declared.held.Held.TheVariants.{Session, Journal}
use Rattle.shared.specs.Passes.{Shows}
use Rattle.store_c.specs.declared.journal.JournalEntry.{JournalEntry}
use Rattle.store_c.specs.Sessions.{IsReportOf}
use Rattle.store_c.specs.Status.{already_lost, done, empty, no_fragment, no_memory, no_name, not_alone, not_lost, nothing_left, occupied, out_of_range, replaced, unrecoverable}

abbrev pub data_fragments_of : Code → ℕ
data_fragments_of Wide = 12
data_fragments_of Small = 6

-- the number of a call, and its arguments after the name
abbrev pub arguments_of : Call → ℕ × ℕ × ℕ × ℕ
arguments_of (Put name code len) = (0, data_fragments_of code, len, 0)
arguments_of (Read name start len) = (1, start, len, 0)
arguments_of (Lose name stripe fragment) = (2, stripe, fragment, 0)
arguments_of (Repair name stripe fragment) = (3, stripe, fragment, 0)
arguments_of (Delete name) = (4, 0, 0, 0)
arguments_of (Stat name) = (5, 0, 0, 0)
arguments_of (Restore name version stripe fragment) = (6, stripe, fragment, version)

abbrev pub status_of_note : Note → ℕ
status_of_note (Stored v) = done
status_of_note NoName = no_name
status_of_note OutOfRange = out_of_range
status_of_note (Unrecoverable v) = unrecoverable
status_of_note (Granted v) = done
status_of_note (Lost v) = done
status_of_note NoFragment = no_fragment
status_of_note AlreadyLost = already_lost
status_of_note (Repaired v) = done
status_of_note NotLost = not_lost
status_of_note (Replaced v) = replaced
status_of_note (Deleted v) = done
status_of_note (Shape v len stripes lost) = done

abbrev pub version_of_note : Note → ℕ
version_of_note (Stored v) = v
version_of_note NoName = 0
version_of_note OutOfRange = 0
version_of_note (Unrecoverable v) = v
version_of_note (Granted v) = v
version_of_note (Lost v) = v
version_of_note NoFragment = 0
version_of_note AlreadyLost = 0
version_of_note (Repaired v) = v
version_of_note NotLost = 0
version_of_note (Replaced v) = v
version_of_note (Deleted v) = v
version_of_note (Shape v len stripes lost) = v

abbrev pub shape_of_note : Note → ℕ × ℕ × ℕ
shape_of_note (Shape v len stripes lost) = (len, stripes, lost)
shape_of_note note = (0, 0, 0)

-- C gets all of the entry
pub record IsEntry (e : Entry) (r : JournalEntry) : Type 0 where
  pub who_is : r.who ≡ e.who
  pub name_is : r.name.now ≡ name_of e.call
  pub arguments_are : (r.call, r.first, r.second, r.third) ≡ arguments_of e.call
  pub status_is : r.status ≡ status_of_note e.note
  pub version_is : r.version ≡ version_of_note e.note
  pub shape_is : (r.len, r.stripes, r.lost) ≡ shape_of_note e.note

-- The slot holds the journal of the closed store. C gets how many calls are no entries, of how many
-- there are entries, and that these are lawful
pub record IsClosedTo (v : Shows) (discarded entries lawful : ℕ) (given : Option Held) : Type 0 where
  pub report : IsReportOf v entries lawful
  pub given_is : given ≡ Some (Journal report.book)
  pub calls_are : discarded + entries ≡ report.book.base.trimmed + length report.book.entries

-- The slot held the only session of a store, whose room is 64, and holds nothing; or nothing was
-- done, since the store has other sessions
abbrev pub IsCloseTo : Option Held → ℕ → ℕ × ℕ × ℕ → ℕ × ℕ × ℕ → Option Held → Option Held → Type 0
IsCloseTo (Some (Session v number)) status before after None given = (status ≡ done) × IsClosedTo v after.0 after.1 after.2 given
IsCloseTo (Some (Session v number)) status before after new given = (status ≡ not_alone) × (v.room ≢ 64) × (after ≡ before) × (new ≡ Some (Session v number)) × (given ≡ None)
IsCloseTo old status before after new given = (status ≡ empty) × (after ≡ before) × (new ≡ old) × (given ≡ None)

-- the other slot was empty, and there is memory for its new contents; or nothing was done
abbrev pub IsCloseToCall : Option Held → Option Held → ℕ → ℕ × ℕ × ℕ → ℕ × ℕ × ℕ → Option Held → Option Held → Type 0
IsCloseToCall old None status before after new given = IsCloseTo old status before after new given ⊎ ((status ≡ no_memory) × (after ≡ before) × (new ≡ old) × (given ≡ None))
IsCloseToCall old (Some x) status before after new given = (status ≡ occupied) × (after ≡ before) × (new ≡ old) × (given ≡ Some x)

-- the journal has an entry at the index, or nothing was done
abbrev pub IsEntryAt : List Entry → ℕ → ℕ → JournalEntry → JournalEntry → Type 0
IsEntryAt entries index status old new = MatchOption (slice_get entries index) ((status ≡ nothing_left) × (new ≡ old)) (λ e. (status ≡ done) × IsEntry e new)

-- the slot holds a journal; or nothing was done
abbrev pub IsEntryCall : Option Held → ℕ → ℕ → JournalEntry → JournalEntry → Type 0
IsEntryCall (Some (Journal book)) index status old new = IsEntryAt (journal_of book) index status old new
IsEntryCall held index status old new = (status ≡ empty) × (new ≡ old)
