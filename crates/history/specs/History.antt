-- Histories: which operations were made, by which callers, and the reply to each.
use Rattle.std.specs.Prelude.{◌≡◌, ◌++◌, ℕ, Bool, true, false, List, [], ◌∷◌, length}
use Rattle.lrc_code.specs.declared.Code.{Code}
use Rattle.history.specs.declared.note.Note.{Note}
use Rattle.history.specs.declared.note.Note.TheVariants.{Stored}
use Rattle.history.specs.declared.note.Call.{Call}
use Rattle.history.specs.declared.note.Call.TheVariants.{Put, Read, Lose, Repair, Restore, Delete, Stat}
use Rattle.history.specs.declared.note.Entry.{Entry}
use Rattle.history.specs.State.{State, empty_state}
use Rattle.history.specs.Step.{Operation, put, read, lose, repair, restore, delete, stat, IsReply, after}

pub record Event : Type 0 where
  pub who : ℕ
  pub operation : Operation
  pub note : Note

abbrev pub History : Type 0
History = List Event

-- the state after these events, from s on
abbrev pub after_all : State → History → State
after_all s [] = s
after_all s (e ∷ es) = after_all (after s e.operation e.note) es

-- each note is the reply in the state before it, from s on
abbrev pub IsLegalFrom : ℕ → State → History → Type 0
IsLegalFrom w s [] = Unit {0}
IsLegalFrom w s (e ∷ es) = IsReply w s e.operation e.note × IsLegalFrom w (after s e.operation e.note) es

-- the same from the empty state
abbrev pub state_of : History → State
state_of h = after_all empty_state h

abbrev pub IsLegal : ℕ → History → Type 0
IsLegal w h = IsLegalFrom w empty_state h

-- an event as the journal has it: of a put's bytes, the length
abbrev pub call_of : Operation → Call
call_of (put n code b) = Put n code (length b)
call_of (read n start len) = Read n start len
call_of (lose n j f) = Lose n j f
call_of (repair n j f) = Repair n j f
call_of (restore n v j f) = Restore n v j f
call_of (delete n) = Delete n
call_of (stat n) = Stat n

abbrev pub entry_of : Event → Entry
entry_of e = record { who = e.who; call = call_of e.operation; note = e.note }

-- whether an entry is of a put
abbrev pub is_put_call : Call → Bool
is_put_call (Put n code len) = true
is_put_call (Read n start len) = false
is_put_call (Lose n j f) = false
is_put_call (Repair n j f) = false
is_put_call (Restore n v j f) = false
is_put_call (Delete n) = false
is_put_call (Stat n) = false

abbrev pub is_put : Entry → Bool
is_put e = is_put_call e.call

-- the history has the put of this version, which stored these bytes under this name
pub record HasPut (h : History) (version : ℕ) (name : List ℕ) (code : Code) (bytes : List ℕ) : Type 0 where
  pub who : ℕ
  pub before : History
  pub later : History
  pub whole : h ≡ before ++ record { who = who; operation = put name code bytes; note = Stored version } ∷ later
