-- The seven operations: the reply to each in a state, and the state after it.
use Rattle.std.specs.Prelude.{◌≡◌, ℕ, ◌+◌, ◌==◌, Bool, ◌⊎◌, ◌||◌, List, Option, None, Some, length, nat_le, MatchBool, MatchOption}
use Rattle.std.specs.FinMap as map
use Rattle.std.specs.FinSet as set
use Rattle.lrc_code.specs.declared.Code.{Code}
use Rattle.lrc_code.specs.Code.{fragment_count, Open}
use Rattle.sealed.specs.Layout.{stripe_count}
use Rattle.sealed.specs.Blob.{IsBlob, Lost, nothing, lost_in}
use Rattle.sealed.specs.Range.{is_outside, HasUnrecoverableByte}
use Rattle.history.specs.State.{Blob, State}
use Rattle.history.specs.declared.note.Note.{Note}
use Rattle.history.specs.declared.note.Note.TheVariants.{Stored, NoName, OutOfRange, Unrecoverable, Granted, Lost as LostNow, NoFragment, AlreadyLost, Repaired, NotLost, Replaced, Deleted, Shape}

-- an operation with its arguments. A put has its bytes, and the code that they are to be kept in
pub data Operation : Type 0 where
  put : (name : List ℕ) (code : Code) (bytes : List ℕ) → Operation
  read : (name : List ℕ) (start len : ℕ) → Operation
  lose : (name : List ℕ) (stripe f : ℕ) → Operation
  repair : (name : List ℕ) (stripe f : ℕ) → Operation
  restore : (name : List ℕ) (version stripe f : ℕ) → Operation
  delete : (name : List ℕ) → Operation
  stat : (name : List ℕ) → Operation

-- the first if P holds, and otherwise the second
abbrev pub IfHolds : Type 0 → Type 0 → Type 0 → Type 0
IfHolds P first second = (P × first) ⊎ ((P → ⊥) × second)

module _ (w : ℕ) where
  abbrev pub stripes_of : Blob → ℕ
  stripes_of blob = stripe_count blob.code w (length blob.bytes)

  -- the blob has no such fragment
  abbrev pub is_no_fragment : Blob → ℕ → ℕ → Bool
  is_no_fragment blob j f = nat_le (stripes_of blob) j || nat_le (fragment_count blob.code) f

  -- the replies to four of them by what the name has
  abbrev pub IsReadReply : Option Blob → ℕ → ℕ → Note → Type 0
  IsReadReply found start len note = MatchOption found (note ≡ NoName) (λ blob.
      MatchBool (is_outside (length blob.bytes) start len) (note ≡ OutOfRange)
      (IfHolds (HasUnrecoverableByte blob.code w (lost_in blob.lost) start len) (note ≡ Unrecoverable blob.version) (note ≡ Granted blob.version)))

  abbrev pub IsLoseReply : Option Blob → ℕ → ℕ → Note → Type 0
  IsLoseReply found j f note = MatchOption found (note ≡ NoName) (λ blob.
      MatchBool (is_no_fragment blob j f) (note ≡ NoFragment)
      (MatchBool (lost_in blob.lost j f) (note ≡ AlreadyLost) (note ≡ LostNow blob.version)))

  abbrev pub IsRepairReply : Option Blob → ℕ → ℕ → Note → Type 0
  IsRepairReply found j f note = MatchOption found (note ≡ NoName) (λ blob.
      MatchBool (is_no_fragment blob j f) (note ≡ NoFragment)
      (MatchBool (lost_in blob.lost j f)
      (IfHolds (Open blob.code (lost_in blob.lost j) f) (note ≡ Unrecoverable blob.version) (note ≡ Repaired blob.version))
      (note ≡ NotLost)))

  -- with bytes from elsewhere nothing is unrecoverable. But they are those of one version
  abbrev pub IsRestoreReply : Option Blob → ℕ → ℕ → ℕ → Note → Type 0
  IsRestoreReply found v j f note = MatchOption found (note ≡ NoName) (λ blob.
      MatchBool (blob.version == v)
      (MatchBool (is_no_fragment blob j f) (note ≡ NoFragment)
      (MatchBool (lost_in blob.lost j f) (note ≡ Repaired blob.version) (note ≡ NotLost)))
      (note ≡ Replaced blob.version))

  -- the note is the reply of the sequential specification to the operation in this state
  abbrev pub IsReply : State → Operation → Note → Type 0
  IsReply s (put n code b) note = IsBlob code w b × (note ≡ Stored (s.puts + 1))
  IsReply s (read n start len) note = IsReadReply (map.get s.names n) start len note
  IsReply s (lose n j f) note = IsLoseReply (map.get s.names n) j f note
  IsReply s (repair n j f) note = IsRepairReply (map.get s.names n) j f note
  IsReply s (restore n v j f) note = IsRestoreReply (map.get s.names n) v j f note
  IsReply s (delete n) note = MatchOption (map.get s.names n) (note ≡ NoName) (λ blob. note ≡ Deleted blob.version)
  IsReply s (stat n) note =
      MatchOption (map.get s.names n) (note ≡ NoName) (λ blob. note ≡ Shape blob.version (length blob.bytes) (stripes_of blob) (set.len blob.lost))

-- the state in which the lost fragments of a name are changed
abbrev pub with_lost : State → List ℕ → Option Blob → (Lost → Lost) → State
with_lost s n None change = s
with_lost s n (Some blob) change = record s { names = map.insert s.names n (record blob { lost = change blob.lost }) }

-- the state after an operation with this reply. Only Lost adds a pair, only Repaired removes one,
-- only Deleted removes the name
abbrev pub after : State → Operation → Note → State
after s (put n code b) note = record {
  names = map.insert s.names n (record { version = s.puts + 1; bytes = b; code = code; lost = nothing });
  puts = s.puts + 1;
}
after s (lose n j f) (LostNow v) = with_lost s n (map.get s.names n) (λ lost. set.insert lost (j, f))
after s (repair n j f) (Repaired v) = with_lost s n (map.get s.names n) (λ lost. set.remove lost (j, f))
after s (restore n v j f) (Repaired x) = with_lost s n (map.get s.names n) (λ lost. set.remove lost (j, f))
after s (delete n) (Deleted v) = record s { names = map.remove s.names n }
after s operation note = s
