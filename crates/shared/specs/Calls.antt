-- What a call leaves of a pass.
use Rattle.std.specs.Prelude.{◌≡◌, ◌⊎◌, ℕ, ◌+◌, ◌<◌, List, length, Some, Result, Err}
use Rattle.std.specs.FinMap as finite
use Rattle.lrc_code.specs.declared.Code.{Code}
use Rattle.sealed.specs.declared.fault.Fault.{Fault}
use Rattle.sealed.specs.declared.fault.Fault.TheVariants.{NoMemory, TooLong}
use Rattle.lent.specs.declared.grant.Grant.{Grant}
use Rattle.history.specs.State.{Blob}
use Rattle.history.specs.declared.note.Note.TheVariants as noted
use Rattle.history.specs.Step.{Operation, put, read, IsReply}
use Rattle.history.specs.History.{History, HasPut, state_of}
use Rattle.book.specs.declared.answer.Answer.{Answer}
use Rattle.book.specs.declared.answer.Answer.TheVariants.{Granted}
use Rattle.book.specs.Holds.{Represents}
use Rattle.shared.specs.Deeds.{deed_of, Takes}
use Rattle.shared.specs.Passes.{Shows}

-- the journal had room: fewer entries than its limit. These are the calls that were seen and not
-- discarded
abbrev pub HasJournalRoom : Shows → Type 0
HasJournalRoom w = length w.seen < w.trimmed + w.store.limit

-- a put may be refused outside, before the gate is entered, and then the pass is as it was. No
-- other call is
abbrev pub IsOutside : Shows → Operation → Shows → Type 0
IsOutside v (put n code b) w = w ≡ v
IsOutside v operation w = ⊥

-- What the pass shows afterwards: with an answer the call was made, and with a fault it was not.
-- Memory was refused where the journal had fewer entries than its limit, or outside. A blob that is
-- too long is refused outside
pub record Called (v : Shows) (operation : Operation) (r : Result Answer Fault) (w : Shows) : Type 0 where
  pub takes : Takes v (deed_of operation r) w
  pub no_memory : r ≡ Err NoMemory → HasJournalRoom w ⊎ IsOutside v operation w
  pub outside : r ≡ Err TooLong → w ≡ v

-- The grant has the range that was asked for. After the history the name has a blob, which the
-- grant's value represents. The blob was put in the history under its version, and no other put has
-- this version.
pub record GrantedIn (h : History) (w : ℕ) (n : List ℕ) (start len : ℕ) (g : Grant) : Type 0 where
  pub start_is : g.start ≡ start
  pub len_is : g.len ≡ len
  pub blob : Blob
  pub here : finite.get (state_of h).names n ≡ Some blob
  pub represents : Represents w g.sealed.value blob
  pub put_is : HasPut h blob.version n blob.code blob.bytes
  pub only : (other : List ℕ) (code : Code) (bytes : List ℕ) → HasPut h blob.version other code bytes → put other code bytes ≡ put n blob.code blob.bytes

-- the read is one that the object grants in the state after this history
abbrev pub CanGrant : History → ℕ → List ℕ → ℕ → ℕ → Type 0
CanGrant h w n start len = (version : ℕ) × IsReply w (state_of h) (read n start len) (noted.Granted version)

-- where the answer is a grant
abbrev pub IfGranted : Answer → (Grant → Type 0) → Type 0
IfGranted (Granted g) P = P g
IfGranted answer P = Unit {0}
