-- A version of a blob that C holds.
use Rattle.std.specs.Prelude.{◌≡◌, ◌≢◌, ℕ, List, Ok, Err, Option, Some, None}
use Rattle.sealed.specs.declared.fault.Fault.{Fault}
use Rattle.sealed.specs.declared.fault.Fault.TheVariants.{Busy, NoMemory}
use Rattle.history.specs.Names.{IsName}
use Rattle.shared.specs.Passes.{Shows, FindsBusy}
use Rattle.shared.specs.Calls.{CanGrant}
use Rattle.shared.specs.Snapshots.{HasNoBlob}
use Rattle.named_calls.specs.Taken.{TakesSnapshot}
use Rattle.session.specs.declared.held.Held.{Held}
use Rattle.session.specs.declared.held.Held.TheVariants.{Session, Version}
use Rattle.session.specs.KnownFault.{IsBusyOrCallFault}
use Rattle.session.specs.VersionShows.{VersionShows, IsHeldFrom}
use Rattle.store_c.specs.Status.{bad_name, done, empty, no_memory, no_name, occupied, status_of_fault}

-- With `done` the other slot holds the version that the name's blob has, and C gets its number and
-- its length. It is held by a read of no byte. Otherwise the slot holds nothing, and C gets nothing
pub data IsHold (v : Shows) (number : ℕ) (name : List ℕ) (status : ℕ) (before after : ℕ × ℕ) (w : Shows) (given : Option Held) : Type 0 where
  unnamed_hold : (IsName name → ⊥) → status ≡ bad_name → after ≡ before → w ≡ v → given ≡ None → IsHold v number name status before after w given
  no_room_to_hold : status ≡ no_memory → after ≡ before → w ≡ v → given ≡ None → IsHold v number name status before after w given
  held : IsName name → (x : VersionShows) → status ≡ done → TakesSnapshot v name (Ok (Some x.sealed)) w → IsHeldFrom w name x → after ≡ (x.sealed.version, x.sealed.len) → given ≡ Some (Version x number)
      → IsHold v number name status before after w given
  nothing_held : IsName name → status ≡ no_name → TakesSnapshot v name (Ok None) w → HasNoBlob w.seen name → after ≡ before → given ≡ None → IsHold v number name status before after w given
  hold_refused : IsName name → (fault : Fault) → status ≡ status_of_fault fault → IsBusyOrCallFault fault → TakesSnapshot v name (Err fault) w → (fault ≡ NoMemory → CanGrant w.seen v.store.width name 0 0) → (fault ≡ Busy → FindsBusy v w)
      → (v.room ≡ 64 → fault ≢ Busy) → after ≡ before → given ≡ None → IsHold v number name status before after w given

-- the other slot is empty before; or nothing was done
abbrev pub IsHoldTo : Shows → ℕ → Option Held → List ℕ → ℕ → ℕ × ℕ → ℕ × ℕ → Shows → Option Held → Type 0
IsHoldTo v number None name status before after w given = IsHold v number name status before after w given
IsHoldTo v number (Some x) name status before after w given = (status ≡ occupied) × (after ≡ before) × (w ≡ v) × (given ≡ Some x)

-- the first slot holds a session; or nothing was done
abbrev pub IsHoldCall : Option Held → Option Held → List ℕ → ℕ → ℕ × ℕ → ℕ × ℕ → Option Held → Option Held → Type 0
IsHoldCall (Some (Session v number)) other name status before after (Some (Session w same)) given = IsHoldTo v number other name status before after w given × (same ≡ number)
IsHoldCall (Some (Session v number)) other name status before after new given = ⊥
IsHoldCall old other name status before after new given = (status ≡ empty) × (after ≡ before) × (new ≡ old) × (given ≡ other)
