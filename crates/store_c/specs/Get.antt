-- A whole blob, lent to C in one call.
use Rattle.std.specs.Prelude.{◌≡◌, ◌≢◌, ◌⊎◌, ℕ, List, length, Ok, Err, Option, Some, None}
use Rattle.std.specs.FinMap as finite
use Rattle.std.specs.List.{concat}
use Rattle.sealed.specs.declared.fault.Fault.{Fault}
use Rattle.sealed.specs.declared.fault.Fault.TheVariants.{Busy, NoMemory}
use Rattle.history.specs.Names.{IsName}
use Rattle.history.specs.State.{Blob}
use Rattle.history.specs.History.{History, HasPut, state_of}
use Rattle.lent.specs.declared.grant.Asked.TheVariants.{Unrecoverable}
use Rattle.lent.specs.Asked.{IsAnswer}
use Rattle.shared.specs.Passes.{Shows, FindsBusy}
use Rattle.shared.specs.Calls.{CanGrant}
use Rattle.shared.specs.Snapshots.{HasNoBlob}
use Rattle.named_calls.specs.Taken.{TakesSnapshot}
use Rattle.session.specs.declared.held.Held.{Held}
use Rattle.session.specs.declared.held.Held.TheVariants.{Lending}
use Rattle.session.specs.KnownFault.{IsBusyOrCallFault}
use Rattle.session.specs.VersionShows.{VersionShows, IsHeldFrom}
use Rattle.store_c.specs.Status.{bad_name, done, no_name, not_rebuilt, occupied, status_of_fault, unrecoverable}

-- after this history these are all bytes of the name's blob, which was put with this version
pub record HasWhole (h : History) (n bytes : List ℕ) (version : ℕ) : Type 0 where
  pub blob : Blob
  pub here : finite.get (state_of h).names n ≡ Some blob
  pub bytes_are : bytes ≡ blob.bytes
  pub version_is : version ≡ blob.version
  pub put_is : HasPut h blob.version n blob.code blob.bytes

-- what C gets of a version that was held, but of which nothing is lent, since a byte is
-- unrecoverable or memory ran out: its number and its length
pub record IsUnlent (x : VersionShows) (status : ℕ) (before after : ℕ × ℕ × ℕ) : Type 0 where
  pub cause : ((status ≡ unrecoverable) × IsAnswer x.sealed 0 x.sealed.len Unrecoverable) ⊎ (status ≡ not_rebuilt)
  pub after_is : after ≡ (x.sealed.version, x.sealed.len, before.2)

-- With `done` the other slot holds all pieces of the blob that the name has, of one version, and C
-- gets its number, its length and the number of pieces. The version is held by a read of no byte.
-- Otherwise the slot holds nothing
pub data IsGet (v : Shows) (name : List ℕ) (status : ℕ) (before after : ℕ × ℕ × ℕ) (w : Shows) (given : Option Held) : Type 0 where
  unnamed_get : (IsName name → ⊥) → status ≡ bad_name → after ≡ before → w ≡ v → given ≡ None → IsGet v name status before after w given
  got : IsName name → (x : VersionShows) → status ≡ done → TakesSnapshot v name (Ok (Some x.sealed)) w → IsHeldFrom w name x → (lent : List (List ℕ)) → HasWhole w.seen name (concat lent) x.sealed.version
      → after ≡ (x.sealed.version, x.sealed.len, length lent) → given ≡ Some (Lending lent) → IsGet v name status before after w given
  got_unlent : IsName name → (x : VersionShows) → TakesSnapshot v name (Ok (Some x.sealed)) w → IsHeldFrom w name x → IsUnlent x status before after → given ≡ None → IsGet v name status before after w given
  nothing_to_get : IsName name → status ≡ no_name → TakesSnapshot v name (Ok None) w → HasNoBlob w.seen name → after ≡ before → given ≡ None → IsGet v name status before after w given
  get_refused : IsName name → (fault : Fault) → status ≡ status_of_fault fault → IsBusyOrCallFault fault → TakesSnapshot v name (Err fault) w → (fault ≡ NoMemory → CanGrant w.seen v.store.width name 0 0) → (fault ≡ Busy → FindsBusy v w)
      → (v.room ≡ 64 → fault ≢ Busy) → after ≡ before → given ≡ None → IsGet v name status before after w given

-- the other slot is empty before; or nothing was done
abbrev pub IsGetTo : Shows → Option Held → List ℕ → ℕ → ℕ × ℕ × ℕ → ℕ × ℕ × ℕ → Shows → Option Held → Type 0
IsGetTo v None name status before after w given = IsGet v name status before after w given
IsGetTo v (Some x) name status before after w given = (status ≡ occupied) × (after ≡ before) × (w ≡ v) × (given ≡ Some x)
