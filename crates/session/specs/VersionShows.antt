-- A version of a blob that is held out of its store.
use Rattle.std.specs.Prelude.{◌≡◌, ℕ, List, Option, None, Some, Result, Ok, Err}
use Rattle.sealed.specs.declared.fault.Fault.{Fault}
use Rattle.sealed.specs.declared.value.Sealed.{Sealed}
use Rattle.shared.specs.Passes.{Shows, ReceiptShows, seen_by}
use Rattle.shared.specs.Snapshots.{IsVersionIn, HasFragmentsOf}

-- What a clause sees of it: the name, the sealed value, and all that the session had seen when it
-- held the version
pub record VersionShows : Type 0 where
  pub name : List ℕ
  pub sealed : Sealed
  pub known : ReceiptShows

-- after the history that was seen the name has this version, and the fragments of the value are
-- those of its put
pub record IsKnownVersion (x : VersionShows) : Type 0 where
  pub version : IsVersionIn x.known.seen x.known.store.width x.name x.sealed
  pub fragments : HasFragmentsOf x.known.seen x.known.store.width x.name x.sealed

-- a session that shows this has just held the version of the name
pub record IsHeldFrom (w : Shows) (n : List ℕ) (x : VersionShows) : Type 0 where
  pub name_is : x.name ≡ n
  pub known_is : x.known ≡ seen_by w
  pub version : IsKnownVersion x

-- the sealed value of a version, if there is one
abbrev pub sealed_in : Result (Option VersionShows) Fault → Result (Option Sealed) Fault
sealed_in (Ok (Some x)) = Ok (Some x.sealed)
sealed_in (Ok None) = Ok None
sealed_in (Err e) = Err e
