-- What C reads of a version that it holds: its shape, its lost fragments, a fragment, and ranges.
use Rattle.std.specs.Prelude.{◌≡◌, ◌<◌, ℕ, List, length, true, Option, Some, None}
use Rattle.std.specs.List.{concat}
use Rattle.lrc_code.specs.Code.{data_count}
use Rattle.sealed.specs.declared.value.Sealed.{Sealed}
use Rattle.sealed.specs.Layout.{stripe_count, HasFragment}
use Rattle.sealed.specs.Sealed.{absent_in}
use Rattle.lent.specs.declared.grant.Grant.{Grant}
use Rattle.lent.specs.declared.grant.Asked.TheVariants.{Granted, OutOfRange, Unrecoverable}
use Rattle.lent.specs.Asked.{IsAnswer}
use Rattle.lent.specs.Granted.{cut_of}
use Rattle.lent.specs.Walk.{HasAbsent}
use Rattle.book.specs.Known.{IsFragmentIn}
use Rattle.session.specs.declared.held.Held.{Held}
use Rattle.session.specs.declared.held.Held.TheVariants.{Lending, Version}
use Rattle.session.specs.LentFrom.{IsLentFrom}
use Rattle.session.specs.LostBits.{AreLostBits, lost_count}
use Rattle.session.specs.VersionShows.{VersionShows}
use Rattle.store_c.specs.declared.versions.VersionShape.{VersionShape}
use Rattle.store_c.specs.Status.{already_lost, done, empty, no_fragment, no_memory, not_rebuilt, occupied, out_of_range, unrecoverable}
use Rattle.store_c.specs.OnSession.{HasBytes}

-- the number of stripes of a blob
abbrev pub stripes_in : Sealed → ℕ
stripes_in s = stripe_count s.code s.width s.len

-- C gets the shape of the blob
pub record IsShapeOf (s : Sealed) (r : VersionShape) : Type 0 where
  pub version_is : r.version ≡ s.version
  pub len_is : r.len ≡ s.len
  pub stripes_are : r.stripes ≡ stripes_in s
  pub lost_is : r.lost ≡ lost_count s (stripes_in s)
  pub width_is : r.width ≡ s.width
  pub data_fragments_are : r.data_fragments ≡ data_count s.code

-- the slot holds a version; or nothing was done. The slot is as it was
abbrev pub IsShapeCall : Option Held → ℕ → VersionShape → VersionShape → Option Held → Type 0
IsShapeCall (Some (Version x number)) status old new slot = (status ≡ done) × IsShapeOf x.sealed new × (slot ≡ Some (Version x number))
IsShapeCall held status old new slot = (status ≡ empty) × (new ≡ old) × (slot ≡ held)

-- C gets the lost fragments of a stripe, as the bits of a number; or the blob has no such stripe
pub data IsLostOf (s : Sealed) (j status old new : ℕ) : Type 0 where
  in_stripe : j < stripes_in s → status ≡ done → AreLostBits s j new → IsLostOf s j status old new
  past_stripes : (j < stripes_in s → ⊥) → status ≡ no_fragment → new ≡ old → IsLostOf s j status old new

-- the slot holds a version; or nothing was done. The slot is as it was
abbrev pub IsLostCall : Option Held → ℕ → ℕ → ℕ → ℕ → Option Held → Type 0
IsLostCall (Some (Version x number)) j status old new slot = IsLostOf x.sealed j status old new × (slot ≡ Some (Version x number))
IsLostCall held j status old new slot = (status ≡ empty) × (new ≡ old) × (slot ≡ held)

-- C gets the bytes of a fragment: those of the put of the version. A lost fragment has none
pub data IsFragmentTo (x : VersionShows) (j f status : ℕ) (old new : List ℕ) : Type 0 where
  present : HasFragment x.sealed.code x.sealed.width x.sealed.len j f → status ≡ done → length new ≡ x.sealed.width → IsFragmentIn x.known.seen x.known.store.width x.name x.sealed.version j f new
      → IsFragmentTo x j f status old new
  absent : HasFragment x.sealed.code x.sealed.width x.sealed.len j f → absent_in x.sealed j f ≡ true → status ≡ already_lost → new ≡ old → IsFragmentTo x j f status old new
  none_such : (HasFragment x.sealed.code x.sealed.width x.sealed.len j f → ⊥) → status ≡ no_fragment → new ≡ old → IsFragmentTo x j f status old new

-- the slot holds a version; or nothing was done
abbrev pub IsFragmentCall : Option Held → ℕ → ℕ → ℕ → List ℕ → List ℕ → Type 0
IsFragmentCall (Some (Version x number)) j f status old new = IsFragmentTo x j f status old new
IsFragmentCall held j f status old new = (status ≡ empty) × (new ≡ old)

-- With `done` the other slot holds the pieces of the range, and C gets their number. These are bytes
-- of the put of the version. Otherwise the slot holds nothing
pub data IsRange (x : VersionShows) (start len status : ℕ) (counts : ℕ × ℕ) (given : Option Held) : Type 0 where
  granted_range : (g : Grant) → IsAnswer x.sealed start len (Granted g) → status ≡ done → (lent : List (List ℕ)) → IsLentFrom g lent → HasBytes x.known.seen x.name start len (concat lent) x.sealed.version
      → counts.1 ≡ length lent → given ≡ Some (Lending lent) → IsRange x start len status counts given
  outside_range : IsAnswer x.sealed start len OutOfRange → status ≡ out_of_range → counts.1 ≡ counts.0 → given ≡ None → IsRange x start len status counts given
  unreadable_range : IsAnswer x.sealed start len Unrecoverable → status ≡ unrecoverable → counts.1 ≡ counts.0 → given ≡ None → IsRange x start len status counts given
  no_room_for_range : status ≡ no_memory → counts.1 ≡ counts.0 → given ≡ None → IsRange x start len status counts given

-- With `done` the target has the bytes of the range, which are bytes of the put of the version. With
-- `not_rebuilt`, memory to rebuild some ran out, and any byte of the target may have been written.
-- Otherwise the target is unchanged
pub data IsRangeCopy (x : VersionShows) (start status : ℕ) (old new : List ℕ) : Type 0 where
  copied_range : (g : Grant) → IsAnswer x.sealed start (length old) (Granted g) → status ≡ done → HasBytes x.known.seen x.name start (length old) new x.sealed.version → IsRangeCopy x start status old new
  outside_copy : IsAnswer x.sealed start (length old) OutOfRange → status ≡ out_of_range → new ≡ old → IsRangeCopy x start status old new
  unreadable_copy : IsAnswer x.sealed start (length old) Unrecoverable → status ≡ unrecoverable → new ≡ old → IsRangeCopy x start status old new
  no_memory_to_ask : status ≡ no_memory → new ≡ old → IsRangeCopy x start status old new
  unbuilt_copy : (g : Grant) → IsAnswer x.sealed start (length old) (Granted g) → status ≡ not_rebuilt → HasAbsent g.sealed.value (cut_of g) → IsRangeCopy x start status old new

-- the slot holds a version; or nothing was done. The slot is as it was
abbrev pub IsCopyCall : Option Held → ℕ → ℕ → List ℕ → List ℕ → Option Held → Type 0
IsCopyCall (Some (Version x number)) start status old new slot = IsRangeCopy x start status old new × (slot ≡ Some (Version x number))
IsCopyCall held start status old new slot = (status ≡ empty) × (new ≡ old) × (slot ≡ held)

-- the other slot is empty before; or nothing was done
abbrev pub IsRangeTo : VersionShows → Option Held → ℕ → ℕ → ℕ → ℕ × ℕ → Option Held → Type 0
IsRangeTo x None start len status counts given = IsRange x start len status counts given
IsRangeTo x (Some y) start len status counts given = (status ≡ occupied) × (counts.1 ≡ counts.0) × (given ≡ Some y)

-- the first slot holds a version; or nothing was done. That slot is as it was
abbrev pub IsRangeCall : Option Held → Option Held → ℕ → ℕ → ℕ → ℕ × ℕ → Option Held → Option Held → Type 0
IsRangeCall (Some (Version x number)) other start len status counts slot given = IsRangeTo x other start len status counts given × (slot ≡ Some (Version x number))
IsRangeCall held other start len status counts slot given = (status ≡ empty) × (counts.1 ≡ counts.0) × (slot ≡ held) × (given ≡ other)
