-- Restorations with bytes that C passes.
use Rattle.std.specs.Prelude.{◌≡◌, ◌≢◌, ℕ, List, length, Result, Option, Some}
use Rattle.sealed.specs.declared.fault.Fault.{Fault}
use Rattle.sealed.specs.Layout.{HasFragment}
use Rattle.book.specs.declared.answer.Answer.{Answer}
use Rattle.book.specs.Known.{IsFragmentIn}
use Rattle.shared.specs.Passes.{Shows}
use Rattle.session.specs.declared.held.Held.{Held}
use Rattle.session.specs.declared.held.Held.TheVariants.{Session, Version}
use Rattle.session.specs.Learns.{HasRestored}
use Rattle.session.specs.VersionShows.{VersionShows}
use Rattle.store_c.specs.Status.{bad_argument, empty, no_fragment, no_memory, status_of, version_of}

-- The session and the version are of one store if they have one number. The bytes are the fragment
-- of the version's put, if there is such a fragment and they are as many
pub record CanRestore (v : Shows) (number : ℕ) (x : VersionShows) (theirs j f : ℕ) (bytes : List ℕ) : Type 0 where
  pub store : theirs ≡ number → x.known.store ≡ v.store
  pub own : HasFragment x.sealed.code x.sealed.width x.sealed.len j f → length bytes ≡ x.sealed.width → IsFragmentIn x.known.seen x.known.store.width x.name x.sealed.version j f bytes

-- where the slots hold a session and a version
abbrev pub MayRestore : Option Held → Option Held → ℕ → ℕ → List ℕ → Type 0
MayRestore (Some (Session v number)) (Some (Version x theirs)) j f bytes = CanRestore v number x theirs j f bytes
MayRestore old other j f bytes = Unit {0}

-- The fragment was restored, with this reply, or nothing was done: the two are of two stores, the
-- version has no such fragment, the bytes are not as many, or memory for a copy ran out
pub data IsRestore (v : Shows) (number : ℕ) (x : VersionShows) (theirs j f : ℕ) (bytes : List ℕ) (status : ℕ) (versions : ℕ × ℕ) (w : Shows) : Type 0 where
  of_another_store : theirs ≢ number → status ≡ bad_argument → versions.1 ≡ versions.0 → w ≡ v → IsRestore v number x theirs j f bytes status versions w
  of_no_fragment : (HasFragment x.sealed.code x.sealed.width x.sealed.len j f → ⊥) → status ≡ no_fragment → versions.1 ≡ versions.0 → w ≡ v → IsRestore v number x theirs j f bytes status versions w
  of_another_length : length bytes ≢ x.sealed.width → status ≡ bad_argument → versions.1 ≡ versions.0 → w ≡ v → IsRestore v number x theirs j f bytes status versions w
  uncopied : status ≡ no_memory → versions.1 ≡ versions.0 → w ≡ v → IsRestore v number x theirs j f bytes status versions w
  restored : theirs ≡ number → (reply : Result Answer Fault) → HasRestored v x j f reply w → status ≡ status_of reply → versions.1 ≡ version_of versions.0 reply → IsRestore v number x theirs j f bytes status versions w

-- the first slot holds a session, and the other a version, which stays there; or nothing was done
abbrev pub IsRestoreCall : Option Held → Option Held → ℕ → ℕ → List ℕ → ℕ → ℕ × ℕ → Option Held → Option Held → Type 0
IsRestoreCall (Some (Session v number)) (Some (Version x theirs)) j f bytes status versions (Some (Session w same)) given = IsRestore v number x theirs j f bytes status versions w × (same ≡ number) × (given ≡ Some (Version x theirs))
IsRestoreCall (Some (Session v number)) (Some (Version x theirs)) j f bytes status versions new given = ⊥
IsRestoreCall old other j f bytes status versions new given = (status ≡ empty) × (versions.1 ≡ versions.0) × (new ≡ old) × (given ≡ other)
