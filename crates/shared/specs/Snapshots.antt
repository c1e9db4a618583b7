-- Snapshots: versions of blobs that a pass takes out of a store.
use Rattle.std.specs.Prelude.{◌≡◌, ℕ, List, Option, None, Some, Result, Ok, Err}
use Rattle.std.specs.FinMap as finite
use mathlib.Core.List.{IsPrefix}
use Rattle.lrc_code.specs.declared.Code.{Code}
use Rattle.sealed.specs.declared.fault.Fault.{Fault}
use Rattle.sealed.specs.declared.value.Sealed.{Sealed}
use Rattle.sealed.specs.Layout.{HasFragment}
use Rattle.sealed.specs.Rebuilding.{IsFragmentOf}
use Rattle.history.specs.State.{Blob}
use Rattle.history.specs.Step.{put}
use Rattle.history.specs.History.{History, HasPut, state_of}
use Rattle.book.specs.declared.answer.Answer.{Answer}
use Rattle.book.specs.declared.answer.Answer.TheVariants.{Granted}
use Rattle.book.specs.Known.{IsFragmentIn}
use Rattle.book.specs.Holds.{Represents}

-- what the answer to a read of no byte gives: the version that a grant holds, none if the name has
-- no blob, or the same fault. Such a read has no other answer
abbrev pub version_held_by : Result Answer Fault → Result (Option Sealed) Fault
version_held_by (Ok (Granted g)) = Ok (Some g.sealed.value)
version_held_by (Ok answer) = Ok None
version_held_by (Err e) = Err e

-- After the history the name has a blob, which the value represents. The blob was put in the
-- history under its version, and no other put has this version.
pub record IsVersionIn (h : History) (w : ℕ) (n : List ℕ) (s : Sealed) : Type 0 where
  pub blob : Blob
  pub here : finite.get (state_of h).names n ≡ Some blob
  pub represents : Represents w s blob
  pub put_is : HasPut h blob.version n blob.code blob.bytes
  pub only : (other : List ℕ) (code : Code) (bytes : List ℕ) → HasPut h blob.version other code bytes → put other code bytes ≡ put n blob.code blob.bytes

-- after the history the name has no blob
abbrev pub HasNoBlob : History → List ℕ → Type 0
HasNoBlob h n = finite.get (state_of h).names n ≡ None

-- in this history and each longer one, each fragment of the value is one of the blob that was put
-- under this name and the value's version
abbrev pub HasFragmentsOf : History → ℕ → List ℕ → Sealed → Type 0
HasFragmentsOf h w n s = (later : History) (j f : ℕ) (bytes : List ℕ) → IsPrefix h later → HasFragment s.code s.width s.len j f → IsFragmentOf s j f bytes
    → IsFragmentIn later w n s.version j f bytes
