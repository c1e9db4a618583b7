-- The effect of a call from C on the session in its slot, and what C gets.
use Rattle.std.specs.Prelude.{◌≡◌, ◌≢◌, ◌⊎◌, ◌+◌, ◌<◌, ◌≤◌, ℕ, List, length, slice_range, Result, Ok, Err, IfOk, IfErr, Option, Some, None}
use Rattle.std.specs.FinMap as finite
use Rattle.lrc_code.specs.declared.Code.{Code}
use Rattle.sealed.specs.declared.fault.Fault.{Fault}
use Rattle.sealed.specs.declared.fault.Fault.TheVariants.{Busy, NoMemory}
use Rattle.history.specs.Names.{IsName}
use Rattle.history.specs.State.{Blob}
use Rattle.history.specs.Step.{Operation, put, read, repair, stat}
use Rattle.history.specs.History.{History, HasPut, state_of}
use Rattle.lent.specs.declared.grant.Grant.{Grant}
use Rattle.lent.specs.Granted.{cut_of}
use Rattle.lent.specs.Walk.{HasAbsent}
use Rattle.book.specs.declared.answer.Answer.{Answer}
use Rattle.book.specs.declared.answer.Answer.TheVariants.{Granted}
use Rattle.shared.specs.Passes.{Shows, FindsBusy}
use Rattle.shared.specs.Calls.{Called}
use Rattle.shared.specs.Deeds.{Takes, trim_deed}
use Rattle.shared.specs.Mends.{FoundBusy}
use Rattle.session.specs.CopyOf.{IsCopy}
use Rattle.session.specs.KnownFault.{HasKnownFault}
use Rattle.session.specs.declared.held.Held.{Held}
use Rattle.session.specs.declared.held.Held.TheVariants.{Session}
use Rattle.store_c.specs.Status.{bad_argument, bad_name, done, empty, no_memory, not_rebuilt, status_of, status_of_count, version_of, shape_of, count_of, code_with}

-- the effect of a call that found another thread in the critical section
abbrev pub IsAfterBusy : Shows → Operation → Shows → Type 0
IsAfterBusy v (repair n j f) w = FoundBusy v n j f w
IsAfterBusy v operation w = FindsBusy v w

-- The call has this reply, whose error, if any, is one that the operation may have. C gets the
-- status, and the version if there is one. While the store has no other session, the call never
-- finds another thread in the critical section
pub record HasReply (v : Shows) (operation : Operation) (reply : Result Answer Fault) (status before after : ℕ) (w : Shows) : Type 0 where
  pub called : Called v operation reply w
  pub faults : HasKnownFault v operation reply w
  pub status_is : status ≡ status_of reply
  pub version_is : after ≡ version_of before reply
  pub busy : reply ≡ Err Busy → IsAfterBusy v operation w
  pub lone : v.room ≡ 64 → reply ≢ Err Busy

-- it has some reply
abbrev pub HasSomeReply : Shows → Operation → ℕ → ℕ → ℕ → Shows → Type 0
HasSomeReply v operation status before after w = (reply : Result Answer Fault) × HasReply v operation reply status before after w

-- the bytes are a name and the call was made, or they are none and nothing was done
pub data IsNamedCall (v : Shows) (name : List ℕ) (operation : List ℕ → Operation) (status before after : ℕ) (w : Shows) : Type 0 where
  unnamed : (IsName name → ⊥) → status ≡ bad_name → after ≡ before → w ≡ v → IsNamedCall v name operation status before after w
  named : IsName name → HasSomeReply v (operation name) status before after w → IsNamedCall v name operation status before after w

-- the arguments of a put are refused: first the name, then the number of data fragments
pub data IsPutRefusal (name : List ℕ) (data_fragments status : ℕ) : Type 0 where
  unnamed_put : (IsName name → ⊥) → status ≡ bad_name → IsPutRefusal name data_fragments status
  uncoded_put : IsName name → code_with data_fragments ≡ None → status ≡ bad_argument → IsPutRefusal name data_fragments status

-- a put of these bytes was made; or memory for a copy ran out, and nothing was done
pub data IsPutOf (v : Shows) (name : List ℕ) (code : Code) (bytes : List ℕ) (status before after : ℕ) (w : Shows) : Type 0 where
  uncopied_put : status ≡ no_memory → after ≡ before → w ≡ v → IsPutOf v name code bytes status before after w
  answered_put : HasSomeReply v (put name code bytes) status before after w → IsPutOf v name code bytes status before after w

-- the arguments of a put are a name and a code; or they are refused before anything else, and
-- nothing was done
pub data IsPutCall (v : Shows) (name bytes : List ℕ) (data_fragments status before after : ℕ) (w : Shows) : Type 0 where
  refused_put : IsPutRefusal name data_fragments status → after ≡ before → w ≡ v → IsPutCall v name bytes data_fragments status before after w
  accepted_put : (code : Code) → IsName name → code_with data_fragments ≡ Some code → IsPutOf v name code bytes status before after w → IsPutCall v name bytes data_fragments status before after w

-- after this history these are `len` bytes of the name's blob, from `start` on, which was put with
-- this version
pub record HasBytes (h : History) (n : List ℕ) (start len : ℕ) (bytes : List ℕ) (version : ℕ) : Type 0 where
  pub blob : Blob
  pub here : finite.get (state_of h).names n ≡ Some blob
  pub bytes_are : bytes ≡ slice_range blob.bytes start (start + len)
  pub version_is : version ≡ blob.version
  pub put_is : HasPut h blob.version n blob.code blob.bytes

-- C passed a name. With DONE the target has the bytes of the range, and C gets the numbers of lent
-- and of rebuilt ones. With NOT_REBUILT, memory to rebuild some bytes ran out. The call is in the
-- history too, and any byte of the target may have been written. Otherwise the target is unchanged
pub data IsReadCall (v : Shows) (name : List ℕ) (start : ℕ) (old new : List ℕ) (status before after : ℕ) (counts_old counts_new : ℕ × ℕ) (w : Shows) : Type 0 where
  unnamed_read : (IsName name → ⊥) → status ≡ bad_name → after ≡ before → new ≡ old → counts_new ≡ counts_old → w ≡ v → IsReadCall v name start old new status before after counts_old counts_new w
  answered_read : IsName name → HasSomeReply v (read name start (length old)) status before after w → status ≢ done → new ≡ old → counts_new ≡ counts_old → IsReadCall v name start old new status before after counts_old counts_new w
  granted_read : IsName name → (g : Grant) → HasReply v (read name start (length old)) (Ok (Granted g)) done before after w → status ≡ done → IsCopy g new counts_new.0 counts_new.1
      → HasBytes w.seen name start (length old) new after → IsReadCall v name start old new status before after counts_old counts_new w
  unbuilt_read : IsName name → (g : Grant) → HasReply v (read name start (length old)) (Ok (Granted g)) done before after w → status ≡ not_rebuilt → HasAbsent g.sealed.value (cut_of g)
      → counts_new ≡ counts_old → IsReadCall v name start old new status before after counts_old counts_new w

-- C gets the numbers of the shape
pub data IsStatCall (v : Shows) (name : List ℕ) (status before after : ℕ) (old new : ℕ × ℕ × ℕ) (w : Shows) : Type 0 where
  unnamed_stat : (IsName name → ⊥) → status ≡ bad_name → after ≡ before → new ≡ old → w ≡ v → IsStatCall v name status before after old new w
  answered_stat : IsName name → (reply : Result Answer Fault) → HasReply v (stat name) reply status before after w → new ≡ shape_of old reply → IsStatCall v name status before after old new w

-- The slot held a session, and holds it again after this was done to it; or it held none, and
-- nothing was done
abbrev pub IsOnSession : Option Held → ℕ → Option Held → Type 0 → (Shows → Shows → Type 0) → Type 0
IsOnSession (Some (Session v number)) status (Some (Session w same)) Unchanged Did = Did v w × (same ≡ number)
IsOnSession (Some (Session v number)) status new Unchanged Did = ⊥
IsOnSession old status new Unchanged Did = (status ≡ empty) × (new ≡ old) × Unchanged

-- The same for a trim of at most so many entries. If there were fewer it is a trim of all
pub record IsTrimPartCall (v : Shows) (keep most status before after : ℕ) (w : Shows) : Type 0 where
  pub reply : Result ℕ Fault
  pub part : (k : ℕ) × (keep ≤ k) × Takes v (trim_deed k reply) w
  pub few : IfOk reply (λ n. n ≤ most)
  pub whole : IfOk reply (λ n. n < most → Takes v (trim_deed keep reply) w)
  pub faults : IfErr reply (λ e. (e ≡ Busy) ⊎ (e ≡ NoMemory))
  pub status_is : status ≡ status_of_count reply
  pub count_is : after ≡ count_of before reply
  pub busy : reply ≡ Err Busy → FindsBusy v w
  pub lone : v.room ≡ 64 → reply ≢ Err Busy

-- a trim has this reply, of which C gets the status and the count
pub record IsTrimCall (v : Shows) (keep status before after : ℕ) (w : Shows) : Type 0 where
  pub reply : Result ℕ Fault
  pub takes : Takes v (trim_deed keep reply) w
  pub faults : IfErr reply (λ e. (e ≡ Busy) ⊎ (e ≡ NoMemory))
  pub status_is : status ≡ status_of_count reply
  pub count_is : after ≡ count_of before reply
  pub busy : reply ≡ Err Busy → FindsBusy v w
  pub lone : v.room ≡ 64 → reply ≢ Err Busy
