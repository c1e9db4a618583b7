-- Versions that C holds.
use Rattle.std.proofs.Common.{◌≡◌, ◌≢◌, ◌+◌, ℕ, List, Option, None, Some, Result, Ok, Err, IfOk, IfSome, IfNone, refl, sym, ap, subst, ◌∙◌}
use Rattle.std.specs.Prelude.{slice_range}
use Rattle.sealed.specs.declared.fault.Fault.{Fault}
use Rattle.sealed.specs.declared.fault.Fault.TheVariants.{Busy, NoMemory}
use Rattle.sealed.specs.declared.value.Sealed.{Sealed}
use Rattle.sealed.specs.Blob.{Lost}
use Rattle.sealed.specs.Sealed.{StandsFor}
use Rattle.lent.specs.declared.grant.Grant.{Grant}
use Rattle.lent.specs.declared.grant.Asked.{Asked}
use Rattle.lent.specs.declared.grant.Asked.TheVariants.{Granted}
use Rattle.lent.specs.Asked.{IsAnswer}
use Rattle.lent.specs.Granted.{range_of}
use Rattle.history.specs.Names.{IsName}
use Rattle.shared.specs.Passes.{Shows, FindsBusy}
use Rattle.shared.specs.Calls.{CanGrant}
use Rattle.shared.specs.Snapshots.{HasNoBlob}
use Rattle.named_calls.specs.Taken.{TakesSnapshot}
use Rattle.session.specs.declared.held.Held.{Held}
use Rattle.session.specs.declared.held.Held.TheVariants.{Session, Version}
use Rattle.session.specs.KnownFault.{IsBusyOrCallFault}
use Rattle.session.specs.VersionShows.{VersionShows, IsHeldFrom, IsKnownVersion, sealed_in}
use Rattle.store_c.specs.Status.{done, no_name, status_of_fault}
use Rattle.store_c.specs.OnSession.{HasBytes}
use Rattle.store_c.specs.Versions.{IsRangeCopy, IsCopyCall}
use Rattle.store_c.specs.Hold.{IsHold, IsHoldTo, IsHoldCall, held, nothing_held, hold_refused}

-- ---- the call of a session
renamed : (v : Shows) (number : ℕ) (m n : List ℕ) (status : ℕ) (before after : ℕ × ℕ) (w : Shows) (given : Option Held) → m ≡ n → IsHold v number m status before after w given → IsHold v number n status before after w given
renamed v number m n status before after w given same is = subst (λ (k : List ℕ). IsHold v number k status before after w given) same is

-- it gave a version
pub held_by : (v w : Shows) (number : ℕ) (m n : List ℕ) (r : Result (Option VersionShows) Fault) (x : VersionShows) (before after : ℕ × ℕ) (given : Option Held) → r ≡ Ok (Some x) → m ≡ n → IsName n
    → TakesSnapshot v m (sealed_in r) w → IfOk r (λ f. IfSome f (IsHeldFrom w m)) → after ≡ (x.sealed.version, x.sealed.len) → given ≡ Some (Version x number) → IsHold v number n done before after w given
held_by v w number m n r x before after given r_is same named taken from after_is given_is =
    renamed v number m n done before after w given same
    (held (subst IsName (sym same) named) x refl (subst (λ (f : Result (Option VersionShows) Fault). TakesSnapshot v m (sealed_in f) w) r_is taken)
    (subst (λ (f : Result (Option VersionShows) Fault). IfOk f (λ o. IfSome o (IsHeldFrom w m))) r_is from) after_is given_is)

-- the name has no blob
pub none_by : (v w : Shows) (number : ℕ) (m n : List ℕ) (r : Result (Option VersionShows) Fault) (before after : ℕ × ℕ) (given : Option Held) → r ≡ Ok None → m ≡ n → IsName n
    → TakesSnapshot v m (sealed_in r) w → IfOk r (λ f. IfNone f (HasNoBlob w.seen m)) → after ≡ before → given ≡ None → IsHold v number n no_name before after w given
none_by v w number m n r before after given r_is same named taken none after_is given_is =
    renamed v number m n no_name before after w given same
    (nothing_held (subst IsName (sym same) named) refl (subst (λ (f : Result (Option VersionShows) Fault). TakesSnapshot v m (sealed_in f) w) r_is taken)
    (subst (λ (f : Result (Option VersionShows) Fault). IfOk f (λ o. IfNone o (HasNoBlob w.seen m))) r_is none) after_is given_is)

-- it was refused
pub refused_by : (v w : Shows) (number : ℕ) (m n : List ℕ) (r : Result (Option VersionShows) Fault) (e : Fault) (status : ℕ) (before after : ℕ × ℕ) (given : Option Held) → r ≡ Err e → m ≡ n → IsName n → status ≡ status_of_fault e → IsBusyOrCallFault e
    → TakesSnapshot v m (sealed_in r) w → (r ≡ Err NoMemory → CanGrant w.seen v.store.width m 0 0) → (r ≡ Err Busy → FindsBusy v w) → (v.room ≡ 64 → r ≢ Err Busy) → after ≡ before → given ≡ None → IsHold v number n status before after w given
refused_by v w number m n r e status before after given r_is same named status_is known taken no_memory busy lone after_is given_is =
    let like : (k : Fault) → e ≡ k → r ≡ Err k = λ k i. r_is ∙ ap Err i in
    renamed v number m n status before after w given same
    (hold_refused (subst IsName (sym same) named) e status_is known (subst (λ (f : Result (Option VersionShows) Fault). TakesSnapshot v m (sealed_in f) w) r_is taken)
    (λ i. no_memory (like NoMemory i)) (λ i. busy (like Busy i)) (λ room i. lone room (like Busy i)) after_is given_is)

-- if the slot held a session
pub on_hold : (old new other given : Option Held) (v w : Shows) (number : ℕ) (name : List ℕ) (status : ℕ) (before after : ℕ × ℕ) → old ≡ Some (Session v number) → new ≡ Some (Session w number) → IsHoldTo v number other name status before after w given
    → IsHoldCall old other name status before after new given
on_hold old new other given v w number name status before after was is did =
    subst (λ (h : Option Held). IsHoldCall h other name status before after new given) (sym was)
    (subst (λ (h : Option Held). IsHoldCall (Some (Session v number)) other name status before after h given) (sym is) (did, refl))

-- ---- a range of a version
pub answered : {E : Type 0} (r : Result Asked E) (g : Grant) (s t : Sealed) (start len : ℕ) → r ≡ Ok (Granted g) → s ≡ t → IfOk r (IsAnswer s start len) → IsAnswer t start len (Granted g)
answered {E} r g s t start len r_is same is =
    subst (λ (u : Sealed). IsAnswer u start len (Granted g)) same (subst (λ (x : Result Asked E). IfOk x (IsAnswer s start len)) r_is is)

-- bytes of a grant of it are those of its put
pub range_bytes : (x : VersionShows) (g : Grant) (start len : ℕ) (bytes : List ℕ) → IsKnownVersion x → g.sealed.value ≡ x.sealed → g.start ≡ start → g.len ≡ len
    → ((b : List ℕ) (lost : Lost) → StandsFor g.sealed.value b lost → bytes ≡ range_of g b) → HasBytes x.known.seen x.name start len bytes x.sealed.version
range_bytes x g start len bytes is sealed_is start_is len_is range_is =
    let v = is.version in record {
      blob = v.blob;
      here = v.here;
      bytes_are = range_is v.blob.bytes v.blob.lost (subst (λ (s : Sealed). StandsFor s v.blob.bytes v.blob.lost) (sym sealed_is) v.represents.stands)
          ∙ (λ i. slice_range v.blob.bytes (start_is i) (start_is i + len_is i));
      version_is = v.represents.version;
      put_is = v.put_is;
    }

-- ---- copies of a held version
-- if the slot holds one
pub on_copy : (old new : Option Held) (x : VersionShows) (number start status : ℕ) (before after : List ℕ) → old ≡ Some (Version x number) → new ≡ old → IsRangeCopy x start status before after
    → IsCopyCall old start status before after new
on_copy old new x number start status before after was same is =
    subst (λ (h : Option Held). IsCopyCall h start status before after new) (sym was) (is, same ∙ was)
