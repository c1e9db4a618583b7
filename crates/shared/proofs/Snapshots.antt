-- What a snapshot holds, by the read that takes it.
use Rattle.std.proofs.Common.{◌≡◌, ℕ, Bool, false, List, [], ◌∷◌, ◌++◌, length, Option, None, Some, Result, Ok, Err, IfOk, IfErr, IfSome, IfNone, MatchBool, MatchOption, refl, ap, sym, subst, ◌∙◌, ⊎_elim, arith, append_assoc}
use Rattle.std.specs.FinMap as finite
use mathlib.Core.List.{IsPrefix}
use Rattle.gate.proofs.Lists.{prefix_trans}
use Rattle.sealed.specs.declared.fault.Fault.{Fault}
use Rattle.sealed.specs.declared.value.Sealed.{Sealed}
use Rattle.sealed.specs.Blob.{lost_in}
use Rattle.sealed.specs.Range.{is_outside, HasUnrecoverableByte}
use Rattle.history.specs.State.{Blob, State, empty_state}
use Rattle.history.specs.declared.note.Note.{Note}
use Rattle.history.specs.declared.note.Note.TheVariants as note
use Rattle.history.specs.Step.{Operation, read, IsReadReply}
use Rattle.history.specs.History.{History, state_of}
use Rattle.history.proofs.Beginnings.{after_all-append}
use Rattle.book.specs.declared.answer.Answer.{Answer}
use Rattle.book.specs.declared.answer.Answer.TheVariants as answer
use Rattle.book.specs.Notes.{note_of}
use Rattle.book.specs.Serial.{events_in}
use Rattle.requests.proofs.Between.{events-append}
use Rattle.shared.specs.Passes.{Shows, IsConsistent}
use Rattle.shared.specs.Deeds.{deed_of, act_if}
use Rattle.shared.specs.Calls.{Called, GrantedIn, IfGranted}
use Rattle.shared.specs.Snapshots.{version_held_by, IsVersionIn, HasNoBlob, HasFragmentsOf}
use Rattle.shared.proofs.Mends.{known_fragment}
use Rattle.shared.proofs.Requests.{put_later}
use Rattle.shared.proofs.Steps.{event}

-- ---- a range of no byte
inside : (n : ℕ) → is_outside n 0 0 ≡ false
inside n = grind arith

second_of : (b : Bool) (P Q : Type 0) → b ≡ false → MatchBool b P Q → Q
second_of b P Q e m = let M : Bool → Type 0 = λ b. MatchBool b P Q in subst M e m

-- where the name has a blob, the read is granted
reply_to : (w : ℕ) (found : Option Blob) (m : Note) → IsReadReply w found 0 0 m → MatchOption found (m ≡ note.NoName) (λ blob. m ≡ note.Granted blob.version)
reply_to w None m is = is
reply_to w (Some blob) m is =
    ⊎_elim (λ (has : HasUnrecoverableByte blob.code w (lost_in blob.lost) 0 0 × (m ≡ note.Unrecoverable blob.version)). absurd (let below = has.0.2 in omega arith))
    (λ (granted : (HasUnrecoverableByte blob.code w (lost_in blob.lost) 0 0 → ⊥) × (m ≡ note.Granted blob.version)). granted.1)
    (second_of (is_outside (length blob.bytes) 0 0) (m ≡ note.OutOfRange) _ (inside (length blob.bytes)) is)

-- ---- the answer
-- a read changes no state
same_state : (v w : Shows) (n : List ℕ) (start len : ℕ) (a : Answer) (made : Called v (read n start len) (Ok a) w) → state_of w.seen ≡ state_of (events_in (v.acts ++ made.takes.others))
same_state v w n start len a made =
    let h : History = events_in (v.acts ++ made.takes.others) in
    let e = event v.who (read n start len) a in
    ap state_of (made.takes.agrees.seen_is ∙ (ap events_in made.takes.acts ∙ events-append (v.acts ++ made.takes.others) _)) ∙ after_all-append empty_state h (e ∷ [])

-- the answer is the reply in the state that the pass has seen
seen_reply : (v w : Shows) (n : List ℕ) (start len : ℕ) (a : Answer) → Called v (read n start len) (Ok a) w → IsReadReply v.store.width (finite.get (state_of w.seen).names n) start len (note_of a)
seen_reply v w n start len a made =
    subst (λ (s : State). IsReadReply v.store.width (finite.get s.names n) start len (note_of a)) (sym (same_state v w n start len a made)) made.takes.does.1

no_grant : (a : Answer) (version : ℕ) → note_of a ≡ note.Granted version → version_held_by (Ok a) ≡ Ok None → ⊥
no_grant (answer.Granted g) version is none = cc (none)
no_grant a version is none = cc (is)

no_blob : (found : Option Blob) (a : Answer) → MatchOption found (note_of a ≡ note.NoName) (λ blob. note_of a ≡ note.Granted blob.version) → version_held_by (Ok a) ≡ Ok None → found ≡ None
no_blob None a is none = refl
no_blob (Some blob) a is none = absurd (no_grant a blob.version is none)

none_held : (r : Result Answer Fault) (v w : Shows) (n : List ℕ) → Called v (read n 0 0) r w → IfOk (version_held_by r) (λ found. IfNone found (HasNoBlob w.seen n))
none_held (Err e) v w n made = tt
none_held (Ok (answer.Granted g)) v w n made = tt
none_held (Ok a) v w n made = no_blob (finite.get (state_of w.seen).names n) a (reply_to v.store.width (finite.get (state_of w.seen).names n) (note_of a) (seen_reply v w n 0 0 a made)) refl

-- without a snapshot the name has no blob
pub has_no_blob : (r : Result Answer Fault) (result : Result (Option Sealed) Fault) (v w : Shows) (n : List ℕ) → result ≡ version_held_by r → Called v (read n 0 0) r w → IfOk result (λ found. IfNone found (HasNoBlob w.seen n))
has_no_blob r result v w n held made = subst (λ (x : Result (Option Sealed) Fault). IfOk x (λ found. IfNone found (HasNoBlob w.seen n))) (sym held) (none_held r v w n made)

-- ---- what is held
version_held : (r : Result Answer Fault) (h : History) (w : ℕ) (n : List ℕ) → IfOk r (λ a. IfGranted a (GrantedIn h w n 0 0)) → IfOk (version_held_by r) (λ found. IfSome found (IsVersionIn h w n))
version_held (Err e) h w n granted = tt
version_held (Ok (answer.Granted g)) h w n granted = record { blob = granted.blob; here = granted.here; represents = granted.represents; put_is = granted.put_is; only = granted.only }
version_held (Ok a) h w n granted = tt

-- a snapshot is of a version of the history
pub has_version : (r : Result Answer Fault) (result : Result (Option Sealed) Fault) (h : History) (w : ℕ) (n : List ℕ) → result ≡ version_held_by r → IfOk r (λ a. IfGranted a (GrantedIn h w n 0 0))
    → IfOk result (λ found. IfSome found (IsVersionIn h w n))
has_version r result h w n held granted = subst (λ (x : Result (Option Sealed) Fault). IfOk x (λ found. IfSome found (IsVersionIn h w n))) (sym held) (version_held r h w n granted)

-- its fragments are those of the put
fragments_held : (h : History) (w : ℕ) (n : List ℕ) (s : Sealed) → IsVersionIn h w n s → HasFragmentsOf h w n s
fragments_held h w n s is later j f bytes more has of =
    put_later h later w n s.version j f bytes more (known_fragment h w n s j f bytes (record { blob = is.blob; represents = is.represents; put_is = is.put_is }) has of)

pub has_fragments : (r : Result (Option Sealed) Fault) (h : History) (w : ℕ) (n : List ℕ) → IfOk r (λ found. IfSome found (IsVersionIn h w n)) → IfOk r (λ found. IfSome found (HasFragmentsOf h w n))
has_fragments (Err e) h w n is = tt
has_fragments (Ok None) h w n is = tt
has_fragments (Ok (Some s)) h w n is = fragments_held h w n s is

-- ---- later
-- a pass that asks for a call has still seen what it had seen
pub seen_still : (v w : Shows) (o : Operation) (r : Result Answer Fault) → IsConsistent v → Called v o r w → IsPrefix v.seen w.seen
seen_still v w o r agrees made =
    let takes = made.takes in
    let deed = act_if v.who (deed_of o r) in
    let more = takes.others ++ deed in
    let whole : v.acts ++ more ≡ w.acts = sym (append_assoc v.acts takes.others deed) ∙ sym takes.acts in
    (events_in more, ap (λ h. h ++ events_in more) agrees.seen_is ∙ (sym (events-append v.acts more) ∙ (ap events_in whole ∙ sym takes.agrees.seen_is)))

-- so it can still install the fragments of a snapshot
pub fragments_still : (v w : Shows) (o : Operation) (r : Result Answer Fault) (width : ℕ) (n : List ℕ) (s : Sealed) → IsConsistent v → Called v o r w → HasFragmentsOf v.seen width n s → HasFragmentsOf w.seen width n s
fragments_still v w o r width n s agrees made known later j f bytes more has of = known later j f bytes (prefix_trans v.seen w.seen later (seen_still v w o r agrees made) more) has of

-- ---- faults
-- they are those of the read
fault_held : (r : Result Answer Fault) (e : Fault) → version_held_by r ≡ Err e → r ≡ Err e
fault_held (Err f) e is = cc (is)
fault_held (Ok (answer.Granted g)) e is = absurd (cc (is))
fault_held (Ok a) e is = absurd (cc (is))

pub fault_of : (r : Result Answer Fault) (result : Result (Option Sealed) Fault) (e : Fault) → result ≡ version_held_by r → result ≡ Err e → r ≡ Err e
fault_of r result e held is = fault_held r e (sym held ∙ is)

faults_held : (r : Result Answer Fault) (P : Fault → Type 0) → IfErr r P → IfErr (version_held_by r) P
faults_held (Err e) P holds = holds
faults_held (Ok (answer.Granted g)) P holds = tt
faults_held (Ok a) P holds = tt

pub faults_are : (r : Result Answer Fault) (result : Result (Option Sealed) Fault) (P : Fault → Type 0) → result ≡ version_held_by r → IfErr r P → IfErr result P
faults_are r result P held holds = subst (λ (x : Result (Option Sealed) Fault). IfErr x P) (sym held) (faults_held r P holds)
