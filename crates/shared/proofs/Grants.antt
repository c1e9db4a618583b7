-- What a granted read makes of a pass.
use Rattle.std.proofs.Common.{◌≡◌, ℕ, ◌+◌, ◌≤◌, Bool, false, List, [], ◌∷◌, ◌++◌, length, Option, None, Some, Result, Ok, Err, IfOk, MatchBool, refl, ap, sym, subst, ◌∙◌, inr, arith}
use Rattle.std.proofs.lemmas.List.{append-nil}
use Rattle.std.specs.FinMap as finite
use Rattle.gate.specs.Places.{SeatState}
use Rattle.sealed.specs.declared.value.Sealed.{Sealed}
use Rattle.sealed.specs.declared.fault.Fault.{Fault}
use Rattle.sealed.specs.declared.fault.Fault.TheVariants.{NoMemory}
use Rattle.lent.specs.declared.grant.Grant.{Grant}
use Rattle.sealed.specs.Range.{is_outside}
use Rattle.history.specs.State.{Blob, State, empty_state}
use Rattle.history.specs.declared.note.Note.TheVariants as noted
use Rattle.history.specs.Step.{read, IsReadReply}
use Rattle.history.specs.History.{Event, History, HasPut, state_of}
use Rattle.history.proofs.Beginnings.{after_all-append}
use Rattle.book.specs.declared.answer.Answer.{Answer}
use Rattle.book.specs.declared.answer.Answer.TheVariants as answer
use Rattle.book.specs.Asked.{IsReadAnswer, IsGrantable}
use Rattle.book.specs.Contents.{sealed_at}
use Rattle.book.specs.Serial.{events_in}
use Rattle.book.specs.Holds.{Represents, Correspond}
use Rattle.book.proofs.Reading.{inside_from}
use Rattle.book.proofs.Same.{unreadable_alike}
use Rattle.book.proofs.Versions.{was_put, only_put}
use Rattle.requests.specs.declared.boxed_book.BoxedBook.{BoxedBook}
use Rattle.requests.specs.declared.request.Request.{Request}
use Rattle.requests.specs.declared.request.Request.TheVariants.{Put, Read, Lose, Install, Restore, Delete, Stat}
use Rattle.shared.specs.Passes.{seen_of, width_of}
use Rattle.shared.specs.Calls.{GrantedIn, IfGranted}
use Rattle.requests.specs.Requests.{operation_of, IsAnswerTo, MayWant}
use Rattle.shared.specs.Requests.{IsGrantedTo, WantedFor}
use Rattle.shared.proofs.Steps.{event, made_by, Stepped, told_history}

-- a grant of the book, by the state
grant_in : (w : ℕ) (found : Option Sealed) (had : Option Blob) (start len : ℕ) (g : Grant) → IsReadAnswer found start len (answer.Granted g) → Correspond w found had
    → (blob : Blob) × (had ≡ Some blob) × Represents w g.sealed.value blob × (g.start ≡ start) × (g.len ≡ len)
grant_in w None had start len g right both = absurd right
grant_in w (Some s) None start len g right both = absurd both
grant_in w (Some s) (Some blob) start len g right both = (blob, refl, subst (λ (x : Sealed). Represents w x blob) (sym right.0) both, right.1, right.2)

granted : (p q : SeatState BoxedBook) (x : BoxedBook) (who w : ℕ) (n : List ℕ) (start len : ℕ) (a : Answer) → Stepped p q x (event who (read n start len) a ∷ []) 0 → width_of q.list ≡ w
    → IsReadAnswer (sealed_at x.0.value n) start len a → IfGranted a (GrantedIn (seen_of q.list) w n start len)
granted p q x who w n start len (answer.Granted g) s width right =
    let h : History = seen_of p.list ++ events_in s.others in
    let e : Event = event who (read n start len) (answer.Granted g) in
    let state : state_of (seen_of q.list) ≡ state_of h = ap state_of s.seen ∙ after_all-append empty_state h (e ∷ []) in
    let is = grant_in x.0.value.width (sealed_at x.0.value n) (finite.get (state_of h).names n) start len g right ((told_history p q x _ 0 s).catalogue n) in
    let here : finite.get (state_of (seen_of q.list)).names n ≡ Some is.0 = ap (λ (t : State). finite.get t.names n) state ∙ is.1 in
    let put_is : HasPut (seen_of q.list) is.0.version n is.0.code is.0.bytes = was_put (width_of q.list) (seen_of q.list) s.legal n is.0 here in record {
      start_is = is.3;
      len_is = is.4;
      blob = is.0;
      here = here;
      represents = subst (λ (v : ℕ). Represents v g.sealed.value is.0) (s.holds.width ∙ width) is.2;
      put_is = put_is;
      only = λ m code c other. only_put (width_of q.list) (seen_of q.list) s.legal is.0.version n m is.0.code code is.0.bytes c put_is other;
    }
granted p q x who w n start len a s width right = tt

-- where the request is a read
pub all_granted : (r : Result Answer Fault) (p q : SeatState BoxedBook) (x : BoxedBook) (who w : ℕ) (request : Request) → Stepped p q x (made_by who (operation_of request) r) 0 → width_of q.list ≡ w
    → IfOk r (IsAnswerTo x.0.value request) → IfOk r (IsGrantedTo (seen_of q.list) w request)
all_granted (Err e) p q x who w request s width right = tt
all_granted (Ok a) p q x who w (Read n start len) s width right = granted p q x who w n start len a s width right
all_granted (Ok a) p q x who w (Put alloc n sealed) s width right = tt
all_granted (Ok a) p q x who w (Lose alloc n j f) s width right = tt
all_granted (Ok a) p q x who w (Install alloc n version j f bytes) s width right = tt
all_granted (Ok a) p q x who w (Restore alloc n version j f bytes) s width right = tt
all_granted (Ok a) p q x who w (Delete n) s width right = tt
all_granted (Ok a) p q x who w (Stat n) s width right = tt

second_case : (b : Bool) (P Q : Type 0) → b ≡ false → Q → MatchBool b P Q
second_case b P Q e q = let M : Bool → Type 0 = λ b. MatchBool b P Q in subst M (sym e) q

-- what the book can grant is granted by the object
can_grant : (w : ℕ) (found : Option Sealed) (had : Option Blob) (start len : ℕ) → IsGrantable found start len → Correspond w found had
    → (version : ℕ) × IsReadReply w had start len (noted.Granted version)
can_grant w None had start len can both = absurd can
can_grant w (Some s) None start len can both = absurd both
can_grant w (Some s) (Some blob) start len can both =
    let wide : 1 ≤ w = subst (λ (n : ℕ). 1 ≤ n) both.width s.shaped.wide in
    let len_is : s.len ≡ length blob.bytes = both.stands.length_is in
    let fits : start + len ≤ length blob.bytes = omega (arith, inside_from s.len start len can.0, len_is) in
    (blob.version, second_case _ _ _ (subst (λ (l : ℕ). is_outside l start len ≡ false) len_is can.0) (inr (λ u. can.1 ((unreadable_alike w wide s blob both start len fits).1 u), refl)))

-- where the request is a read, memory was wanted for a grant
pub wanted_for : (r : Result Answer Fault) (p q : SeatState BoxedBook) (x : BoxedBook) (who w : ℕ) (request : Request) → Stepped p q x (made_by who (operation_of request) r) 0 → width_of q.list ≡ w
    → (r ≡ Err NoMemory → MayWant x.0.value request) → r ≡ Err NoMemory → WantedFor (seen_of q.list) w request
wanted_for (Ok a) p q x who w request s width may is = absurd (cc (is))
wanted_for (Err e) p q x who w (Read n start len) s width may is =
    let h : History = seen_of p.list ++ events_in s.others in
    let same : h ≡ seen_of q.list = sym (s.seen ∙ append-nil h) in
    let can = can_grant x.0.value.width (sealed_at x.0.value n) (finite.get (state_of h).names n) start len (may is) ((told_history p q x _ 0 s).catalogue n) in
    let at_last = subst (λ (g : History). IsReadReply x.0.value.width (finite.get (state_of g).names n) start len (noted.Granted can.0)) same can.1 in
    (can.0, subst (λ (v : ℕ). IsReadReply v (finite.get (state_of (seen_of q.list)).names n) start len (noted.Granted can.0)) (s.holds.width ∙ width) at_last)
wanted_for (Err e) p q x who w (Put alloc n sealed) s width may is = tt
wanted_for (Err e) p q x who w (Lose alloc n j f) s width may is = tt
wanted_for (Err e) p q x who w (Install alloc n version j f bytes) s width may is = tt
wanted_for (Err e) p q x who w (Restore alloc n version j f bytes) s width may is = tt
wanted_for (Err e) p q x who w (Delete n) s width may is = tt
wanted_for (Err e) p q x who w (Stat n) s width may is = tt
