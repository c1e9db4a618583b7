-- What a pass may ask, and what is refused it.
use Rattle.std.proofs.Common.{◌≡◌, ◌⊎◌, ℕ, ◌+◌, ◌<◌, List, ◌++◌, length, None, Err, refl, ap, sym, subst, ◌∙◌, ⊎_elim, arith, append_assoc}
use mathlib.Core.List.{IsPrefix}
use Rattle.gate.specs.Places.{SeatState}
use Rattle.sealed.specs.declared.fault.Fault.{Fault}
use Rattle.sealed.specs.declared.fault.Fault.TheVariants.{NoMemory, TooLong, Busy}
use Rattle.sealed.specs.Layout.{stripe_count}
use Rattle.history.specs.Step.{Operation, put}
use Rattle.history.specs.History.{History}
use Rattle.book.specs.Holds.{HoldsHistory}
use Rattle.book.specs.Known.{IsFragmentIn}
use Rattle.requests.specs.declared.boxed_book.BoxedBook.{BoxedBook}
use Rattle.requests.specs.declared.request.Request.{Request}
use Rattle.requests.specs.declared.request.Request.TheVariants.{Put, Read, Lose, Install, Restore, Delete, Stat}
use Rattle.lrc_code.specs.declared.Code.{Code}
use Rattle.shared.specs.Deeds.{Takes}
use Rattle.shared.specs.Calls.{Called}
use Rattle.shared.specs.Passes.{Shows, IsPass, IsConsistent, FindsBusy, VisitsOnce, seen_of, width_of, shows}
use Rattle.requests.specs.Requests.{CanMake}
use Rattle.shared.specs.Requests.{CanAsk}
use Rattle.shared.proofs.Passes.{agreed, pass_again}
use Rattle.shared.proofs.Steps.{Enters, Found, found, found_before, takes_nothing, refused}

-- what is known of a put stays known
pub put_later : (h h' : History) (w : ℕ) (n : List ℕ) (v j f : ℕ) (x : List ℕ) → IsPrefix h h' → IsFragmentIn h w n v j f x → IsFragmentIn h' w n v j f x
put_later h h' w n v j f x more is = record {
  code = is.code;
  bytes = is.bytes;
  put = record {
    who = is.put.who;
    before = is.put.before;
    later = is.put.later ++ more.0;
    whole = sym more.1 ∙ ap (λ l. l ++ more.0) is.put.whole ∙ append_assoc is.put.before _ more.0;
  };
  stripe = is.stripe;
  number = is.number;
  is = is.is;
}

-- a fragment that a pass knows is known of the book that it finds
known_still : (p m : SeatState BoxedBook) (x : BoxedBook) → Found p m x → (n : List ℕ) (version j g : ℕ) (bytes : List ℕ) → IsFragmentIn (seen_of p.list) (width_of p.list) n version j g bytes
    → (h : History) × HoldsHistory x.0.value h × IsFragmentIn h x.0.value.width n version j g bytes
known_still p m x f n version j g bytes known = (
  seen_of m.list,
  f.holds.holds.holds,
  subst (λ (w : ℕ). IsFragmentIn (seen_of m.list) w n version j g bytes) (sym f.holds.width) (put_later (seen_of p.list) (seen_of m.list) (width_of p.list) n version j g bytes (found_before p m x f) known),
)

-- what a pass may ask can be made on the book that it finds
can_make : (p m : SeatState BoxedBook) (x : BoxedBook) (who : ℕ) (request : Request) → Found p m x → CanAsk (shows p who) request → CanMake x.0.value request
can_make p m x who (Put alloc n s) f can = (can.0 ∙ sym f.holds.width, can.1)
can_make p m x who (Install alloc n version j g bytes) f can = known_still p m x f n version j g bytes can
can_make p m x who (Restore alloc n version j g bytes) f can = known_still p m x f n version j g bytes can
can_make p m x who (Read n start len) f can = tt
can_make p m x who (Lose alloc n j g) f can = tt
can_make p m x who (Delete n) f can = tt
can_make p m x who (Stat n) f can = tt

-- and on the book that it enters to
pub can_make_inside : (p m : SeatState BoxedBook) (x : BoxedBook) (who : ℕ) (request : Request) (v : Shows) → shows p who ≡ v → IsPass p → Enters p m x → CanAsk v request → CanMake x.0.value request
can_make_inside p m x who request v same pass enters can = can_make p m x who request (found p m x pass enters) (subst (λ (u : Shows). CanAsk u request) (sym same) can)

-- a blob that was refused before the gate was entered
pub refused_put : (v : Shows) (n : List ℕ) (code : Code) (b : List ℕ) (w : ℕ) (f : Fault) → IsConsistent v → w ≡ v.store.width → (f ≡ NoMemory) ⊎ (f ≡ TooLong)
    → (f ≡ TooLong → 4096 < stripe_count code w (length b)) → Called v (put n code b) (Err f) v
refused_put v n code b w f agrees width is long =
    refused v (put n code b) f agrees (λ full. ⊎_elim (λ (m : f ≡ NoMemory). cc (m, full)) (λ (t : f ≡ TooLong). cc (t, full)) is) (λ _. refl)
    (λ there. subst (λ (u : ℕ). 4096 < stripe_count code u (length b)) width (long there))

-- a seat found another inside, and is else as it was
abbrev pub FoundInside : SeatState BoxedBook → SeatState BoxedBook → Type 0
FoundInside p q = (length p.list < q.expected_length) × (q ≡ record p { expected_length = q.expected_length })

pub busy_pass : (p q : SeatState BoxedBook) → IsPass p → FoundInside p q → IsPass q
busy_pass p q pass found =
    pass_again p q pass (ap (λ (s : SeatState BoxedBook). s.list) found.1) (ap (λ (s : SeatState BoxedBook). s.own) found.1) (ap (λ (s : SeatState BoxedBook). s.inside) found.1 ∙ pass.outside)

nothing_done : (p q : SeatState BoxedBook) (who : ℕ) → IsPass p → q ≡ record p { expected_length = q.expected_length } → Takes (shows p who) None (shows q who)
nothing_done p q who pass same =
    let v : Shows = shows p who in
    let agrees = agreed p who pass in
    let none = takes_nothing v None agrees refl tt in
    let now : Takes v None (shows (record p { expected_length = q.expected_length }) who) = record {
      stays = none.stays;
      others = none.others;
      does = none.does;
      acts = none.acts;
      did = none.did;
      agrees = record { seen_is = agrees.seen_is; trimmed_is = agrees.trimmed_is; made_is = agrees.made_is; room = agrees.room };
      lone = none.lone;
    } in
    subst (λ (s : SeatState BoxedBook). Takes v None (shows s who)) (sym same) now

pub did_nothing : (p q : SeatState BoxedBook) (who : ℕ) (v : Shows) → IsPass p → FoundInside p q → shows p who ≡ v → Takes v None (shows q who)
did_nothing p q who v pass found is = subst (λ (u : Shows). Takes u None (shows q who)) is (nothing_done p q who pass found.1)

pub finds_busy : (p q : SeatState BoxedBook) (who : ℕ) (v : Shows) → FoundInside p q → shows p who ≡ v → FindsBusy v (shows q who)
finds_busy p q who v found is = subst (λ (u : Shows). FindsBusy u (shows q who)) is (found.0, ap (λ (s : SeatState BoxedBook). shows s who) found.1)

-- a pass that was let in
pub visits_once : (p q : SeatState BoxedBook) (who : ℕ) (v : Shows) → p.expected_length < length q.list → length q.own ≡ length p.own + 1 → shows p who ≡ v → VisitsOnce v (shows q who)
visits_once p q who v expected own is = subst (λ (u : Shows). VisitsOnce u (shows q who)) is (own, omega arith)

-- a pass that found another inside
pub was_busy : (p q : SeatState BoxedBook) (who : ℕ) (v : Shows) (o : Operation) → IsPass p → FoundInside p q → shows p who ≡ v → Called v o (Err Busy) (shows q who)
was_busy p q who v o pass found is = record {
  takes = did_nothing p q who v pass found is;
  no_memory = λ e. absurd (cc e);
  outside = λ e. absurd (cc e);
}
