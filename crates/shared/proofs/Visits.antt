-- What a visit of the gate makes of a pass.
use Rattle.std.proofs.Common.{◌≡◌, ℕ, ◌-◌, ◌≤◌, true, List, [], length, max, take, Option, None, Some, Result, Err, IfOk, refl, ap, subst, ◌∙◌}
use mathlib.Core.List.{IsPrefix}
use Rattle.gate.specs.Places.{SeatState, last_of, IsChain, HasAll}
use Rattle.gate.specs.Visits.{IsVisit}
use Rattle.sealed.specs.declared.fault.Fault.{Fault}
use Rattle.sealed.specs.declared.fault.Fault.TheVariants.{NoMemory}
use Rattle.history.specs.Step.{repair}
use Rattle.history.specs.History.{History, state_of}
use Rattle.book.specs.declared.answer.Answer.{Answer}
use Rattle.book.specs.declared.numbers.Numbers.{Numbers}
use Rattle.book.specs.declared.plan.Item.{Item}
use Rattle.book.specs.declared.plan.Plan.{Plan}
use Rattle.book.specs.Contents.{Contents, journal_of}
use Rattle.book.specs.Numbers.{AreNumbersOf}
use Rattle.book.specs.Plan.{plan_of, items_after}
use Rattle.book.specs.Trimming.{given_up, journaled}
use Rattle.requests.specs.declared.boxed_book.BoxedBook.{BoxedBook}
use Rattle.requests.specs.declared.inspection.Inspection.{Inspection}
use Rattle.requests.specs.declared.request.Request.{Request}
use Rattle.requests.specs.Between.{MayFollow}
use Rattle.requests.specs.Requests.{operation_of, CanMake}
use Rattle.requests.specs.Visits.{IsRequestMade, IsInspected, IsPlanPart, AreCounted, IsTrimPart}
use Rattle.requests.proofs.Between.{GoesOn, goes_follows}
use Rattle.requests.proofs.Requests.{request_fits, never_too_long}
use Rattle.shared.specs.Passes.{Which, Shows, IsPass, seen_of, trimmed_of, shows}
use Rattle.shared.specs.Deeds.{trim_deed, Takes}
use Rattle.shared.specs.Calls.{Called}
use Rattle.shared.specs.Mends.{InspectionGives}
use Rattle.shared.specs.Requests.{CanAsk, IsGrantedTo, WantedFor}
use Rattle.shared.proofs.Steps.{kept_follows, made_by, Leaves, Stepped, stepped, answered, call_goes_on, same_goes_on, called, takes, left_base}
use Rattle.shared.proofs.Requests.{can_make_inside}
use Rattle.shared.proofs.Grants.{all_granted, wanted_for}
use Rattle.shared.proofs.Looks.{given_by, trim_goes_on, takes_trim, keeps_more, planned, numbered, entries_kept}
use Rattle.shared.proofs.Mends.{events_at_inspection, inspection_goes_on, inspection_found}

-- the seat inside, which has seen this list
abbrev entered : SeatState BoxedBook → List BoxedBook → SeatState BoxedBook
entered p list = record { gate = p.gate; list = list; own = p.own; room = p.room; inside = true; expected_length = 0 }

-- ---- any visit
module _ {O : Type 0} {does : BoxedBook → BoxedBook → O → Type 0} (p q : SeatState BoxedBook) (r : O) (pass : IsPass p) (v : IsVisit kept_follows does p q r) where
  leaves : Leaves (entered p v.before) q v.left
  leaves = record { same = v.same; list = v.list; own = v.own }

  pub visited : (g : History) (n : ℕ) → GoesOn v.found.0.value v.left.0.value g n → Stepped p q v.found g n
  visited g n on =
      stepped p (entered p v.before) q v.found v.left g n pass
      (record { same = (refl, refl, refl); seen = (v.seen, v.chain); found = v.last; lone = v.lone })
      leaves on

  pub trimmed_still : v.left.0.value.base ≡ v.found.0.value.base → trimmed_of q.list ≡ v.found.0.value.base.trimmed
  trimmed_still same = left_base (entered p v.before) q v.found v.left leaves same

  -- one that leaves the book as it was
  pub looked : v.left.0.value ≡ v.found.0.value → Stepped p q v.found [] 0
  looked same = visited [] 0 (same_goes_on v.found.0.value v.left.0.value same)

  pub took_nothing : (who : ℕ) (shown : Shows) → shows p who ≡ shown → v.left.0.value ≡ v.found.0.value → Takes shown None (shows q who)
  took_nothing who shown is same = subst (λ (u : Shows). Takes u None (shows q who)) is (takes p q v.found [] 0 who None (looked same) refl tt)

pub same_follows : (old new : Contents) → new ≡ old → MayFollow old new
same_follows old new same = goes_follows old new [] 0 (same_goes_on old new same)

-- ---- a call
pub made_goes_on : (who : ℕ) (request : Request) (old new : Contents) (r : Result Answer Fault) → IsRequestMade who request old new r → GoesOn old new (made_by who (operation_of request) r) 0
made_goes_on who request old new r m = call_goes_on r old new who (operation_of request) m.unchanged (answered r old new who (operation_of request) m.ok m.full) m.err

pub made_follows : (who : ℕ) (request : Request) (old new : Contents) (r : Result Answer Fault) → IsRequestMade who request old new r → MayFollow old new
made_follows who request old new r m = goes_follows old new (made_by who (operation_of request) r) 0 (made_goes_on who request old new r m)

-- it can be made on what is found
pub can_visit : (p : SeatState BoxedBook) (who : ℕ) (request : Request) (shown : Shows) → shows p who ≡ shown → IsPass p → CanAsk shown request
    → (list : List BoxedBook) (x : BoxedBook) → IsPrefix p.list list → IsChain kept_follows list → last_of list ≡ Some x → (p.room ≡ 64 → HasAll list p.own) → CanMake x.0.value request
can_visit p who request shown is pass can list x seen chain last lone =
    can_make_inside p (entered p list) x who request shown is pass (record { same = (refl, refl, refl); seen = (seen, chain); found = last; lone = lone }) can

module _ (p q : SeatState BoxedBook) (who : ℕ) (request : Request) (r : Result Answer Fault) (shown : Shows) (is : shows p who ≡ shown) (pass : IsPass p) (v : IsVisit kept_follows (λ x y s. IsRequestMade who request x.0.value y.0.value s) p q r) where
  pub made : Stepped p q v.found (made_by who (operation_of request) r) 0
  made = visited p q r pass v (made_by who (operation_of request) r) 0 (made_goes_on who request v.found.0.value v.left.0.value r v.did)

  pub is_called : CanAsk shown request → Called shown (operation_of request) r (shows q who)
  is_called can =
      subst (λ (u : Shows). Called u (operation_of request) r (shows q who)) is
      (called p q v.found who (operation_of request) r made (trimmed_still p q r pass v v.did.unchanged.2) v.did.full
      (λ _. request_fits v.found.0.value request (can_visit p who request shown is pass can v.before v.found v.seen v.chain v.last v.lone))
      (never_too_long r request v.did.faults))

  module _ (store : Which) (here : shown.store ≡ store) where
    width : (shows q who).store.width ≡ store.width
    width = ap (λ (s : Which). s.width) (made.store ∙ ap (λ (u : Shows). u.store) is ∙ here)

    pub is_granted : IfOk r (IsGrantedTo (seen_of q.list) store.width request)
    is_granted = all_granted r p q v.found who store.width request made width v.did.answer

    pub is_wanted : r ≡ Err NoMemory → WantedFor (seen_of q.list) store.width request
    is_wanted = wanted_for r p q v.found who store.width request made width v.did.no_memory

-- ---- the inspection before a repair
pub inspected_follows : (who : ℕ) (n : List ℕ) (j f : ℕ) (old new : Contents) (l : Inspection) → IsInspected who n j f old new l → MayFollow old new
inspected_follows who n j f old new l m = goes_follows old new (events_at_inspection l who (repair n j f)) 0 (inspection_goes_on l old new who n j f m.unchanged m.found)

module _ (p q : SeatState BoxedBook) (who : ℕ) (n : List ℕ) (j f : ℕ) (l : Inspection) (pass : IsPass p) (v : IsVisit kept_follows (λ x y s. IsInspected who n j f x.0.value y.0.value s) p q l) where
  pub inspected : Stepped p q v.found (events_at_inspection l who (repair n j f)) 0
  inspected = visited p q l pass v (events_at_inspection l who (repair n j f)) 0 (inspection_goes_on l v.found.0.value v.left.0.value who n j f v.did.unchanged v.did.found)

  pub is_found : (shown : Shows) → shows p who ≡ shown → InspectionGives shown n j f l (shows q who)
  is_found shown is =
      subst (λ (u : Shows). InspectionGives u n j f l (shows q who)) is
      (inspection_found p q v.found v.left who n j f l inspected (trimmed_still p q l pass v v.did.unchanged.2) v.did.found)

-- ---- a part of the plan
pub is_planned : (p q : SeatState BoxedBook) (after : Option Item) (most : ℕ) (r : Result Plan Fault) → IsPass p → IsVisit kept_follows (λ x y s. IsPlanPart after most x.0.value y.0.value s) p q r
    → IfOk r (λ plan. plan.items.items ≡ take most (items_after after (plan_of (state_of (seen_of q.list)))))
is_planned p q after most r pass v = planned (λ h. take most (items_after after (plan_of (state_of h)))) r p q v.found (looked p q r pass v v.did.unchanged) v.did.ok

-- ---- the numbers
module _ (p q : SeatState BoxedBook) (who : ℕ) (n : Numbers) (store : Which) (here : (shows p who).store ≡ store) (pass : IsPass p) (v : IsVisit kept_follows (λ x y s. AreCounted x.0.value y.0.value s) p q n) where
  pub are_numbers : AreNumbersOf store.width (seen_of q.list) n
  are_numbers = numbered p q v.found who store (looked p q n pass v v.did.unchanged) here n v.did.holds

  pub are_entries : n.entries ≡ journaled store.limit (length (seen_of q.list) - trimmed_of q.list)
  are_entries =
      entries_kept p q v.found who store (looked p q n pass v v.did.unchanged) here n.entries
      (trimmed_still p q n pass v (ap (λ (c : Contents). c.base) v.did.unchanged)) v.did.entries

-- ---- a part of a trim
pub trimmed_goes_on : (keep most : ℕ) (old new : Contents) (r : Result ℕ Fault) → IsTrimPart keep most old new r → GoesOn old new [] (given_by r)
trimmed_goes_on keep most old new r t = trim_goes_on r old new t.unchanged.0 t.unchanged.1 t.holds t.trimmed t.err

pub trimmed_follows : (keep most : ℕ) (old new : Contents) (r : Result ℕ Fault) → IsTrimPart keep most old new r → MayFollow old new
trimmed_follows keep most old new r t = goes_follows old new [] (given_by r) (trimmed_goes_on keep most old new r t)

module _ (p q : SeatState BoxedBook) (who keep most : ℕ) (r : Result ℕ Fault) (shown : Shows) (is : shows p who ≡ shown) (pass : IsPass p) (v : IsVisit kept_follows (λ x y s. IsTrimPart keep most x.0.value y.0.value s) p q r) where
  pub trimmed_step : Stepped p q v.found [] (given_by r)
  trimmed_step = visited p q r pass v [] (given_by r) (trimmed_goes_on keep most v.found.0.value v.left.0.value r v.did)

  pub takes_as : (k : ℕ) → IfOk r (λ n. n ≡ given_up v.found.0.value.base.trimmed (length (journal_of v.found.0.value)) k) → Takes shown (trim_deed k r) (shows q who)
  takes_as k answer = subst (λ (u : Shows). Takes u (trim_deed k r) (shows q who)) is (takes_trim r p q v.found who k trimmed_step answer)

  pub takes_part : (k : ℕ) × (keep ≤ k) × Takes shown (trim_deed k r) (shows q who)
  takes_part =
      let kept = length (journal_of v.found.0.value) - most in
      (max keep kept, keeps_more keep kept, takes_as (max keep kept) v.did.answer)
