-- What each visit leaves of a seat and of a follower.
use Rattle.std.proofs.Common.{◌≡◌, ℕ, ◌-◌, ◌≤◌, List, [], length, take, Option, None, Some, Result, Err, IfOk, ap, subst, ◌∙◌}
use mathlib.Core.List.{IsPrefix}
use Rattle.gate.specs.Places.{SeatState, last_of, IsChain, HasAll}
use Rattle.gate.specs.Visits.{IsVisit}
use Rattle.sealed.specs.declared.fault.Fault.{Fault}
use Rattle.sealed.specs.declared.fault.Fault.TheVariants.{NoMemory}
use Rattle.history.specs.Step.{repair}
use Rattle.history.specs.History.{state_of}
use Rattle.book.specs.declared.answer.Answer.{Answer}
use Rattle.book.specs.declared.numbers.Numbers.{Numbers}
use Rattle.book.specs.declared.plan.Item.{Item}
use Rattle.book.specs.declared.plan.Plan.{Plan}
use Rattle.book.specs.Contents.{journal_of}
use Rattle.book.specs.Numbers.{AreNumbersOf}
use Rattle.book.specs.Plan.{plan_of, items_after}
use Rattle.book.specs.Serial.{Act}
use Rattle.book.specs.Trimming.{given_up, journaled}
use Rattle.requests.specs.declared.inspection.Inspection.{Inspection}
use Rattle.requests.specs.declared.request.Request.{Request}
use Rattle.requests.specs.Requests.{operation_of, CanMake}
use Rattle.requests.specs.Visits.{IsRequestMade, IsInspected, IsPlanPart, AreCounted, IsTrimPart}
use Rattle.ledger.specs.declared.held.Held.{Held}
use Rattle.ledger.specs.Acts.{LedgerState, FollowerState, AreLegal}
use Rattle.ledger.specs.Values.{MayFollowHeld}
use Rattle.ledger.specs.Visits.{IsListedVisit}
use Rattle.ledger_map.specs.declared.acts.ShardBook.{ShardBook}
use Rattle.ledger_map.specs.Legal.{AreActsOfShard}
use Rattle.ledger_map.specs.Books.{between_books}
use Rattle.shared.specs.Passes.{Which, acts_of, seen_of, trimmed_of, shows}
use Rattle.shared.specs.Deeds.{deed_of, trim_deed, act_if, Takes}
use Rattle.shared.specs.Calls.{Called}
use Rattle.shared.specs.Mends.{InspectionGives}
use Rattle.shared.specs.Requests.{CanAsk, IsGrantedTo, WantedFor}
use Rattle.shared.proofs.Looks.{given_by}
use Rattle.shared.proofs.Mends.{events_at_inspection, inspection_goes_on}
use Rattle.shared.proofs.Steps.{kept_follows, made_by, same_goes_on}
use Rattle.shared.proofs.Visits.{can_visit, made_goes_on, is_called, is_granted, is_wanted, is_found, took_nothing, is_planned, are_numbers, are_entries, trimmed_goes_on, takes_as, takes_part}
use Rattle.shard.specs.Seats.{SeatShows, books_in, plain, book_follows, seat_shows, IsSeat, IsSeatOf}
use Rattle.shard.specs.Looked.{inspected}
use Rattle.shard.specs.Listed.{listing_of, IsListed}
use Rattle.shard.proofs.Visits.{Books, plain_last, plain_prefix, plain_chain, plain_all, Visited, visited, plain_visit, listed_called, listed_inspected, listed_trim}

-- ---- a call
pub can_be_made : (p : SeatState (Held ShardBook Act)) (who : ℕ) (request : Request) (s : SeatShows) → seat_shows p who ≡ s → IsSeat p → CanAsk s.shows request
    → (list : Books) (x : Held ShardBook Act) → IsPrefix p.list list → IsChain (MayFollowHeld between_books book_follows) list → last_of list ≡ Some x → (p.room ≡ 64 → HasAll list p.own) → CanMake x.value.0.0.value request
can_be_made p who request s is seat can list x seen chain last lone =
    can_visit (plain p) who request s.shows (ap (λ (t : SeatShows). t.shows) is) seat.pass can (books_in list) x.value.0 (plain_prefix p.list list seen) (plain_chain list chain) (plain_last list x last) (λ all. plain_all list p.own (lone all))

module _ (ledger : LedgerState) (p q : SeatState (Held ShardBook Act)) (f h : FollowerState Act) (who : ℕ) (s : SeatShows) (is : seat_shows p who ≡ s) (at : IsSeatOf ledger s) (seat : IsSeat p) where
  module _ (request : Request) (r : Result Answer Fault) (v : IsListedVisit between_books book_follows (λ x y t. IsRequestMade who request x.0.0.value y.0.0.value t) ledger.table p q f h r) (legal : AreLegal (AreActsOfShard ledger.setup) h.list) where
    abbrev plain_made : IsVisit kept_follows (λ x y t. IsRequestMade who request x.0.value y.0.value t) (plain p) (plain q) r
    plain_made = plain_visit (λ x y t. IsRequestMade who request x.0.value y.0.value t) ledger p q f h r v

    pub made_visited : Visited ledger.setup p q who s v.found.value.0 (made_by who (operation_of request) r) 0 f h
    made_visited =
        visited (λ x y t. IsRequestMade who request x.0.value y.0.value t) ledger p q f h r v who s (made_by who (operation_of request) r) 0 is at seat
        (made_goes_on who request v.found.value.0.0.value v.left.0.0.value r v.did) legal

    pub call_listed : IsListed s.shard (act_if s.shows.who (deed_of (operation_of request) r)) s.shows.acts (acts_of (books_in q.list)) (listing_of f) (listing_of h)
    call_listed =
        subst (λ (t : SeatShows). IsListed s.shard (act_if t.shows.who (deed_of (operation_of request) r)) s.shows.acts (acts_of (books_in q.list)) (listing_of f) (listing_of h)) is
        (listed_called s.shard who (operation_of request) r s.shows.acts (acts_of (books_in q.list)) (listing_of f) (listing_of h) made_visited.listed)

    pub call_shown : CanAsk s.shows request → Called s.shows (operation_of request) r (shows (plain q) who)
    call_shown can = is_called (plain p) (plain q) who request r s.shows (ap (λ (t : SeatShows). t.shows) is) seat.pass plain_made can

    pub granted_shown : (store : Which) → s.shows.store ≡ store → IfOk r (IsGrantedTo (seen_of (books_in q.list)) store.width request)
    granted_shown store here = is_granted (plain p) (plain q) who request r s.shows (ap (λ (t : SeatShows). t.shows) is) seat.pass plain_made store here

    pub wanted_shown : (store : Which) → s.shows.store ≡ store → r ≡ Err NoMemory → WantedFor (seen_of (books_in q.list)) store.width request
    wanted_shown store here = is_wanted (plain p) (plain q) who request r s.shows (ap (λ (t : SeatShows). t.shows) is) seat.pass plain_made store here

  -- ---- the inspection before a repair
  module _ (n : List ℕ) (j g : ℕ) (l : Inspection) (v : IsListedVisit between_books book_follows (λ x y t. IsInspected who n j g x.0.0.value y.0.0.value t) ledger.table p q f h l) (legal : AreLegal (AreActsOfShard ledger.setup) h.list) where
    pub inspected_visited : Visited ledger.setup p q who s v.found.value.0 (events_at_inspection l who (repair n j g)) 0 f h
    inspected_visited =
        visited (λ x y t. IsInspected who n j g x.0.value y.0.value t) ledger p q f h l v who s (events_at_inspection l who (repair n j g)) 0 is at seat
        (inspection_goes_on l v.found.value.0.0.value v.left.0.0.value who n j g v.did.unchanged v.did.found) legal

    pub inspection_listed : IsListed s.shard (act_if s.shows.who (inspected (repair n j g) l)) s.shows.acts (acts_of (books_in q.list)) (listing_of f) (listing_of h)
    inspection_listed =
        subst (λ (t : SeatShows). IsListed s.shard (act_if t.shows.who (inspected (repair n j g) l)) s.shows.acts (acts_of (books_in q.list)) (listing_of f) (listing_of h)) is
        (listed_inspected s.shard who (repair n j g) l s.shows.acts (acts_of (books_in q.list)) (listing_of f) (listing_of h) inspected_visited.listed)

    pub inspection_shown : InspectionGives s.shows n j g l (shows (plain q) who)
    inspection_shown =
        is_found (plain p) (plain q) who n j g l seat.pass (plain_visit (λ x y t. IsInspected who n j g x.0.value y.0.value t) ledger p q f h l v) s.shows (ap (λ (t : SeatShows). t.shows) is)

  -- ---- a part of the plan
  module _ (after : Option Item) (most : ℕ) (r : Result Plan Fault) (v : IsListedVisit between_books book_follows (λ x y t. IsPlanPart after most x.0.0.value y.0.0.value t) ledger.table p q f h r) (legal : AreLegal (AreActsOfShard ledger.setup) h.list) where
    abbrev plain_planned : IsVisit kept_follows (λ x y t. IsPlanPart after most x.0.value y.0.value t) (plain p) (plain q) r
    plain_planned = plain_visit (λ x y t. IsPlanPart after most x.0.value y.0.value t) ledger p q f h r v

    pub planned_visited : Visited ledger.setup p q who s v.found.value.0 [] 0 f h
    planned_visited =
        visited (λ x y t. IsPlanPart after most x.0.value y.0.value t) ledger p q f h r v who s [] 0 is at seat
        (same_goes_on v.found.value.0.0.value v.left.0.0.value v.did.unchanged) legal

    pub plan_takes : Takes s.shows None (shows (plain q) who)
    plan_takes = took_nothing (plain p) (plain q) r seat.pass plain_planned who s.shows (ap (λ (t : SeatShows). t.shows) is) v.did.unchanged

    pub plan_shown : IfOk r (λ plan. plan.items.items ≡ take most (items_after after (plan_of (state_of (seen_of (books_in q.list))))))
    plan_shown = is_planned (plain p) (plain q) after most r seat.pass plain_planned

  -- ---- the numbers
  module _ (n : Numbers) (v : IsListedVisit between_books book_follows (λ x y t. AreCounted x.0.0.value y.0.0.value t) ledger.table p q f h n) (legal : AreLegal (AreActsOfShard ledger.setup) h.list) where
    abbrev plain_counted : IsVisit kept_follows (λ x y t. AreCounted x.0.value y.0.value t) (plain p) (plain q) n
    plain_counted = plain_visit (λ x y t. AreCounted x.0.value y.0.value t) ledger p q f h n v

    pub counted_visited : Visited ledger.setup p q who s v.found.value.0 [] 0 f h
    counted_visited =
        visited (λ x y t. AreCounted x.0.value y.0.value t) ledger p q f h n v who s [] 0 is at seat
        (same_goes_on v.found.value.0.0.value v.left.0.0.value v.did.unchanged) legal

    pub numbers_take : Takes s.shows None (shows (plain q) who)
    numbers_take = took_nothing (plain p) (plain q) n seat.pass plain_counted who s.shows (ap (λ (t : SeatShows). t.shows) is) v.did.unchanged

    module _ (store : Which) (here : s.shows.store ≡ store) where
      store_is : (shows (plain p) who).store ≡ store
      store_is = ap (λ (t : SeatShows). t.shows.store) is ∙ here

      pub numbers_shown : AreNumbersOf store.width (seen_of (books_in q.list)) n
      numbers_shown = are_numbers (plain p) (plain q) who n store store_is seat.pass plain_counted

      pub entries_shown : n.entries ≡ journaled store.limit (length (seen_of (books_in q.list)) - trimmed_of (books_in q.list))
      entries_shown = are_entries (plain p) (plain q) who n store store_is seat.pass plain_counted

  -- ---- a part of a trim
  module _ (keep most : ℕ) (r : Result ℕ Fault) (v : IsListedVisit between_books book_follows (λ x y t. IsTrimPart keep most x.0.0.value y.0.0.value t) ledger.table p q f h r) (legal : AreLegal (AreActsOfShard ledger.setup) h.list) where
    abbrev plain_trimmed : IsVisit kept_follows (λ x y t. IsTrimPart keep most x.0.value y.0.value t) (plain p) (plain q) r
    plain_trimmed = plain_visit (λ x y t. IsTrimPart keep most x.0.value y.0.value t) ledger p q f h r v

    pub trimmed_visited : Visited ledger.setup p q who s v.found.value.0 [] (given_by r) f h
    trimmed_visited =
        visited (λ x y t. IsTrimPart keep most x.0.value y.0.value t) ledger p q f h r v who s [] (given_by r) is at seat
        (trimmed_goes_on keep most v.found.value.0.0.value v.left.0.0.value r v.did) legal

    pub trim_listed : IsListed s.shard (act_if s.shows.who (trim_deed keep r)) s.shows.acts (acts_of (books_in q.list)) (listing_of f) (listing_of h)
    trim_listed = listed_trim s.shard s.shows.who keep r s.shows.acts (acts_of (books_in q.list)) (listing_of f) (listing_of h) trimmed_visited.listed

    pub trim_takes_part : (k : ℕ) × (keep ≤ k) × Takes s.shows (trim_deed k r) (shows (plain q) who)
    trim_takes_part = takes_part (plain p) (plain q) who keep most r s.shows (ap (λ (t : SeatShows). t.shows) is) seat.pass plain_trimmed

    pub trim_takes_as : (k : ℕ) → IfOk r (λ n. n ≡ given_up v.found.value.0.0.value.base.trimmed (length (journal_of v.found.value.0.0.value)) k) → Takes s.shows (trim_deed k r) (shows (plain q) who)
    trim_takes_as k answer = takes_as (plain p) (plain q) who keep most r s.shows (ap (λ (t : SeatShows). t.shows) is) seat.pass plain_trimmed k answer
