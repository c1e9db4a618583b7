-- What a plan, a trim and the numbers make of a pass.
use Rattle.std.proofs.Common.{◌≡◌, ℕ, ◌+◌, ◌-◌, ◌<◌, ◌≤◌, [], ◌++◌, length, max, take, List, None, Result, Ok, Err, IfOk, OnErr, refl, ap, sym, subst, ◌∙◌, arith}
use Rattle.std.proofs.lemmas.List.{append-nil}
use Rattle.gate.specs.Places.{SeatState}
use Rattle.sealed.specs.declared.fault.Fault.{Fault}
use Rattle.history.specs.History.{History}
use Rattle.book.specs.declared.numbers.Numbers.{Numbers}
use Rattle.book.specs.declared.plan.Plan.{Plan}
use Rattle.book.specs.declared.plan.Item.{Item}
use Rattle.book.specs.Contents.{Contents, journal_of}
use Rattle.book.specs.Numbers.{AreNumbersOf}
use Rattle.book.specs.Holds.{HoldsHistory}
use Rattle.book.specs.Trimming.{given_up, journaled}
use Rattle.requests.specs.declared.boxed_book.BoxedBook.{BoxedBook}
use Rattle.book.specs.Serial.{events_in, given_in}
use Rattle.shared.specs.Passes.{Shows, Which, acts_of, seen_of, shows, limit_of, trimmed_of}
use Rattle.shared.specs.Deeds.{trim_deed, Takes}
use Rattle.book.proofs.Journals.{kept_count, part_few, part_whole}
use Rattle.book.proofs.Parts.{whole_part}
use Rattle.book.specs.Plan.{items_after}
use Rattle.requests.proofs.Between.{GoesOn, told_length}
use Rattle.shared.proofs.Steps.{Stepped, told_history, calls_found, still_goes_on, takes}

-- how many calls a trim gave up
abbrev pub given_by : Result ℕ Fault → ℕ
given_by (Ok n) = n
given_by (Err fault) = 0

given_more : (r : Result ℕ Fault) (old new : Contents) → IfOk r (λ n. new.base.trimmed ≡ old.base.trimmed + n) → OnErr r (new ≡ old) → new.base.trimmed ≡ old.base.trimmed + given_by r
given_more (Ok n) old new trimmed same = trimmed
given_more (Err e) old new trimmed same = let e = ap (λ (c : Contents). c.base.trimmed) same in omega arith

-- a book after a trim goes on from the book before
pub trim_goes_on : (r : Result ℕ Fault) (old new : Contents) → new.width ≡ old.width → new.limit ≡ old.limit → ((h : History) → HoldsHistory old h → HoldsHistory new h) → IfOk r (λ n. new.base.trimmed ≡ old.base.trimmed + n)
    → OnErr r (new ≡ old) → GoesOn old new [] (given_by r)
trim_goes_on r old new width limit told trimmed same = still_goes_on old new (given_by r) width limit (given_more r old new trimmed same) told

-- the trim is that of one thread
pub takes_trim : (r : Result ℕ Fault) (p q : SeatState BoxedBook) (x : BoxedBook) (who keep : ℕ) → Stepped p q x [] (given_by r)
    → IfOk r (λ n. n ≡ given_up x.0.value.base.trimmed (length (journal_of x.0.value)) keep) → Takes (shows p who) (trim_deed keep r) (shows q who)
takes_trim (Err e) p q x who keep step answer = takes p q x [] 0 who None step refl tt
takes_trim (Ok n) p q x who keep step answer =
    let acts = acts_of p.list ++ step.others in
    let calls = calls_found p q x [] n step in
    let given : x.0.value.base.trimmed ≡ given_in acts = step.holds.holds.given in
    let count : length x.0.value.entries ≡ length (events_in acts) - given_in acts = omega arith in
    let limit : x.0.value.limit ≡ limit_of p.list = step.holds.limit ∙ ap (λ (s : Which). s.limit) step.store in
    takes p q x [] n who (trim_deed keep (Ok n)) step refl (answer ∙ ap (λ k. given_up x.0.value.base.trimmed k keep) (kept_count x.0.value) ∙ (λ i. given_up (given i) (journaled (limit i) (count i)) keep))

-- a trim in parts
pub keeps_more : (keep kept : ℕ) → keep ≤ max keep kept
keeps_more keep kept = grind arith

pub few_given : (r : Result ℕ Fault) (t count keep most : ℕ) → IfOk r (λ n. n ≡ given_up t count (max keep (count - most))) → IfOk r (λ n. n ≤ 1048576) → IfOk r (λ n. (n ≤ most) × (n ≤ 1048576))
few_given (Err e) t count keep most is few = tt
few_given (Ok n) t count keep most is few = (let part = part_few t count keep most in omega (arith, is, part), few)

pub whole_given : (r : Result ℕ Fault) (t count keep most : ℕ) {Whole : Type 0} → IfOk r (λ n. n ≡ given_up t count (max keep (count - most))) → (IfOk r (λ n. n ≡ given_up t count keep) → Whole) → IfOk r (λ n. n < most → Whole)
whole_given (Err e) t count keep most is whole = tt
whole_given (Ok n) t count keep most is whole = λ less. whole (is ∙ part_whole t count keep most (subst (λ m. m < most) is less))

-- a part of at most 2^64 - 1 entries is all
pub whole_trim : (r : Result ℕ Fault) (keep : ℕ) (v w : Shows) → (k : ℕ) × (keep ≤ k) × Takes v (trim_deed k r) w → IfOk r (λ n. (n ≤ 18446744073709551615) × (n ≤ 1048576))
    → IfOk r (λ n. n < 18446744073709551615 → Takes v (trim_deed keep r) w) → Takes v (trim_deed keep r) w
whole_trim (Err e) keep v w part few whole = part.2
whole_trim (Ok n) keep v w part few whole = whole (omega (arith, few.1))

-- the items that the book lists are those of the history that was seen
pub planned : (items_of : History → List Item) (r : Result Plan Fault) (p q : SeatState BoxedBook) (x : BoxedBook) → Stepped p q x [] 0 → IfOk r (λ plan. (h : History) → HoldsHistory x.0.value h → plan.items.items ≡ items_of h)
    → IfOk r (λ plan. plan.items.items ≡ items_of (seen_of q.list))
planned items_of (Ok plan) p q x step is =
    let h : History = seen_of p.list ++ events_in step.others in
    is h (told_history p q x [] 0 step) ∙ ap items_of (sym (step.seen ∙ append-nil h))
planned items_of (Err e) p q x step is = tt

-- a part of at most 2^64 - 1 items is the whole plan
pub whole_plan_of : (r : Result Plan Fault) (whole : List Item) → IfOk r (λ plan. plan.items.items ≡ take 18446744073709551615 (items_after None whole)) → IfOk r (λ plan. plan.items.items ≡ whole)
whole_plan_of (Err e) whole part = tt
whole_plan_of (Ok plan) whole part = whole_part 18446744073709551615 whole plan.items.items part (omega (arith, plan.items.ok, plan.items.small))

-- ---- the numbers of the book are those of what was seen
module _ (p q : SeatState BoxedBook) (x : BoxedBook) (who : ℕ) (store : Which) (step : Stepped p q x [] 0) (here : (shows p who).store ≡ store) where
  pub numbered : (n : Numbers) → ((h : History) → HoldsHistory x.0.value h → AreNumbersOf x.0.value.width h n) → AreNumbersOf store.width (seen_of q.list) n
  numbered n are =
      let h : History = seen_of p.list ++ events_in step.others in
      let width : x.0.value.width ≡ store.width = step.holds.width ∙ ap (λ (s : Which). s.width) (step.store ∙ here) in
      subst (λ w. AreNumbersOf w (seen_of q.list) n) width
      (subst (λ (g : History). AreNumbersOf x.0.value.width g n) (sym (step.seen ∙ append-nil h)) (are h (told_history p q x [] 0 step)))

  pub entries_kept : (n : ℕ) → trimmed_of q.list ≡ x.0.value.base.trimmed → n ≡ length (journal_of x.0.value) → n ≡ journaled store.limit (length (seen_of q.list) - trimmed_of q.list)
  entries_kept n left is =
      let h : History = seen_of p.list ++ events_in step.others in
      let same : length (seen_of q.list) ≡ length h = ap length (step.seen ∙ append-nil h) in
      let told : x.0.value.base.trimmed + length x.0.value.entries ≡ length h = told_length x.0.value h (told_history p q x [] 0 step) in
      let limit : x.0.value.limit ≡ store.limit = step.holds.limit ∙ ap (λ (s : Which). s.limit) (step.store ∙ here) in
      let count : length x.0.value.entries ≡ length (seen_of q.list) - trimmed_of q.list = omega arith in
      is ∙ kept_count x.0.value ∙ (λ i. journaled (limit i) (count i))
