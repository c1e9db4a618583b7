-- A mend's steps are repairs of its plan, and its outcome is their text.
use Rattle.std.proofs.Common.{◌≡◌, ◌∙◌, ℕ, zero, suc, ◌+◌, ◌-◌, ◌<◌, ◌≤◌, ◌==◌, ◌||◌, Bool, true, false, cond, List, [], ◌∷◌, ◌++◌, length, map, take, drop, Some, IsPermutation, refl, ap, sym, subst, arith, true≢false}
use Rattle.std.specs.Prelude.{slice_get, count_by, codes, decimal, if◌then◌else◌}
use Rattle.std.specs.List.{filter, list_any}
use Rattle.std.proofs.lemmas.Bool.Decides.{nat_tests}
use Rattle.std.proofs.lemmas.List.{length-map, map-append, drop_all, take-append-drop}
use Rattle.std.proofs.lemmas.List.Sums.{length-filter, sum_by-cons}
use Rattle.std.proofs.lemmas.List.Sorted.{IsPermutation-append_left, IsPermutation-map, IsPermutation-sym}
use Rattle.std.proofs.lemmas.Option.{slice_get_within}
use mathlib.Core.Logic.{dite}
use mathlib.Core.List.{Sublist, nil-sublist}
use mathlib.Core.List.Sublist
use native.Mathlib.Decide.{dec_lt}
use Rattle.gate.specs.Places.{times}
use Rattle.history.specs.declared.note.Note.{Note}
use Rattle.book.specs.Serial.{Deed}
use Rattle.book.specs.Notes.{note_of}
use Rattle.book.specs.declared.answer.Answer.{Answer}
use Rattle.book.specs.declared.answer.Answer.TheVariants as answer
use Rattle.book.specs.declared.plan.Item.{Item}
use Rattle.mender.specs.Answers as answers
use Rattle.mender.specs.Drawn.{once_below}
use Rattle.mender.specs.Gathered.{report_of}
use Rattle.mender.specs.Line.{report_line}
use Rattle.mender.specs.Mended.{results_of}
use Rattle.mender.specs.Worked.{repair_of}
use Rattle.mender.specs.declared.done.Done.{Done}
use Rattle.mender.proofs.Counts.{once_below-in, once_below-out}
use Rattle.rounds.specs.declared.kinds.Returned.{Returned}
use Rattle.transcript.specs.declared.outcome.RowOutcome.{RowOutcome}
use Rattle.transcript.specs.declared.outcome.RowOutcome.TheVariants as row
use Rattle.transcript.specs.Lines.{line_text}
use Rattle.play.specs.Lists.{Each, Pairs}
use Rattle.play.specs.Mends.{all_left, drawn_by, IsMendOutcome, AreDrawnOnce}
use Rattle.play.specs.Printed.{is_noted, count_text, is_repaired, is_not_lost, is_gone, is_unrecoverable, mend_text}
use Rattle.play.specs.Runs.{operation_made, operations_in, is_full, meets_full, steps_by, IsByWorker, IsMend}
use Rattle.play.specs.Steps.{Found}
use Rattle.play.specs.Accounts.{Placed, found_of, IsMendTextOf}
use Rattle.play.proofs.Buckets.{by_key, by_key-all, each-both, each-filter, each-passes, each-weaker, filter-map, has_key}
use Rattle.play.proofs.Ordered.{all_each, each-map, one_alone}
use Rattle.play.proofs.Taking.{Taken, tickets_in, items_in, deed_in, operations_by, Took, TookInOrder}

-- ---- what was taken is the beginning of the plan, in some order
take_next : {A : Type 0} (xs : List A) (n : ℕ) (x : A) → slice_get xs n ≡ Some x → take (suc n) xs ≡ take n xs ++ x ∷ []
take_next [] n x e = absurd (cc e)
take_next (y ∷ xs) zero x e = let same : y ≡ x = cc e in ap (λ z. z ∷ []) same
take_next (y ∷ xs) (suc n) x e = ap (λ l. y ∷ l) (take_next xs n x e)

-- as many have a ticket as it stands among the tickets
counted : (n : ℕ) (taken : List Taken) → count_by (has_key (λ (t : Taken). t.0) n) taken ≡ times n (tickets_in taken)
counted n [] = refl
counted n (t ∷ taken) = omega (arith, sum_by-cons (λ (u : Taken). cond {A = ℕ} (u.0 == n) 1 0) t taken, sum_by-cons (λ m. cond {A = ℕ} (m == n) 1 0) t.0 (tickets_in taken), counted n taken)

-- no ticket is as great as a number from which on no ticket is drawn
tickets_below : (c : ℕ) (taken : List Taken) → ((n : ℕ) → c ≤ n → times n (tickets_in taken) ≡ 0) → Each (λ (t : Taken). t.0 < c) taken
tickets_below c [] none = tt
tickets_below c (t ∷ taken) none = (
  dite (dec_lt t.0 c) (λ less. less) (λ not_less.
      let here : (t.0 == t.0) ≡ true = grind (arith, nat_tests) in
      let one = sum_by-cons (λ m. cond {A = ℕ} (m == t.0) 1 0) t.0 (tickets_in taken) in
      let some = ap (λ b. cond {A = ℕ} b 1 0) here in
      let no = none t.0 (omega (arith, not_less)) in
      absurd (omega (arith, one, some, no))),
  tickets_below c taken (λ n le. let one = sum_by-cons (λ m. cond {A = ℕ} (m == n) 1 0) t.0 (tickets_in taken) in let no = none n le in omega (arith, one, no)),
)

-- and none of the plan's is past its end
past_plan : (plan : List Item) (taken : List Taken) → Each (λ (t : Taken). slice_get plan t.0 ≡ Some t.1) taken → (n : ℕ) → length plan ≤ n → times n (tickets_in taken) ≡ 0
past_plan plan [] of_plan n past = refl
past_plan plan (t ∷ taken) of_plan n past =
    let inside = slice_get_within plan t.0 t.1 of_plan.0 in
    let other : (t.0 == n) ≡ false = grind (arith, nat_tests, inside, past) in
    let none = ap (λ b. cond {A = ℕ} b 1 0) other in
    omega (arith, sum_by-cons (λ m. cond {A = ℕ} (m == n) 1 0) t.0 (tickets_in taken), none, past_plan plan taken of_plan.1 n past)

module _ (plan : List Item) (taken : List Taken) (of_plan : Each (λ (t : Taken). slice_get plan t.0 ≡ Some t.1) taken) where
  -- by their tickets they are the first items
  first_items : (c : ℕ) → ((n : ℕ) → n < c → times n (tickets_in taken) ≡ 1) → items_in (by_key (λ (t : Taken). t.0) c taken) ≡ take c plan
  first_items zero once = refl
  first_items (suc c) once =
      let test = has_key (λ (t : Taken). t.0) c in
      let one = one_alone (filter test taken) (length-filter test taken ∙ counted c taken ∙ once c (omega arith)) in
      let both = each-both (λ (t : Taken). slice_get plan t.0 ≡ Some t.1) (λ t. test t ≡ true) (filter test taken) (each-filter (λ (t : Taken). slice_get plan t.0 ≡ Some t.1) test taken of_plan) (each-passes test taken) in
      let its = subst (Each (λ (t : Taken). (slice_get plan t.0 ≡ Some t.1) × (test t ≡ true))) one.1 both in
      let at : one.0.0 ≡ c = grind (arith, its.0.1) in
      let there : slice_get plan c ≡ Some one.0.1 = ap (slice_get plan) (sym at) ∙ its.0.0 in
      map-append (λ (t : Taken). t.1) (by_key (λ (t : Taken). t.0) c taken) (filter test taken) ∙ (λ i. first_items c (λ n less. once n (omega (arith, less))) i ++ items_in (one.1 i)) ∙ sym (take_next plan c one.0.1 there)

  first_taken : (c : ℕ) → ((n : ℕ) → times n (tickets_in taken) ≡ once_below n c) → IsPermutation (items_in taken) (take c plan)
  first_taken c once =
      subst (IsPermutation (items_in taken)) (first_items c (λ n less. once n ∙ once_below-in n c less))
      (IsPermutation-map (λ (t : Taken). t.1) taken (by_key (λ (t : Taken). t.0) c taken) (by_key-all (λ (t : Taken). t.0) c taken (tickets_below c taken (λ n le. once n ∙ once_below-out n c le))))

-- items that were taken under rising tickets below `c` stand in the first `c` of the plan in their order. The plan begins at the ticket `base`
abbrev IsFrom : List Item → ℕ → ℕ → Taken → Type 0
IsFrom plan base c t = (base ≤ t.0) × (t.0 < base + c) × (slice_get plan (t.0 - base) ≡ Some t.1)

from_next : (x : Item) (plan : List Item) (base c : ℕ) (t : Taken) → base < t.0 → IsFrom (x ∷ plan) base (suc c) t → IsFrom plan (suc base) c t
from_next x plan base c t past is =
    let shift : t.0 - base ≡ suc (t.0 - suc base) = omega (arith, past) in
    (omega (arith, past), omega (arith, is.1), ap (slice_get (x ∷ plan)) (sym shift) ∙ is.2)

in_order_from : (plan : List Item) (base c : ℕ) (taken : List Taken) → Each (IsFrom plan base c) taken → Pairs (λ (t u : Taken). t.0 < u.0) taken → Sublist (map repair_of (items_in taken)) (map repair_of (take c plan))
in_order_from plan base c [] from rise = nil-sublist (map repair_of (take c plan))
in_order_from [] base c (t ∷ taken) from rise = absurd (cc (from.0.2))
in_order_from (x ∷ plan) base zero (t ∷ taken) from rise = absurd (omega (arith, from.0.0, from.0.1))
in_order_from (x ∷ plan) base (suc c) (t ∷ taken) from rise = by (t.0 == base) refl (in_order_from plan (suc base) c)
  where
    Later : Type 0
    Later = (us : List Taken) → Each (IsFrom plan (suc base) c) us → Pairs (λ (u v : Taken). u.0 < v.0) us → Sublist (map repair_of (items_in us)) (map repair_of (take c plan))

    later : (u : Taken) → (t.0 < u.0) × IsFrom (x ∷ plan) base (suc c) u → IsFrom plan (suc base) c u
    later u h = from_next x plan base c u (omega (arith, h.0, from.0.0)) h.1

    rest : Each (IsFrom plan (suc base) c) taken
    rest = each-weaker (λ (u : Taken). (t.0 < u.0) × IsFrom (x ∷ plan) base (suc c) u) (IsFrom plan (suc base) c) later taken (each-both (λ (u : Taken). t.0 < u.0) (IsFrom (x ∷ plan) base (suc c)) taken rise.0 from.1)

    by : (b : Bool) → (t.0 == base) ≡ b → Later → Sublist (map repair_of (items_in (t ∷ taken))) (map repair_of (take (suc c) (x ∷ plan)))
    by true e next =
        let here : t.0 - base ≡ 0 = grind (arith, nat_tests, e) in
        let same : x ≡ t.1 = cc (ap (slice_get (x ∷ plan)) (sym here) ∙ from.0.2) in
        subst (λ (y : Item). Sublist (map repair_of (items_in (t ∷ taken))) (repair_of y ∷ map repair_of (take c plan))) (sym same) (Sublist.cons-cons (repair_of t.1) (next taken rest rise.1))
    by false e next =
        let past : base < t.0 = grind (arith, nat_tests, e, from.0.0) in
        Sublist.cons (repair_of x) (next (t ∷ taken) (from_next x plan base c t past from.0, rest) rise)

-- ---- the steps
abbrev pub deeds_in : List Placed → List Deed
deeds_in steps = map (λ (p : Placed). p.step.deed) steps

operations_are : (steps : List Placed) → operations_in (map found_of steps) ≡ operations_by (deeds_in steps)
operations_are [] = refl
operations_are (p ∷ steps) = ap (λ l. operation_made p.step.deed ++ l) (operations_are steps)

meets_are : (steps : List Placed) → meets_full (map found_of steps) ≡ list_any is_full (deeds_in steps)
meets_are [] = refl
meets_are (p ∷ steps) = ap (λ b. is_full p.step.deed || b) (meets_are steps)

-- those of one worker
abbrev pub is_with : ℕ → Placed → Bool
is_with who p = p.step.who == who

abbrev pub steps_with : ℕ → List Placed → List Placed
steps_with who steps = filter (is_with who) steps

-- each worker took its tickets in rising order
abbrev pub HaveTookInOrder : List Item → List Returned → List Placed → Type 0
HaveTookInOrder plan os steps = (who : ℕ) → TookInOrder plan os (deeds_in (steps_with who steps))

-- and none of those that no worker took
tickets_few : (plan : List Item) (os : List Returned) (all deeds : List Deed) (c : ℕ) (took : Took plan os all) → ((n : ℕ) → times n (tickets_in took.taken) ≡ once_below n c) → (t : TookInOrder plan os deeds)
    → Each (λ (u : Taken). u.0 < c) t.taken
tickets_few plan os all deeds c took once t = tickets_below c t.taken (λ n le. dite (dec_lt n (length plan))
    (λ below. omega (arith, t.few n below, took.tickets n below, once n, once_below-out n c le))
    (λ past. past_plan plan t.taken t.of_plan n (omega (arith, past))))

mends_in_order : (plan : List Item) (os : List Returned) (steps : List Placed) (c : ℕ) → (took : Took plan os (deeds_in steps)) → ((n : ℕ) → times n (tickets_in took.taken) ≡ once_below n c)
    → HaveTookInOrder plan os steps → (who : ℕ) → Sublist (operations_in (steps_by who (map found_of steps))) (map repair_of (take c plan))
mends_in_order plan os steps c took once each who =
    let mine = steps_with who steps in
    let t = each who in
    let few = each-both (λ (u : Taken). u.0 < c) (λ (u : Taken). slice_get plan u.0 ≡ Some u.1) t.taken (tickets_few plan os (deeds_in steps) (deeds_in mine) c took once t) t.of_plan in
    let from = each-weaker (λ (u : Taken). (u.0 < c) × (slice_get plan u.0 ≡ Some u.1)) (IsFrom plan 0 c) (λ u h. let at : u.0 - 0 ≡ u.0 = omega arith in (omega arith, omega (arith, h.0), ap (slice_get plan) at ∙ h.1)) t.taken few in
    subst (λ l. Sublist l (map repair_of (take c plan))) (sym (ap operations_in (filter-map found_of (λ (f : Found). f.1.who == who) steps) ∙ operations_are mine ∙ t.operations))
    (in_order_from plan 0 c t.taken from t.rises)

-- repairs of the first items of the plan, or of all of them if none met a full journal
mends_first : (workers : ℕ) (plan : List Item) (os : List Returned) (steps : List Placed) (c : ℕ) → HaveTookInOrder plan os steps → (took : Took plan os (deeds_in steps)) → ((n : ℕ) → times n (tickets_in took.taken) ≡ once_below n c)
    → Each (λ (p : Placed). (1 ≤ p.step.who) × (p.step.who ≤ workers)) steps → (list_any is_full (deeds_in steps) ≡ false → drop c plan ≡ []) → IsMend workers plan (map found_of steps)
mends_first workers plan os steps c ordered took once are_by all =
    let operations = operations_are steps ∙ took.operations in
    let taken = IsPermutation-append_left (drop c plan) (take c plan) (items_in took.taken) (IsPermutation-sym (items_in took.taken) (take c plan) (first_taken plan took.taken took.of_plan c once)) in
    let whole = subst (λ l. IsPermutation l (items_in took.taken ++ drop c plan)) (take-append-drop c plan) taken in
    let steps_many = length-map steps (λ p. p.step.deed) in
    let found_many = length-map steps found_of in
    let many = ap length operations ∙ length-map (items_in took.taken) repair_of ∙ length-map took.taken (λ t. t.1) in
    record {
      count = c;
      left_out = map repair_of (drop c plan);
      last = refl;
      each = subst (IsPermutation (map repair_of plan)) (map-append repair_of (items_in took.taken) (drop c plan) ∙ ap (λ l. l ++ map repair_of (drop c plan)) (sym operations))
          (IsPermutation-map repair_of plan (items_in took.taken ++ drop c plan) whole);
      only_calls = omega (arith, many, took.many, steps_many, found_many);
      workers_are = all_each (IsByWorker workers) (map found_of steps) (each-map found_of (IsByWorker workers) steps are_by);
      in_order = mends_in_order plan os steps c took once ordered;
      all = λ none. ap (map repair_of) (all (sym (meets_are steps) ∙ none));
    }

-- ---- the numbers of the reply
noted_are : (test : Note → Bool) (steps : List Placed) → count_by (λ (f : Found). is_noted test f.1.deed) (map found_of steps) ≡ count_by (is_noted test) (deeds_in steps)
noted_are test [] = refl
noted_are test (p ∷ steps) = omega (arith, sum_by-cons (λ (f : Found). cond {A = ℕ} (is_noted test f.1.deed) 1 0) (found_of p) (map found_of steps), sum_by-cons (λ d. cond {A = ℕ} (is_noted test d) 1 0) p.step.deed (deeds_in steps), noted_are test steps)

results_are : (test : Note → Bool) (of_answer : Answer → Bool) → ((a : Answer) → test (note_of a) ≡ of_answer a) → (results : List Done) → count_by (is_noted test) (map deed_in results) ≡ count_by (λ (d : Done). of_answer d.answer) results
results_are test of_answer same [] = refl
results_are test of_answer same (d ∷ results) =
    let here = ap (λ b. cond {A = ℕ} b 1 0) (same d.answer) in
    omega (arith, sum_by-cons (λ e. cond {A = ℕ} (is_noted test e) 1 0) (deed_in d) (map deed_in results), sum_by-cons (λ (e : Done). cond {A = ℕ} (of_answer e.answer) 1 0) d results, results_are test of_answer same results, here)

-- the tests of notes and of answers are the same
same_tests : (a : Answer) → (is_repaired (note_of a) ≡ answers.is_repaired a) × (is_not_lost (note_of a) ≡ answers.is_not_lost a) × (is_gone (note_of a) ≡ answers.is_gone a) × (is_unrecoverable (note_of a) ≡ answers.is_unrecoverable a)
same_tests (answer.Stored v) = (refl, refl, refl, refl)
same_tests answer.NoName = (refl, refl, refl, refl)
same_tests answer.OutOfRange = (refl, refl, refl, refl)
same_tests (answer.Unrecoverable v) = (refl, refl, refl, refl)
same_tests (answer.Granted g) = (refl, refl, refl, refl)
same_tests (answer.Lost v) = (refl, refl, refl, refl)
same_tests answer.NoFragment = (refl, refl, refl, refl)
same_tests answer.AlreadyLost = (refl, refl, refl, refl)
same_tests (answer.Repaired v) = (refl, refl, refl, refl)
same_tests answer.NotLost = (refl, refl, refl, refl)
same_tests (answer.Replaced v) = (refl, refl, refl, refl)
same_tests (answer.Deleted v) = (refl, refl, refl, refl)
same_tests (answer.Shape v len stripes lost) = (refl, refl, refl, refl)

-- the reply if no repair met a full journal
abbrev numbers_text : List Found → List ℕ
numbers_text steps = codes "mended " ++ (count_text is_repaired steps ++ (codes " " ++ (count_text is_not_lost steps ++ (codes " " ++ (count_text is_gone steps ++ (codes " " ++ count_text is_unrecoverable steps))))))

module _ (steps : List Placed) (results : List Done) (are : deeds_in steps ≡ map deed_in results) where
  number_is : (test : Note → Bool) (of_answer : Answer → Bool) → ((a : Answer) → test (note_of a) ≡ of_answer a) → count_by (λ (f : Found). is_noted test f.1.deed) (map found_of steps) ≡ count_by (λ (d : Done). of_answer d.answer) results
  number_is test of_answer same = noted_are test steps ∙ ap (count_by (is_noted test)) are ∙ results_are test of_answer same results

  text_is : meets_full (map found_of steps) ≡ false → report_line (report_of results) ≡ mend_text (map found_of steps)
  text_is none =
      let a = number_is is_repaired answers.is_repaired (λ a. (same_tests a).0) in
      let b = number_is is_not_lost answers.is_not_lost (λ a. (same_tests a).1) in
      let c = number_is is_gone answers.is_gone (λ a. (same_tests a).2) in
      let d = number_is is_unrecoverable answers.is_unrecoverable (λ a. (same_tests a).3) in
      (λ i. codes "mended " ++ (decimal (sym a i) ++ (codes " " ++ (decimal (sym b i) ++ (codes " " ++ (decimal (sym c i) ++ (codes " " ++ decimal (sym d i))))))))
      ∙ (λ i. if sym none i then codes "full" else numbers_text (map found_of steps))

-- ---- the whole
pub mends_told : (workers : ℕ) (plan : List Item) (os : List Returned) (steps : List Placed) (outcome : RowOutcome) → HaveTookInOrder plan os steps → Took plan os (deeds_in steps) → IsMendOutcome plan os outcome → AreDrawnOnce os
    → Each (λ (p : Placed). (1 ≤ p.step.who) × (p.step.who ≤ workers)) steps → IsMend workers plan (map found_of steps) × IsMendTextOf (map found_of steps) outcome
mends_told workers plan os steps (row.Replied reply) ordered took tells drawn are_by = absurd tells
mends_told workers plan os steps (row.Mended report) ordered took tells drawn are_by =
    let results = results_of (all_left os) in
    let r = took.results tells.0 in
    let none : list_any is_full (deeds_in steps) ≡ false = took.full ∙ tells.0 in (
      mends_first workers plan os steps (length plan) ordered took (λ n. ap (times n) r.1 ∙ tells.1.1 n) are_by (λ no. drop_all (length plan) plan (omega arith)),
      λ reply is. ap line_text is ∙ ap report_line tells.2 ∙ text_is steps results r.0 (meets_are steps ∙ none),
    )
mends_told workers plan os steps row.Full ordered took tells drawn are_by =
    let some : list_any is_full (deeds_in steps) ≡ true = took.full ∙ tells in
    let m = length (drawn_by os) in
    let impossible : (c : ℕ) → list_any is_full (deeds_in steps) ≡ false → drop c plan ≡ [] = λ c no. absurd (true≢false (sym some ∙ no)) in
    let none_past : (n : ℕ) → length plan ≤ n → times n (tickets_in took.taken) ≡ 0 = past_plan plan took.taken took.of_plan in (
      dite (dec_lt m (length plan))
          (λ less. mends_first workers plan os steps m ordered took
          (λ n. dite (dec_lt n (length plan)) (λ below. took.tickets n below ∙ drawn n) (λ past. none_past n (omega (arith, past)) ∙ sym (once_below-out n m (omega (arith, past, less))))) are_by (impossible m))
          (λ many. mends_first workers plan os steps (length plan) ordered took
          (λ n. dite (dec_lt n (length plan)) (λ below. took.tickets n below ∙ drawn n ∙ once_below-in n m (omega (arith, below, many)) ∙ sym (once_below-in n (length plan) below)) (λ past. none_past n (omega (arith, past)) ∙ sym (once_below-out n (length plan) (omega (arith, past)))))
          are_by (impossible (length plan))),
      λ reply is. ap line_text is ∙ (λ i. if sym (meets_are steps ∙ some) i then codes "full" else numbers_text (map found_of steps)),
    )
