-- What the workers of a mend took of its plan, and what they did with it.
use Rattle.std.proofs.Common.{◌≡◌, ◌∙◌, ℕ, suc, ◌+◌, ◌<◌, ◌≤◌, ◌==◌, ◌||◌, Bool, true, false, cond, List, [], ◌∷◌, ◌++◌, length, map, Option, Some, All, refl, ap, sym, subst, ⊎_elim, arith, append-nil, length-append, true≢false}
use Rattle.std.specs.Prelude.{slice_get, slice_index}
use Rattle.std.specs.List.Sorted.{IsStrictlyIncreasing}
use Rattle.std.specs.List.{flat_map, list_any}
use Rattle.std.proofs.lemmas.Bool.Decides.{nat_tests}
use Rattle.std.proofs.lemmas.Grind.{flat_map-append}
use Rattle.std.proofs.lemmas.List.{map-append}
use Rattle.std.proofs.lemmas.List.Elements.{All-head, All-tail}
use Rattle.std.proofs.lemmas.List.Folds.{list_any-append}
use Rattle.gate.specs.Places.{times}
use Rattle.gate.proofs.Lists.{times-append, times-one}
use Rattle.history.specs.Step.{Operation}
use Rattle.book.specs.Serial.{Deed, called, full}
use Rattle.book.specs.Notes.{note_of}
use Rattle.book.specs.declared.plan.Item.{Item}
use Rattle.sealed.specs.declared.fault.Fault.TheVariants.{JournalFull}
use Rattle.requests.specs.declared.jobs.Ask.{Ask}
use Rattle.requests.specs.declared.jobs.Reply.{Reply}
use Rattle.requests.specs.declared.jobs.Reply.TheVariants.{Refused}
use Rattle.shared.specs.Serving.{Turn, deed_of_reply}
use Rattle.mender.specs.declared.done.Done.{Done}
use Rattle.mender.specs.Drawn.{DrawerState}
use Rattle.mender.specs.Gathered.{tickets_of, IsOfPlan}
use Rattle.mender.specs.Mended.{EndedWorker, results_of}
use Rattle.mender.specs.Worked.{repair_of, ask_of, asks_done, replies_of, Worked, Finished}
use Rattle.rounds.specs.declared.kinds.Mended.{Mended}
use Rattle.rounds.specs.declared.kinds.Returned.{Returned}
use Rattle.play.specs.Lists.{Each, Pairs}
use Rattle.play.specs.Mends.{left_of, all_left, is_stopped, drawn_by}
use Rattle.play.specs.Runs.{operation_made, is_full}
use Rattle.play.proofs.Buckets.{each-append, each-weaker}
use Rattle.play.proofs.Mending.{back_with}

-- a ticket with its item
abbrev pub Taken : Type 0
Taken = ℕ × Item

abbrev pub tickets_in : List Taken → List ℕ
tickets_in taken = map (λ (t : Taken). t.0) taken

abbrev pub items_in : List Taken → List Item
items_in taken = map (λ (t : Taken). t.1) taken

-- a result as a deed
abbrev pub deed_in : Done → Deed
deed_in d = called (repair_of d.item) (note_of d.answer)

abbrev pub operations_by : List Deed → List Operation
operations_by deeds = flat_map operation_made deeds

-- What these workers took of the plan, each with its repair. Of the plan's tickets they took just those that were drawn. If none met a full journal, the deeds are the results
pub record Took (plan : List Item) (os : List Returned) (deeds : List Deed) : Type 0 where
  pub taken : List Taken
  pub operations : operations_by deeds ≡ map repair_of (items_in taken)
  pub many : length deeds ≡ length taken
  pub of_plan : Each (λ (t : Taken). slice_get plan t.0 ≡ Some t.1) taken
  pub tickets : (n : ℕ) → n < length plan → times n (tickets_in taken) ≡ times n (drawn_by os)
  pub full : list_any is_full deeds ≡ list_any is_stopped os
  pub results : list_any is_stopped os ≡ false → (deeds ≡ map deed_in (results_of (all_left os))) × (tickets_in taken ≡ tickets_of (results_of (all_left os)))

pub took_none : (plan : List Item) → Took plan [] []
took_none plan = record { taken = []; operations = refl; many = refl; of_plan = tt; tickets = λ n below. refl; full = refl; results = λ none. (refl, refl) }

neither : (a b : Bool) → (a || b) ≡ false → (a ≡ false) × (b ≡ false)
neither true b h = absurd (true≢false h)
neither false b h = (refl, h)

pub took_more : (plan : List Item) (xs ys : List Returned) (one two : List Deed) → Took plan xs one → Took plan ys two → Took plan (xs ++ ys) (one ++ two)
took_more plan xs ys one two a b =
    let any_full = list_any-append is_full one two in
    let any_stopped = list_any-append is_stopped xs ys in
    let tickets_all = map-append (λ (t : Taken). t.0) a.taken b.taken in
    let results_all : results_of (all_left (xs ++ ys)) ≡ results_of (all_left xs) ++ results_of (all_left ys) = ap results_of (map-append left_of xs ys) ∙ flat_map-append (λ (left : EndedWorker). left.done) (all_left xs) (all_left ys) in
    record {
      taken = a.taken ++ b.taken;
      operations = flat_map-append operation_made one two ∙ (λ i. a.operations i ++ b.operations i)
          ∙ sym (ap (map repair_of) (map-append (λ (t : Taken). t.1) a.taken b.taken) ∙ map-append repair_of (items_in a.taken) (items_in b.taken));
      many = omega (arith, length-append one two, length-append a.taken b.taken, a.many, b.many);
      of_plan = each-append (λ (t : Taken). slice_get plan t.0 ≡ Some t.1) a.taken b.taken a.of_plan b.of_plan;
      tickets = λ n below. ap (times n) tickets_all ∙ times-append n (tickets_in a.taken) (tickets_in b.taken) ∙ (λ i. a.tickets n below i + b.tickets n below i)
          ∙ sym (ap (times n) (flat_map-append (λ (o : Returned). o.drawer.drawn) xs ys) ∙ times-append n (drawn_by xs) (drawn_by ys));
      full = any_full ∙ (λ i. a.full i || b.full i) ∙ sym any_stopped;
      results = λ none.
          let each = neither (list_any is_stopped xs) (list_any is_stopped ys) (sym any_stopped ∙ none) in
          let mine = a.results each.0 in
          let theirs = b.results each.1 in (
            (λ i. mine.0 i ++ theirs.0 i) ∙ sym (ap (map deed_in) results_all ∙ map-append deed_in (results_of (all_left xs)) (results_of (all_left ys))),
            tickets_all ∙ (λ i. mine.1 i ++ theirs.1 i) ∙ sym (ap tickets_of results_all ∙ map-append (λ (d : Done). d.ticket) (results_of (all_left xs)) (results_of (all_left ys))),
          );
    }

-- What one of these workers took of the plan, in rising order, each with its repair
pub record TookInOrder (plan : List Item) (os : List Returned) (deeds : List Deed) : Type 0 where
  pub taken : List Taken
  pub operations : operations_by deeds ≡ map repair_of (items_in taken)
  pub of_plan : Each (λ (t : Taken). slice_get plan t.0 ≡ Some t.1) taken
  pub rises : Pairs (λ (t u : Taken). t.0 < u.0) taken
  pub few : (n : ℕ) → n < length plan → times n (tickets_in taken) ≤ times n (drawn_by os)

pub in_order_none : (plan : List Item) (os : List Returned) → TookInOrder plan os []
in_order_none plan os = record { taken = []; operations = refl; of_plan = tt; rises = tt; few = λ n below. omega arith }

-- the same with more workers
drawn_more : (n : ℕ) (o : Returned) (os : List Returned) → times n (drawn_by (o ∷ os)) ≡ times n o.drawer.drawn + times n (drawn_by os)
drawn_more n o os = times-append n o.drawer.drawn (drawn_by os)

pub in_order_first : (plan : List Item) (o : Returned) (os : List Returned) (deeds : List Deed) → TookInOrder plan (o ∷ []) deeds → TookInOrder plan (o ∷ os) deeds
in_order_first plan o os deeds t = record {
  taken = t.taken;
  operations = t.operations;
  of_plan = t.of_plan;
  rises = t.rises;
  few = λ n below. omega (arith, t.few n below, drawn_more n o [], drawn_more n o os);
}

pub in_order_later : (plan : List Item) (o : Returned) (os : List Returned) (deeds : List Deed) → TookInOrder plan os deeds → TookInOrder plan (o ∷ os) deeds
in_order_later plan o os deeds t = record {
  taken = t.taken;
  operations = t.operations;
  of_plan = t.of_plan;
  rises = t.rises;
  few = λ n below. omega (arith, t.few n below, drawn_more n o os);
}

-- ---- tickets that rise
pairs_rise : (xs : List ℕ) → IsStrictlyIncreasing xs → Pairs (λ m n. m < n) xs
pairs_rise [] rise = tt
pairs_rise (x ∷ []) rise = (tt, tt)
pairs_rise (x ∷ y ∷ ys) rise =
    let next : (k : ℕ) → suc k + 1 ≡ suc (k + 1) = λ k. omega arith in
    let rest = pairs_rise (y ∷ ys) (λ k less. subst (λ n. slice_index (y ∷ ys) k < slice_index (x ∷ y ∷ ys) n) (next k) (rise (suc k) (omega (arith, less)))) in
    let first : x < y = rise 0 (omega arith) in
    ((first, each-weaker (λ n. y < n) (λ n. x < n) (λ n less. omega (arith, less, first)) ys rest.0), rest)

each_front : {X : Type 0} (P : X → Type 0) (xs ys : List X) → Each P (xs ++ ys) → Each P xs
each_front P [] ys all = tt
each_front P (x ∷ xs) ys all = (all.0, each_front P xs ys all.1)

pairs_front : {X : Type 0} (R : X → X → Type 0) (xs ys : List X) → Pairs R (xs ++ ys) → Pairs R xs
pairs_front R [] ys all = tt
pairs_front R (x ∷ xs) ys all = (each_front (R x) xs ys all.0, pairs_front R xs ys all.1)

each_unmapped : {X Y : Type 0} (f : X → Y) (P : Y → Type 0) (xs : List X) → Each P (map f xs) → Each (λ x. P (f x)) xs
each_unmapped f P [] all = tt
each_unmapped f P (x ∷ xs) all = (all.0, each_unmapped f P xs all.1)

-- what was taken under tickets that rise
taken_rise : (taken : List Taken) → Pairs (λ m n. m < n) (tickets_in taken) → Pairs (λ (t u : Taken). t.0 < u.0) taken
taken_rise [] rise = tt
taken_rise (t ∷ taken) rise = (each_unmapped (λ (u : Taken). u.0) (λ n. t.0 < n) taken rise.0, taken_rise taken rise.1)

-- ---- one worker
-- its deeds, and that it took the tickets in rising order
pub record TookOne (plan : List Item) (o : Returned) (deeds : List Deed) : Type 0 where
  pub took : Took plan (o ∷ []) deeds
  pub in_order : TookInOrder plan (o ∷ []) deeds

took_one : (plan : List Item) (o : Returned) (deeds : List Deed) (t : Took plan (o ∷ []) deeds) → Pairs (λ m n. m < n) (tickets_in t.taken) → TookOne plan o deeds
took_one plan o deeds t rise = record {
  took = t;
  in_order = record {
    taken = t.taken;
    operations = t.operations;
    of_plan = t.of_plan;
    rises = taken_rise t.taken rise;
    few = λ n below. omega (arith, t.tickets n below);
  };
}

-- the deeds of the replies, in order
abbrev told_all : List Ask → List Reply → List (Option Deed)
told_all [] replies = []
told_all (a ∷ asks) [] = []
told_all (a ∷ asks) (r ∷ replies) = deed_of_reply a r ∷ told_all asks replies

told_by : (turns : List Turn) → map (λ (t : Turn). deed_of_reply t.ask t.reply) turns ≡ told_all (map (λ (t : Turn). t.ask) turns) (map (λ (t : Turn). t.reply) turns)
told_by [] = refl
told_by (t ∷ turns) = ap (λ l. deed_of_reply t.ask t.reply ∷ l) (told_by turns)

told_results : (done : List Done) (asks : List Ask) (replies : List Reply) → told_all (asks_done done ++ asks) (replies_of done ++ replies) ≡ map Some (map deed_in done) ++ told_all asks replies
told_results [] asks replies = refl
told_results (d ∷ done) asks replies = ap (λ l. Some (deed_in d) ∷ l) (told_results done asks replies)

some_same : (xs ys : List Deed) → map Some xs ≡ map Some ys → xs ≡ ys
some_same [] [] e = refl
some_same [] (y ∷ ys) e = absurd (cc e)
some_same (x ∷ xs) [] e = absurd (cc e)
some_same (x ∷ xs) (y ∷ ys) e =
    let heads : x ≡ y = cc e in
    let rest = some_same xs ys (cc e) in
    cc (heads, rest)

-- the deeds of a worker that finished, and of one that met a full journal
pub deeds_finished : (deeds : List Deed) (turns : List Turn) (done : List Done) → map Some deeds ≡ map (λ (t : Turn). deed_of_reply t.ask t.reply) turns → map (λ (t : Turn). t.ask) turns ≡ asks_done done
    → map (λ (t : Turn). t.reply) turns ≡ replies_of done → deeds ≡ map deed_in done
deeds_finished deeds turns done told asks replies = some_same deeds (map deed_in done)
    (told ∙ told_by turns ∙ (λ i. told_all (asks i) (replies i)) ∙ sym (λ i. told_all (append-nil (asks_done done) i) (append-nil (replies_of done) i)) ∙ told_results done [] [] ∙ append-nil (map Some (map deed_in done)))

pub deeds_full : (deeds : List Deed) (turns : List Turn) (done : List Done) (item : Item) → map Some deeds ≡ map (λ (t : Turn). deed_of_reply t.ask t.reply) turns
    → map (λ (t : Turn). t.ask) turns ≡ asks_done done ++ ask_of item ∷ [] → map (λ (t : Turn). t.reply) turns ≡ replies_of done ++ Refused JournalFull ∷ [] → deeds ≡ map deed_in done ++ full (repair_of item) ∷ []
deeds_full deeds turns done item told asks replies = some_same deeds (map deed_in done ++ full (repair_of item) ∷ [])
    (told ∙ told_by turns ∙ (λ i. told_all (asks i) (replies i)) ∙ told_results done (ask_of item ∷ []) (Refused JournalFull ∷ []) ∙ sym (map-append Some (map deed_in done) (full (repair_of item) ∷ [])))

-- a result as what was taken
abbrev taken_in : Done → Taken
taken_in d = (d.ticket, d.item)

operations_done : (done : List Done) → operations_by (map deed_in done) ≡ map repair_of (items_in (map taken_in done))
operations_done [] = refl
operations_done (d ∷ done) = ap (λ l. repair_of d.item ∷ l) (operations_done done)

tickets_done : (done : List Done) → tickets_in (map taken_in done) ≡ tickets_of done
tickets_done [] = refl
tickets_done (d ∷ done) = ap (λ l. d.ticket ∷ l) (tickets_done done)

many_done : (done : List Done) → length (map deed_in done) ≡ length (map taken_in done)
many_done [] = refl
many_done (d ∷ done) = ap suc (many_done done)

none_full : (done : List Done) → list_any is_full (map deed_in done) ≡ false
none_full [] = refl
none_full (d ∷ done) = none_full done

each_of_plan : (plan : List Item) (done : List Done) → All (IsOfPlan plan) done → Each (λ (t : Taken). slice_get plan t.0 ≡ Some t.1) (map taken_in done)
each_of_plan plan [] all = tt
each_of_plan plan (d ∷ done) all = (All-head (IsOfPlan plan) d done all, each_of_plan plan done (All-tail (IsOfPlan plan) d done all))

-- no number past the plan's end is one below it
past_none : (n m count : ℕ) → n < count → count ≤ m → times n (m ∷ []) ≡ 0
past_none n m count below past = let other : (m == n) ≡ false = grind (arith, nat_tests, below, past) in times-one n m ∙ ap (λ b. cond {A = ℕ} b 1 0) other

drawn_finished : (plan : List Item) (old new : DrawerState) (done : List Done) (others : List ℕ) → Worked plan old new done others → old.drawn ≡ [] → (n : ℕ) → times n others ≡ 0 → times n (tickets_of done) ≡ times n (new.drawn ++ [])
drawn_finished plan old new done others w none n past =
    let drawn : new.drawn ≡ tickets_of done ++ others = w.draws.drawn ∙ ap (λ l. l ++ (tickets_of done ++ others)) none in
    let both = ap (times n) (append-nil new.drawn ∙ drawn) ∙ times-append n (tickets_of done) others in
    omega (arith, both, past)

-- a worker that finished
took_finished : (plan : List Item) (old new : DrawerState) (done : List Done) (m : Mended) (others : List ℕ) (deeds : List Deed) → Worked plan old new done others → old.drawn ≡ [] → ((n : ℕ) → n < length plan → times n others ≡ 0)
    → is_stopped (back_with new m) ≡ false → results_of (all_left (back_with new m ∷ [])) ≡ done → deeds ≡ map deed_in done → TookOne plan (back_with new m) deeds
took_finished plan old new done m others deeds w none past not_stopped results are = subst (TookOne plan (back_with new m)) (sym are)
    (took_one plan (back_with new m) (map deed_in done) (record {
      taken = map taken_in done;
      operations = operations_done done;
      many = many_done done;
      of_plan = each_of_plan plan done w.of_plan;
      tickets = λ n below. ap (times n) (tickets_done done) ∙ drawn_finished plan old new done others w none n (past n below);
      full = none_full done ∙ sym (ap (λ b. b || false) not_stopped);
      results = λ no. (ap (map deed_in) (sym results), tickets_done done ∙ ap tickets_of (sym results));
    })
    (subst (Pairs (λ m n. m < n)) (sym (tickets_done done)) (pairs_front (λ m n. m < n) (tickets_of done) others (pairs_rise (tickets_of done ++ others) w.rises))))

pub took_ok : (plan : List Item) (old new : DrawerState) (done : List Done) (m : Mended) (deeds : List Deed) → Finished plan old new done → old.drawn ≡ [] → is_stopped (back_with new m) ≡ false
    → results_of (all_left (back_with new m ∷ [])) ≡ done → deeds ≡ map deed_in done → TookOne plan (back_with new m) deeds
took_ok plan old new done m deeds finished none not_stopped results are = ⊎_elim
    (λ t. took_finished plan old new done m [] deeds t.0 none (λ n below. refl) not_stopped results are)
    (λ t. took_finished plan old new done m (t.0 ∷ []) deeds t.2 none (λ n below. past_none n t.0 (length plan) below t.1) not_stopped results are)
    finished

-- and one that met a full journal
tickets_last : (done : List Done) (ticket : ℕ) (item : Item) → tickets_in (map taken_in done ++ (ticket, item) ∷ []) ≡ tickets_of done ++ ticket ∷ []
tickets_last done ticket item = map-append (λ (t : Taken). t.0) (map taken_in done) ((ticket, item) ∷ []) ∙ ap (λ l. l ++ ticket ∷ []) (tickets_done done)

pub took_full : (plan : List Item) (old new : DrawerState) (done : List Done) (m : Mended) (ticket : ℕ) (item : Item) (deeds : List Deed) → Worked plan old new done (ticket ∷ []) → slice_get plan ticket ≡ Some item → old.drawn ≡ []
    → is_stopped (back_with new m) ≡ true → deeds ≡ map deed_in done ++ full (repair_of item) ∷ [] → TookOne plan (back_with new m) deeds
took_full plan old new done m ticket item deeds w there none stopped are = subst (TookOne plan (back_with new m)) (sym are)
    (took_one plan (back_with new m) (map deed_in done ++ full (repair_of item) ∷ []) (record {
      taken = map taken_in done ++ (ticket, item) ∷ [];
      operations = flat_map-append operation_made (map deed_in done) (full (repair_of item) ∷ []) ∙ ap (λ l. l ++ repair_of item ∷ []) (operations_done done)
          ∙ sym (ap (map repair_of) (map-append (λ (t : Taken). t.1) (map taken_in done) ((ticket, item) ∷ [])) ∙ map-append repair_of (items_in (map taken_in done)) (item ∷ []));
      many = omega (arith, length-append (map deed_in done) (full (repair_of item) ∷ []), length-append (map taken_in done) ((ticket, item) ∷ []), many_done done);
      of_plan = each-append (λ (t : Taken). slice_get plan t.0 ≡ Some t.1) (map taken_in done) ((ticket, item) ∷ []) (each_of_plan plan done w.of_plan) (there, tt);
      tickets = λ n below. ap (times n) (tickets_last done ticket item) ∙ ap (times n) (sym (append-nil new.drawn ∙ w.draws.drawn ∙ ap (λ l. l ++ (tickets_of done ++ ticket ∷ [])) none));
      full = list_any-append is_full (map deed_in done) (full (repair_of item) ∷ []) ∙ ap (λ b. b || true) (none_full done) ∙ sym (ap (λ b. b || false) stopped);
      results = λ no. absurd (true≢false (sym (ap (λ b. b || false) stopped) ∙ no));
    })
    (subst (Pairs (λ m n. m < n)) (sym (tickets_last done ticket item)) (pairs_rise (tickets_of done ++ ticket ∷ []) w.rises)))
