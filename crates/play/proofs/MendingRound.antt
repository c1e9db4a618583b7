-- The effect of a mend's workers, as the pass shows it that joined them.
use Rattle.std.proofs.Common.{◌≡◌, ◌∙◌, ℕ, ◌+◌, ◌<◌, ◌≤◌, ◌==◌, Bool, true, false, List, [], ◌∷◌, ◌++◌, length, map, None, Some, Ok, Err, refl, ap, sym, subst, append-nil, length-append, arith, inl, inr, ne_eqb}
use Rattle.std.specs.Prelude.{slice_get}
use Rattle.std.proofs.lemmas.Grind.{flat_map-append}
use Rattle.std.proofs.lemmas.List.{length-map, map-append}
use Rattle.std.proofs.lemmas.List.Elements.{filter-append}
use Rattle.std.proofs.lemmas.Bool.Decides.{nat_tests}
use mathlib.Core.List.{IsPrefix}
use Rattle.gate.specs.Events.{number_if}
use Rattle.gate.specs.Places.{TableId, times}
use Rattle.gate.proofs.Lists.{prefix_length, prefix_whole}
use Rattle.sealed.specs.declared.fault.Fault.TheVariants.{JournalFull}
use Rattle.book.specs.Plan.{plan_of}
use Rattle.book.specs.Serial.{Act, Deed, standing_of}
use Rattle.book.specs.declared.plan.Item.{Item}
use Rattle.shared.specs.Passes.{Which, Shows}
use Rattle.shared.specs.Deeds.{Takes}
use Rattle.requests.specs.declared.jobs.Ask.{Ask}
use Rattle.requests.specs.declared.jobs.Reply.{Reply}
use Rattle.requests.specs.declared.jobs.Reply.TheVariants.{Made, Refused}
use Rattle.mender.specs.Worked.{Finished, ask_of, asks_done, replies_of}
use Rattle.mender.specs.Worked as worked
use Rattle.shared.specs.Serving.{Turn, deed_of_reply, AreServed, places_of, Serves}
use Rattle.shared.proofs.Serving.{are_served-longer}
use Rattle.rounds.specs.Rounds.{DidAll}
use Rattle.rounds.specs.Errands.{DidMend, DidPart}
use Rattle.rounds.specs.declared.kinds.Mended.TheVariants.{Paused, Worked}
use Rattle.rounds.specs.declared.kinds.Mended.{Mended}
use Rattle.rounds.specs.declared.kinds.Mending.{Mending}
use Rattle.rounds.specs.declared.kinds.Returned.{Returned}
use Rattle.rounds.specs.declared.work.Ran.{Ran}
use Rattle.rounds.specs.declared.work.Work.{Work}
use Rattle.script.specs.declared.rows.Row.{Row}
use Rattle.script.specs.declared.rows.Task.TheVariants as task
use Rattle.rounds.specs.Pools.{IsAllOwn, AreWorkers, AreNew, HaveSeen, did_by, passes_of, passes_back, outcomes_of}
use Rattle.play.specs.Mends.{IsMendingPart, AreMenders, HasEnded, AreEnded, IsMendOutcome, AreDrawnOnce}
use Rattle.play.specs.Runs.{IsMend, round_in}
use Rattle.play.specs.Lists.{Each, Pairs}
use Rattle.play.specs.Accounts.{Placed, act_at, Stands, own_places, Account, steps_in, found_of, Settles, IsMendOf, FindsAll, IsRound, IsOfWorker, IsBefore, IsInTurn, IsGood, IsLater}
use Rattle.transcript.specs.declared.outcome.NumberedOutcome.{NumberedOutcome}
use Rattle.transcript.specs.declared.outcome.RowOutcome.{RowOutcome}
use Rattle.play.proofs.Buckets.{each-append, each-across, each-both, each-weaker, filter-all, filter-none, pairs-append, pairs-weaker}
use Rattle.play.proofs.Parts.{MendPart, mend_part}
use Rattle.play.proofs.Taking.{Took, TookOne, TookInOrder, took_none, took_more, took_ok, took_full, in_order_none, in_order_first, in_order_later, deeds_finished, deeds_full}
use Rattle.mender.specs.Drawn.{DrawerState}
use Rattle.play.proofs.Mending.{back_with}
use Rattle.play.proofs.Repaired.{deeds_in, is_with, steps_with, HaveTookInOrder, mends_told}

-- if each had a reply, all were asked for
all_asked : (v w : Shows) (asks : List Ask) (replies : List Reply) (serves : Serves v asks replies w) → length replies ≡ length asks → map (λ (t : Turn). t.ask) serves.turns ≡ asks
all_asked v w asks replies serves many =
    let a : length (map (λ (t : Turn). t.ask) serves.turns) ≡ length serves.turns = length-map serves.turns (λ t. t.ask) in
    let b : length (map (λ (t : Turn). t.reply) serves.turns) ≡ length serves.turns = length-map serves.turns (λ t. t.reply) in
    let c : length (map (λ (t : Turn). t.reply) serves.turns) ≡ length replies = ap length serves.replied in
    prefix_whole (map (λ (t : Turn). t.ask) serves.turns) asks serves.asked (omega (arith, a, b, c, many))

module _ (store : Which) (rows : List Row) (round top base number : ℕ) (past : base < number) (few : number ≤ top) (here : round_in rows number ≡ round) (before acts : List Act) (plan : List Item) (tickets : TableId) where
  -- a worker that mended: its turns
  pub record Turned (who : ℕ) (o : Returned) (w : Shows) : Type 0 where
    pub turns : List Turn
    pub did : w.did ≡ places_of who turns
    pub part : MendPart store.width store.limit rows round top acts who base (length before) number turns
    pub took : TookOne plan o (deeds_in part.steps)

  turned : (who : ℕ) (o : Returned) (v w : Shows) (asks : List Ask) (replies : List Reply) → v.store ≡ store → (v.who ≡ who) × (v.acts ≡ before) × (v.did ≡ []) → (serves : Serves v asks replies w) → IsPrefix w.acts acts
      → ((deeds : List Deed) → map Some deeds ≡ map (λ (t : Turn). deed_of_reply t.ask t.reply) serves.turns → TookOne plan o deeds) → Turned who o w
  turned who o v w asks replies at new serves later takes =
      let each : AreServed store.width store.limit acts who (length before) serves.turns =
      subst (λ (u : Which × (ℕ × List Act)). AreServed u.0.width u.0.limit acts u.1.0 (length u.1.1) serves.turns) (λ i. (at i, (new.0 i, new.1 i)))
      (are_served-longer v.store.width v.store.limit w.acts acts v.who (length v.acts) serves.turns later serves.each) in
      let mine = mend_part store.width store.limit rows round top acts who base number past few here (length before) serves.turns each in
      record {
        turns = serves.turns;
        did = serves.did ∙ (λ i. new.2 i ++ places_of (new.0 i) serves.turns);
        part = mine;
        took = takes (deeds_in mine.steps) mine.holds;
      }

  mender_did : (who : ℕ) (v w : Shows) (m : Mending) (drawer : DrawerState) (mended : Mended) → v.store ≡ store → (v.who ≡ who) × (v.acts ≡ before) × (v.did ≡ []) → IsMendingPart plan tickets m → DidPart v m drawer mended w → HasEnded mended → IsPrefix w.acts acts
      → Turned who (back_with drawer mended) w
  mender_did who v w m drawer Paused at new is did ended later = absurd ended
  mender_did who v w m drawer (Worked (Ok done)) at new is did ended later =
      let asked = all_asked v w (asks_done done.items) (replies_of done.items) did.1 (length-map done.items (λ d. Made d.answer) ∙ sym (length-map done.items (λ d. ask_of d.item))) in
      turned who (back_with drawer (Worked (Ok done))) v w (asks_done done.items) (replies_of done.items) at new did.1 later
      (λ deeds told.
      took_ok plan m.drawer drawer done.items (Worked (Ok done)) deeds (subst (λ (p : List Item). Finished p m.drawer drawer done.items) is.plan_is did.0) is.none refl (append-nil done.items)
      (deeds_finished deeds did.1.turns done.items told asked did.1.replied))
  mender_did who v w m drawer (Worked (Err stop)) at new is did ended later =
      let full = did.2 ended in
      let done = stop.done.items in
      let asks = asks_done done ++ ask_of full.item ∷ [] in
      let replies = replies_of done ++ Refused JournalFull ∷ [] in
      let many : length replies ≡ length asks = omega (arith, length-append (replies_of done) (Refused JournalFull ∷ []), length-append (asks_done done) (ask_of full.item ∷ []), length-map done (λ d. Made d.answer), length-map done (λ d. ask_of d.item)) in
      let asked = all_asked v w asks replies full.serves many in
      turned who (back_with drawer (Worked (Err stop))) v w asks replies at new full.serves later
      (λ deeds told.
      took_full plan m.drawer drawer done (Worked (Err stop)) full.ticket full.item deeds (subst (λ (p : List Item). worked.Worked p m.drawer drawer done (full.ticket ∷ [])) is.plan_is full.worked)
      (subst (λ (p : List Item). slice_get p full.ticket ≡ Some full.item) is.plan_is full.there) is.none refl (deeds_full deeds full.serves.turns done full.item told asked full.serves.replied))

  -- what the workers from this one on did
  pub record MendersDid (who : ℕ) (os : List Returned) (did : List ℕ) : Type 0 where
    pub steps : List Placed
    pub places : did ≡ own_places steps
    pub stand : Each (Stands store.width store.limit acts) steps
    pub are_later : Each (IsLater rows round top base (length before)) steps
    pub labels : Each (λ (p : Placed). who ≤ p.step.who) steps
    pub order : Pairs (IsGood (round_in rows)) steps
    pub of_row : Each (λ (p : Placed). p.step.row ≡ number) steps
    pub below : Each (λ (p : Placed). p.step.who < who + length os) steps
    pub took : Took plan os (deeds_in steps)
    pub in_order : HaveTookInOrder plan os steps
    pub in_turn : Pairs IsInTurn steps

  -- the steps of one worker and of those after it, by worker
  in_order_both : (who : ℕ) (o : Returned) (os : List Returned) (xs ys : List Placed) → Each (λ (q : Placed). q.step.who ≡ who) xs → Each (λ (q : Placed). who + 1 ≤ q.step.who) ys
      → TookInOrder plan (o ∷ []) (deeds_in xs) → HaveTookInOrder plan os ys → HaveTookInOrder plan (o ∷ os) (xs ++ ys)
  in_order_both who o os xs ys of_one of_rest one rest v = by (who == v) refl
    where
      both : steps_with v (xs ++ ys) ≡ steps_with v xs ++ steps_with v ys
      both = filter-append (is_with v) xs ys

      by : (b : Bool) → (who == v) ≡ b → TookInOrder plan (o ∷ os) (deeds_in (steps_with v (xs ++ ys)))
      by true e =
          let mine = filter-all (is_with v) xs (each-weaker (λ (q : Placed). q.step.who ≡ who) (λ q. is_with v q ≡ true) (λ q is. ap (λ n. n == v) is ∙ e) xs of_one) in
          let same : who ≡ v = grind (arith, nat_tests, e) in
          let theirs = filter-none (is_with v) ys (each-weaker (λ (q : Placed). who + 1 ≤ q.step.who) (λ q. is_with v q ≡ false) (λ q le. ne_eqb q.step.who v (λ h. omega (arith, le, h, same))) ys of_rest) in
          subst (λ (l : List Placed). TookInOrder plan (o ∷ os) (deeds_in l)) (sym (both ∙ (λ i. mine i ++ theirs i) ∙ append-nil xs)) (in_order_first plan o os (deeds_in xs) one)
      by false e =
          let none = filter-none (is_with v) xs (each-weaker (λ (q : Placed). q.step.who ≡ who) (λ q. is_with v q ≡ false) (λ q is. ap (λ n. n == v) is ∙ e) xs of_one) in
          subst (λ (l : List Placed). TookInOrder plan (o ∷ os) (deeds_in l)) (sym (both ∙ ap (λ l. l ++ steps_with v ys) none)) (in_order_later plan o os (deeds_in (steps_with v ys)) (rest v))

  one_mender : (who : ℕ) (o : Returned) (os : List Returned) (w : Shows) (rest_did : List ℕ) → Turned who o w → MendersDid (who + 1) os rest_did → MendersDid who (o ∷ os) (w.did ++ rest_did)
  one_mender who o os w rest_did t rest =
      let p = t.part in
      let xs = p.steps in
      let ys = rest.steps in
      let later = each-weaker (IsOfWorker rows round top who base (length before)) (IsLater rows round top base (length before)) (λ q is. record { row = is.row; few = is.few; place = is.place; in_round = is.in_round }) xs p.are_of in
      let across : (x y : Placed) → (x.step.row ≡ number) → (y.step.row ≡ number) × (who + 1 ≤ y.step.who) → IsGood (round_in rows) x y = λ x y a b. (inl (omega (arith, a, b.0)), inl (inl (omega (arith, a, b.0)))) in
      let both = each-both (λ (q : Placed). q.step.row ≡ number) (λ (q : Placed). who + 1 ≤ q.step.who) ys rest.of_row rest.labels in
      let of_one = each-weaker (IsOfWorker rows round top who base (length before)) (λ (q : Placed). q.step.who ≡ who) (λ q is. is.label) xs p.are_of in
      record {
        steps = xs ++ ys;
        places = (λ i. (t.did ∙ sym p.places) i ++ rest.places i) ∙ sym (flat_map-append (λ (q : Placed). number_if (length q.before) (act_at q)) xs ys);
        stand = each-append (Stands store.width store.limit acts) xs ys p.stand rest.stand;
        are_later = each-append (IsLater rows round top base (length before)) xs ys later rest.are_later;
        labels = each-append (λ (q : Placed). who ≤ q.step.who) xs ys
            (each-weaker (IsOfWorker rows round top who base (length before)) (λ (q : Placed). who ≤ q.step.who) (λ q is. let e : q.step.who ≡ who = is.label in omega arith) xs p.are_of)
            (each-weaker (λ (q : Placed). who + 1 ≤ q.step.who) (λ (q : Placed). who ≤ q.step.who) (λ q is. omega arith) ys rest.labels);
        order = pairs-append (IsGood (round_in rows)) xs ys (pairs-weaker IsBefore (IsGood (round_in rows)) (λ x y is. (inl is.0, inr is.1)) xs p.order) rest.order
            (each-across (λ (q : Placed). q.step.row ≡ number) (λ (q : Placed). (q.step.row ≡ number) × (who + 1 ≤ q.step.who)) (IsGood (round_in rows)) across xs ys p.of_row both);
        of_row = each-append (λ (q : Placed). q.step.row ≡ number) xs ys p.of_row rest.of_row;
        below = each-append (λ (q : Placed). q.step.who < who + length (o ∷ os)) xs ys
            (each-weaker (IsOfWorker rows round top who base (length before)) (λ (q : Placed). q.step.who < who + length (o ∷ os)) (λ q is. let e : q.step.who ≡ who = is.label in omega arith) xs p.are_of)
            (each-weaker (λ (q : Placed). q.step.who < who + 1 + length os) (λ (q : Placed). q.step.who < who + length (o ∷ os)) (λ q less. omega (arith, less)) ys rest.below);
        took = subst (Took plan (o ∷ os)) (sym (map-append (λ (q : Placed). q.step.deed) xs ys)) (took_more plan (o ∷ []) os (deeds_in xs) (deeds_in ys) t.took.took rest.took);
        in_order = in_order_both who o os xs ys of_one rest.labels t.took.in_order rest.in_order;
        in_turn = pairs-append IsInTurn xs ys (pairs-weaker IsBefore IsInTurn (λ x y is same. is.1) xs p.order) rest.in_turn
            (each-across (λ (q : Placed). q.step.who ≡ who) (λ (q : Placed). who + 1 ≤ q.step.who) IsInTurn (λ x y mine later same. absurd (omega (arith, mine, later, same))) xs ys of_one rest.labels);
      }

  pub menders_did : (who : ℕ) (works : List (Work Mending)) (rans : List (Ran Returned)) → AreWorkers store (passes_of works) → AreNew before who (passes_of works) → AreMenders plan tickets works → DidAll DidMend works rans
      → AreEnded (outcomes_of rans) → HaveSeen acts (passes_back rans) → MendersDid who (outcomes_of rans) (did_by (passes_back rans))
  menders_did who [] [] at fresh are did ended seen = record { steps = []; places = refl; stand = tt; are_later = tt; labels = tt; order = tt; of_row = tt; below = tt; took = took_none plan; in_order = λ v. in_order_none plan []; in_turn = tt }
  menders_did who [] (r ∷ rans) at fresh are did ended seen = absurd did
  menders_did who (w ∷ works) [] at fresh are did ended seen = absurd did
  menders_did who (w ∷ works) (r ∷ rans) at fresh are did ended seen =
      one_mender who r.outcome (outcomes_of rans) r.pass (did_by (passes_back rans)) (mender_did who w.pass r.pass w.errand r.outcome.drawer r.outcome.mended at.0.0 fresh.0 are.0 did.0 ended.0 seen.0)
      (menders_did (who + 1) works rans at.1 fresh.1 are.1 did.1 ended.1 seen.1)

-- ---- before the workers mend
-- a look by a pass with a room of 64 finds nothing new
pub looked_alone : (v w : Shows) → Takes v None w → v.room ≡ 64 → (w.acts ≡ v.acts) × (w.did ≡ v.did)
looked_alone v w t all = (
  t.acts ∙ append-nil (v.acts ++ t.others) ∙ ap (λ l. v.acts ++ l) (t.lone all) ∙ append-nil v.acts,
  t.did ∙ append-nil v.did,
)

pub own_still : (v w : Shows) → (w.acts ≡ v.acts) × (w.did ≡ v.did) → IsAllOwn v → IsAllOwn w
own_still v w same own = subst (λ (u : List Act × List ℕ). (k : ℕ) → k < length u.0 → times k u.1 ≡ 1) (λ i. (sym same.0 i, sym same.1 i)) own

pub did_none : (acts : List Act) (who : ℕ) (ps : List Shows) → AreNew acts who ps → did_by ps ≡ []
did_none acts who [] fresh = refl
did_none acts who (p ∷ ps) fresh = (λ i. fresh.0.2 i ++ did_none acts (who + 1) ps fresh.1 i)

-- ---- the mend as a round
pub mend_round : (store : Which) (workers : ℕ) (rows : List Row) (round top base number : ℕ) (is : IsMendOf rows round top base number) (old hired renewed : Shows) (passes : List Shows) (plan : List Item) (tickets : TableId)
    (works : List (Work Mending)) (rans : List (Ran Returned)) (outcome : RowOutcome) (done : List NumberedOutcome)
    → AreNew old.acts 1 passes → IsPrefix old.acts hired.acts → hired.did ≡ old.did ++ did_by passes → IsAllOwn hired → IsPrefix hired.acts renewed.acts
    → AreWorkers store (passes_of works) → AreNew hired.acts 1 (passes_of works) → AreMenders plan tickets works → DidAll DidMend works rans → AreEnded (outcomes_of rans) → HaveSeen renewed.acts (passes_back rans)
    → renewed.did ≡ hired.did ++ did_by (passes_back rans) → plan ≡ plan_of (standing_of hired.acts).state → length rans ≡ workers → IsMendOutcome plan (outcomes_of rans) outcome → AreDrawnOnce (outcomes_of rans)
    → IsRound store.width store.limit workers rows round top base (number ∷ []) old.acts renewed.acts old.did renewed.did done (done ++ record { number = number; outcome = outcome } ∷ [])
mend_round store workers rows round top base number is old hired renewed passes plan tickets works rans outcome done idle longer joined own later at fresh are did ended seen all_did planned many tells drawn =
    let m = menders_did store rows round top base number is.past is.few is.in_round hired.acts renewed.acts plan tickets 1 works rans at fresh are did ended seen in
    let one : Account = record { done = record { number = number; outcome = outcome }; steps = m.steps; found = Some hired.acts } in
    let steps : steps_in (one ∷ []) ≡ m.steps = append-nil m.steps in
    let le : length old.acts ≤ length hired.acts = prefix_length old.acts hired.acts longer in
    let none : old.did ++ did_by passes ≡ old.did = ap (λ l. old.did ++ l) (did_none old.acts 1 passes idle) ∙ append-nil old.did in
    let did_same : hired.did ≡ old.did = joined ∙ none in
    let outcomes : length (outcomes_of rans) ≡ length rans = length-map rans (λ r. r.outcome) in
    let by_workers = each-both (λ (p : Placed). 1 ≤ p.step.who) (λ (p : Placed). p.step.who < 1 + length (outcomes_of rans)) m.steps m.labels m.below in
    let mended = mends_told workers plan (outcomes_of rans) m.steps outcome m.in_order m.took tells drawn
    (each-weaker (λ (p : Placed). (1 ≤ p.step.who) × (p.step.who < 1 + length (outcomes_of rans))) (λ (p : Placed). (1 ≤ p.step.who) × (p.step.who ≤ workers)) (λ p h. (h.0, omega (arith, h.1, outcomes, many))) m.steps by_workers) in
    let settles : Settles store.width workers is.row task.Mend one = (hired.acts, refl, subst (λ (items : List Item). IsMend workers items (map found_of m.steps)) planned mended.0, m.in_turn, mended.1) in
    record {
      accounts = one ∷ [];
      dones = refl;
      right = (
        record { before = is.before; row = is.row; number = is.number_is; there = is.there; settles = subst (λ asked. Settles store.width workers is.row asked one) (sym is.task) settles; of_row = m.of_row },
        tt,
      );
      places = all_did ∙ (λ i. did_same i ++ m.places i) ∙ ap (λ l. old.did ++ own_places l) (sym steps);
      stand = subst (Each (Stands store.width store.limit renewed.acts)) (sym steps) m.stand;
      are_later = subst (Each (IsLater rows round top base (length old.acts))) (sym steps)
          (each-weaker (IsLater rows round top base (length hired.acts)) (IsLater rows round top base (length old.acts))
          (λ q q_is. let b : length hired.acts ≤ length q.before = q_is.place in record { row = q_is.row; few = q_is.few; place = omega arith; in_round = q_is.in_round }) m.steps m.are_later);
      order = subst (Pairs (IsGood (round_in rows))) (sym steps) m.order;
      are_next = (
        record {
          past = is.past;
          few = is.few;
          finds = λ found e.
              let found_is : hired.acts ≡ found = cc e in
              subst (λ (acts : List Act). FindsAll old.acts renewed.acts acts old.did number (steps_in (one ∷ []))) found_is (record {
                after = longer;
                within = later;
                all = λ k below. ap (times k) (sym did_same) ∙ own k below;
                first = subst (Each (λ (p : Placed). number ≤ p.step.row)) (sym steps) (each-weaker (λ (p : Placed). p.step.row ≡ number) (λ (p : Placed). number ≤ p.step.row) (λ p of_row. omega (arith, of_row)) m.steps m.of_row);
              });
        },
        tt,
      );
      once = λ k. refl;
    }
