-- The accounts of one worker's calls in a round.
use Rattle.std.proofs.Common.{◌≡◌, ◌∙◌, ℕ, ◌+◌, ◌<◌, ◌≤◌, List, [], ◌∷◌, ◌++◌, length, map, None, Some, refl, ap, sym, subst, arith}
use Rattle.gate.specs.Events.{number_if}
use Rattle.book.specs.Serial.{Act, act_of}
use Rattle.requests.specs.declared.jobs.Ask.{Ask}
use Rattle.shared.specs.Deeds.{act_if}
use Rattle.shared.specs.Serving.{Turn, act_in, deed_of_reply, IsServed, AreServed, places_of}
use Rattle.script.specs.declared.rows.Row.{Row}
use Rattle.play.specs.Runs.{IsAsked, round_in}
use Rattle.play.specs.Accounts.{Placed, Stands, own_places, Account, dones_in, numbers_in, steps_in, Settles, IsAccount, IsCallOf, RiseFrom, IsBefore, IsOfWorker}
use Rattle.play.proofs.Noting.{number_replies}
use Rattle.play.specs.declared.calls.WorkerJob.{WorkerJob}
use Rattle.transcript.specs.declared.outcome.NumberedOutcome.{NumberedOutcome}
use Rattle.transcript.specs.declared.outcome.RowOutcome.TheVariants.{Replied}
use Rattle.play.proofs.Buckets.{each-weaker, each-both}
use Rattle.play.specs.Lists.{Each, Pairs}
use Rattle.play.proofs.Texts.{text_of, asked_by}

-- the account of a call: a row past `base` and no later than `top`
pub record IsCallPast (base top : ℕ) (a : Account) : Type 0 where
  pub past : base < a.done.number
  pub few : a.done.number ≤ top
  pub none : a.found ≡ None

-- what one worker did in a round
pub record Part (w l workers : ℕ) (rows : List Row) (round top : ℕ) (acts : List Act) (who base low : ℕ) (mine : List WorkerJob) (turns : List Turn) : Type 0 where
  pub accounts : List Account
  pub dones : dones_in accounts ≡ number_replies (map (λ (c : WorkerJob). c.job.row) mine) (map (λ (t : Turn). t.reply) turns)
  pub numbers : numbers_in (dones_in accounts) ≡ map (λ (c : WorkerJob). c.job.row) mine
  pub right : Each (IsAccount w workers rows) accounts
  pub are_calls : Each (IsCallPast base top) accounts
  pub places : own_places (steps_in accounts) ≡ places_of who turns
  pub stand : Each (Stands w l acts) (steps_in accounts)
  pub are_of : Each (IsOfWorker rows round top who base low) (steps_in accounts)
  pub order : Pairs IsBefore (steps_in accounts)

module _ (w l workers : ℕ) (rows : List Row) (round top : ℕ) (acts : List Act) (who : ℕ) where
  pub part : (base low : ℕ) (mine : List WorkerJob) (turns : List Turn) → map (λ (t : Turn). t.ask) turns ≡ map (λ (c : WorkerJob). c.job.ask) mine → AreServed w l acts who low turns
      → Each (λ (c : WorkerJob). IsCallOf workers rows round top c × (c.worker ≡ who)) mine → RiseFrom base mine → Part w l workers rows round top acts who base low mine turns
  part base low [] [] same served calls rise = record { accounts = []; dones = refl; numbers = refl; right = tt; are_calls = tt; places = refl; stand = tt; are_of = tt; order = tt }
  part base low [] (t ∷ turns) same served calls rise = absurd (cc (same))
  part base low (c ∷ mine) [] same served calls rise = absurd (cc (same))
  part base low (c ∷ mine) (t ∷ turns) same served calls rise =
      let s : IsServed w l acts who t = served.1 in
      let call : IsCallOf workers rows round top c = calls.0.0 in
      let ask : t.ask ≡ c.job.ask = cc (same) in
      let act : act_in who t ≡ act_of who s.deed = ap (act_if who) s.holds in
      let rest = part c.job.row (t.place + length (act_in who t)) mine turns (cc (same)) served.2 calls.1 rise.1 in
      let p : Placed = record { before = s.before; step = record { row = c.job.row; who = who; deed = s.deed } } in
      let one : Account = record { done = record { number = c.job.row; outcome = Replied t.reply }; steps = p ∷ []; found = None } in
      let at : length s.before ≡ t.place = s.place_is in
      let first : low ≤ t.place = served.0 in
      let low_row : base < c.job.row = rise.0 in
      record {
        accounts = one ∷ rest.accounts;
        dones = ap (λ (l : List NumberedOutcome). one.done ∷ l) rest.dones;
        numbers = ap (λ (l : List ℕ). c.job.row ∷ l) rest.numbers;
        right = (
          record {
            before = call.before;
            row = call.row;
            number = call.number;
            there = call.there;
            settles = subst (λ task. Settles w workers call.row task one) (sym call.task) (
              p,
              refl,
              sym (call.worker ∙ calls.0.1),
              subst (λ (a : Ask). IsAsked a s.deed) ask (asked_by t.ask t.reply s.deed s.holds),
              λ reply is. text_of w l who t.ask t.reply s.deed s.before reply s.holds s.does s.granted is,
            );
            of_row = (refl, tt);
          },
          rest.right,
        );
        are_calls = (
          record { past = low_row; few = call.few; none = refl },
          each-weaker (IsCallPast c.job.row top) (IsCallPast base top) (λ a is. let past : c.job.row < a.done.number = is.past in record { past = omega arith; few = is.few; none = is.none }) rest.accounts rest.are_calls,
        );
        places = (λ i. number_if (at i) (sym act i) ++ rest.places i);
        stand = (record { does = s.does; stands = s.stands }, rest.stand);
        are_of = (
          record { label = refl; row = low_row; few = call.few; place = omega arith; in_round = call.in_round },
          each-weaker (IsOfWorker rows round top who c.job.row (t.place + length (act_in who t))) (IsOfWorker rows round top who base low)
              (λ q is. let a : c.job.row < q.step.row = is.row in let b : t.place + length (act_in who t) ≤ length q.before = is.place in
              record { label = is.label; row = omega arith; few = is.few; place = omega arith; in_round = is.in_round }) (steps_in rest.accounts) rest.are_of,
        );
        order = (
          each-weaker (IsOfWorker rows round top who c.job.row (t.place + length (act_in who t))) (IsBefore p)
              (λ q is. let a : c.job.row < q.step.row = is.row in let b : t.place + length (act_in who t) ≤ length q.before = is.place in
              let e : length (act_in who t) ≡ length (act_of who s.deed) = ap length act in (omega arith, omega arith)) (steps_in rest.accounts) rest.are_of,
          rest.order,
        );
      }

-- ---- a mend's worker
-- what it did, all for one row
pub record MendPart (w l : ℕ) (rows : List Row) (round top : ℕ) (acts : List Act) (who base low number : ℕ) (turns : List Turn) : Type 0 where
  pub steps : List Placed
  pub places : own_places steps ≡ places_of who turns
  pub stand : Each (Stands w l acts) steps
  pub are_of : Each (IsOfWorker rows round top who base low) steps
  pub order : Pairs IsBefore steps
  pub of_row : Each (λ (p : Placed). p.step.row ≡ number) steps
  pub holds : map Some (map (λ (p : Placed). p.step.deed) steps) ≡ map (λ (t : Turn). deed_of_reply t.ask t.reply) turns

module _ (w l : ℕ) (rows : List Row) (round top : ℕ) (acts : List Act) (who base number : ℕ) (past : base < number) (few : number ≤ top) (here : round_in rows number ≡ round) where
  pub mend_part : (low : ℕ) (turns : List Turn) → AreServed w l acts who low turns → MendPart w l rows round top acts who base low number turns
  mend_part low [] served = record { steps = []; places = refl; stand = tt; are_of = tt; order = tt; of_row = tt; holds = refl }
  mend_part low (t ∷ turns) served =
      let s : IsServed w l acts who t = served.1 in
      let act : act_in who t ≡ act_of who s.deed = ap (act_if who) s.holds in
      let rest = mend_part (t.place + length (act_in who t)) turns served.2 in
      let p : Placed = record { before = s.before; step = record { row = number; who = who; deed = s.deed } } in
      let at : length s.before ≡ t.place = s.place_is in
      let first : low ≤ t.place = served.0 in
      let e : length (act_in who t) ≡ length (act_of who s.deed) = ap length act in
      let later = each-both (IsOfWorker rows round top who base (t.place + length (act_in who t))) (λ (q : Placed). q.step.row ≡ number) rest.steps rest.are_of rest.of_row in
      record {
        steps = p ∷ rest.steps;
        places = (λ i. number_if (at i) (sym act i) ++ rest.places i);
        stand = (record { does = s.does; stands = s.stands }, rest.stand);
        are_of = (
          record { label = refl; row = past; few = few; place = omega arith; in_round = here },
          each-weaker (IsOfWorker rows round top who base (t.place + length (act_in who t))) (IsOfWorker rows round top who base low)
              (λ q is. let b : t.place + length (act_in who t) ≤ length q.before = is.place in
              record { label = is.label; row = is.row; few = is.few; place = omega arith; in_round = is.in_round }) rest.steps rest.are_of,
        );
        order = (
          each-weaker (λ (q : Placed). IsOfWorker rows round top who base (t.place + length (act_in who t)) q × (q.step.row ≡ number)) (IsBefore p)
              (λ q is. let b : t.place + length (act_in who t) ≤ length q.before = is.0.place in let r : q.step.row ≡ number = is.1 in (omega arith, omega arith)) rest.steps later,
          rest.order,
        );
        of_row = (refl, rest.of_row);
        holds = (λ i. sym s.holds i ∷ rest.holds i);
      }
