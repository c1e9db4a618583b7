-- Rounds, one after the other.
use Rattle.std.proofs.Common.{◌≡◌, ◌∙◌, ℕ, ◌+◌, ◌-◌, ◌<◌, ◌≤◌, Some, map, List, [], ◌∷◌, ◌++◌, length, All, nat_lt, cond, ◌==◌, true, false, refl, ap, sym, subst, length-append, append-nil, arith, inl, inr}
use Rattle.std.proofs.lemmas.Grind.{flat_map-append}
use Rattle.std.specs.Prelude.{slice_get, slice_index_or}
use Rattle.std.proofs.lemmas.List.{map-append}
use Rattle.std.proofs.lemmas.List.Elements.{All-head, All-tail, filter-append}
use Rattle.std.proofs.lemmas.Bool.Decides.{nat_tests}
use Rattle.gate.specs.Places.{times, once_later}
use mathlib.Core.List.{IsPrefix}
use Rattle.gate.specs.Events.{number_if}
use Rattle.gate.proofs.Lists.{once_later-suc, prefix_length, prefix_trans, times-append, times-one}
use Rattle.book.specs.Serial.{Act}
use Rattle.script.specs.declared.rows.Row.{Row}
use Rattle.script.specs.Script.{IsWorkerOf, HasWorker}
use Rattle.script.specs.declared.rows.Task.TheVariants.{Make, Mend}
use Rattle.shared.specs.Passes.{Which}
use Rattle.requests.specs.declared.jobs.Ask.{Ask}
use Rattle.rounds.specs.Pools.{IsFresh}
use Rattle.rounds.specs.declared.pool.Pool.{Pool}
use Rattle.play.specs.Runs.{round_in}
use Rattle.play.specs.Lists.{Each, Pairs}
use Rattle.play.specs.Accounts.{Placed, act_at, Stands, own_places, Account, dones_in, numbers_in, steps_in, earlier, HasDone, IsAccount, IsCallOf, IsMendOf, RiseFrom, IsGood, IsLater, IsNext, IsDone, IsRound, IsPlayed}
use Rattle.play.specs.Progress.{AreReported, HasRun, IsReadyFor, IsRowAt, Waits, rows_waiting}
use Rattle.play.specs.declared.calls.WorkerJob.{WorkerJob}
use Rattle.play.specs.declared.rows.Progress.{Progress}
use Rattle.transcript.specs.declared.outcome.NumberedOutcome.{NumberedOutcome}
use Rattle.play.proofs.Buckets.{each-append, each-across, each-both, each-weaker, pairs-append}

pub played_none : (w l workers : ℕ) (rows : List Row) (acts : List Act) → IsPlayed w l workers rows 0 acts [] []
played_none w l workers rows acts = record { accounts = []; dones = refl; right = tt; places = refl; stand = tt; few = tt; order = tt; are_done = tt }

-- it stands in more acts
pub stands_longer : (w l : ℕ) (acts later : List Act) → IsPrefix acts later → (p : Placed) → Stands w l acts p → Stands w l later p
stands_longer w l acts later more p is = record { does = is.does; stands = prefix_trans (p.before ++ act_at p) acts later is.stands more }

-- of steps of later rows none is earlier, and of those of earlier rows each is
none_earlier : (n : ℕ) (xs : List Placed) → Each (λ (p : Placed). n ≤ p.step.row) xs → earlier n xs ≡ []
none_earlier n [] late = refl
none_earlier n (p ∷ xs) late = let no : nat_lt p.step.row n ≡ false = grind (arith, nat_tests, late.0) in ap (λ b. cond b (p ∷ earlier n xs) (earlier n xs)) no ∙ none_earlier n xs late.1

all_earlier : (n : ℕ) (xs : List Placed) → Each (λ (p : Placed). p.step.row < n) xs → earlier n xs ≡ xs
all_earlier n [] early = refl
all_earlier n (p ∷ xs) early = let yes : nat_lt p.step.row n ≡ true = grind (arith, nat_tests, early.0) in ap (λ b. cond b (p ∷ earlier n xs) (earlier n xs)) yes ∙ ap (λ l. p ∷ l) (all_earlier n xs early.1)

-- later steps do not change what a row found
earlier_old : (n : ℕ) (xs ys : List Placed) → Each (λ (p : Placed). n ≤ p.step.row) ys → earlier n (xs ++ ys) ≡ earlier n xs
earlier_old n xs ys late = filter-append (λ (p : Placed). nat_lt p.step.row n) xs ys ∙ ap (λ l. earlier n xs ++ l) (none_earlier n ys late) ∙ append-nil (earlier n xs)

done_still : (w l base top : ℕ) (before acts : List Act) (xs ys : List Placed) → base ≤ top → IsPrefix before acts → Each (λ (p : Placed). base < p.step.row) ys → (a : Account) → IsDone w l base before xs a
    → IsDone w l top acts (xs ++ ys) a
done_still w l base top before acts xs ys le more late a is =
    let few : a.done.number ≤ base = is.few in
    record {
      few = omega arith;
      finds = λ found e.
          let f = is.finds found e in
          let same = earlier_old a.done.number xs ys (each-weaker (λ (p : Placed). base < p.step.row) (λ (p : Placed). a.done.number ≤ p.step.row) (λ p past. omega (arith, past, few)) ys late) in
          (prefix_trans found before acts f.0 more, subst (HasDone w l found) (sym same) f.1);
    }

done_now : (w l base top : ℕ) (before acts : List Act) (did : List ℕ) (xs ys : List Placed) → did ≡ own_places xs → Each (Stands w l before) xs → Each (λ (p : Placed). p.step.row ≤ base) xs → (a : Account)
    → IsNext base top before acts did ys a → IsDone w l top acts (xs ++ ys) a
done_now w l base top before acts did xs ys places stand early a is =
    let past : base < a.done.number = is.past in
    record {
      few = is.few;
      finds = λ found e.
          let f = is.finds found e in
          let same : earlier a.done.number (xs ++ ys) ≡ xs = earlier_old a.done.number xs ys f.first
          ∙ all_earlier a.done.number xs (each-weaker (λ (p : Placed). p.step.row ≤ base) (λ (p : Placed). p.step.row < a.done.number) (λ p few. omega (arith, few, past)) xs early) in
          let has : HasDone w l found xs = record {
            stand = each-weaker (Stands w l before) (Stands w l found) (stands_longer w l before found f.after) xs stand;
            all = λ k below. ap (times k) (sym places) ∙ f.all k below;
          } in
          (f.within, subst (HasDone w l found) (sym same) has);
    }

-- one round more
pub played_more : (w l workers : ℕ) (rows : List Row) (round base top : ℕ) (numbers : List ℕ) (before acts : List Act) (old_did new_did : List ℕ) (old new : List NumberedOutcome) → base ≤ top → IsPrefix before acts
    → IsPlayed w l workers rows base before old_did old → IsRound w l workers rows round top base numbers before acts old_did new_did old new → IsPlayed w l workers rows top acts new_did new
played_more w l workers rows round base top numbers before acts old_did new_did old new le more p r =
    let xs = steps_in p.accounts in
    let ys = steps_in r.accounts in
    let all : steps_in (p.accounts ++ r.accounts) ≡ xs ++ ys = flat_map-append (λ (a : Account). a.steps) p.accounts r.accounts in
    let early = each-both (Stands w l before) (λ (q : Placed). q.step.row ≤ base) xs p.stand p.few in
    let across : (x y : Placed) → Stands w l before x × (x.step.row ≤ base) → IsLater rows round top base (length before) y → IsGood (round_in rows) x y = λ x y a b.
    let inside = prefix_length (x.before ++ act_at x) before a.0.stands in
    let long = length-append x.before (act_at x) in
    let x_row : x.step.row ≤ base = a.1 in
    let y_row : base < y.step.row = b.row in
    let y_place : length before ≤ length y.before = b.place in
    (inl (omega arith), inr (omega arith)) in
    record {
      accounts = p.accounts ++ r.accounts;
      dones = r.dones ∙ ap (λ (l : List NumberedOutcome). l ++ dones_in r.accounts) p.dones ∙ sym (map-append (λ (a : Account). a.done) p.accounts r.accounts);
      right = each-append (IsAccount w workers rows) p.accounts r.accounts p.right r.right;
      places = r.places ∙ ap (λ (l : List ℕ). l ++ own_places ys) p.places ∙ sym (ap own_places all ∙ flat_map-append (λ (q : Placed). number_if (length q.before) (act_at q)) xs ys);
      stand = subst (Each (Stands w l acts)) (sym all) (each-append (Stands w l acts) xs ys (each-weaker (Stands w l before) (Stands w l acts) (stands_longer w l before acts more) xs p.stand) r.stand);
      few = subst (Each (λ (q : Placed). q.step.row ≤ top)) (sym all)
          (each-append (λ (q : Placed). q.step.row ≤ top) xs ys
          (each-weaker (λ (q : Placed). q.step.row ≤ base) (λ (q : Placed). q.step.row ≤ top) (λ q is. omega arith) xs p.few)
          (each-weaker (IsLater rows round top base (length before)) (λ (q : Placed). q.step.row ≤ top) (λ q is. is.few) ys r.are_later));
      order = subst (Pairs (IsGood (round_in rows))) (sym all)
          (pairs-append (IsGood (round_in rows)) xs ys p.order r.order
          (each-across (λ (q : Placed). Stands w l before q × (q.step.row ≤ base)) (IsLater rows round top base (length before)) (IsGood (round_in rows)) across xs ys early r.are_later));
      are_done = subst (λ l'. Each (IsDone w l top acts l') (p.accounts ++ r.accounts)) (sym all)
          (each-append (IsDone w l top acts (xs ++ ys)) p.accounts r.accounts
          (each-weaker (IsDone w l base before xs) (IsDone w l top acts (xs ++ ys))
          (done_still w l base top before acts xs ys le more (each-weaker (IsLater rows round top base (length before)) (λ (q : Placed). base < q.step.row) (λ q is. is.row) ys r.are_later)) p.accounts p.are_done)
          (each-weaker (IsNext base top before acts old_did ys) (IsDone w l top acts (xs ++ ys)) (done_now w l base top before acts old_did xs ys p.places p.stand p.few) r.accounts r.are_next));
    }

-- ---- the calls that wait for the round's end
pub rise_more : (base : ℕ) (calls : List WorkerJob) (c : WorkerJob) → RiseFrom base calls → base < c.job.row → Each (λ (d : WorkerJob). d.job.row < c.job.row) calls → RiseFrom base (calls ++ c ∷ [])
rise_more base [] c rise less all = (less, tt)
rise_more base (d ∷ calls) c rise less all = (rise.0, rise_more d.job.row calls c rise.1 all.0 all.1)

-- the calls of a round, up to a later row
pub calls_longer : (workers : ℕ) (rows : List Row) (round top later : ℕ) (calls : List WorkerJob) → top ≤ later → Each (IsCallOf workers rows round top) calls → Each (IsCallOf workers rows round later) calls
calls_longer workers rows round top later calls le are = each-weaker (IsCallOf workers rows round top) (IsCallOf workers rows round later)
    (λ c is. let few : c.job.row ≤ top = is.few in record { before = is.before; row = is.row; number = is.number; there = is.there; worker = is.worker; worker_is = is.worker_is; task = is.task; few = omega arith; in_round = is.in_round }) calls are

-- the property of a round of calls that were made
abbrev pub MakesRound : ℕ → ℕ → ℕ → List WorkerJob → List Act → List Act → List ℕ → List ℕ → List NumberedOutcome → List NumberedOutcome → Type 0
MakesRound w l workers calls before acts old_did new_did old new =
    (rows : List Row) (round top base : ℕ) → Each (IsCallOf workers rows round top) calls → RiseFrom base calls → IsRound w l workers rows round top base (rows_waiting calls) before acts old_did new_did old new

-- they are made
pub made_all : (w l workers : ℕ) (rows : List Row) (round number : ℕ) (before acts : List Act) (old_did new_did : List ℕ) (old new : List NumberedOutcome) (calls : List WorkerJob) → Waits w l workers rows round number before old_did old calls
    → IsPrefix before acts → MakesRound w l workers calls before acts old_did new_did old new → IsPlayed w l workers rows number acts new_did new × AreReported number (numbers_in new) []
made_all w l workers rows round number before acts old_did new_did old new calls waits more ran =
    let r = ran rows round number waits.base waits.are waits.rise in (
      played_more w l workers rows round waits.base number (rows_waiting calls) before acts old_did new_did old new waits.le more waits.played r,
      λ k.
          let both = ap (times k) (ap numbers_in r.dones ∙ map-append (λ (d : NumberedOutcome). d.number) old (dones_in r.accounts)) ∙ times-append k (numbers_in old) (numbers_in (dones_in r.accounts)) in
          let mine = r.once k in
          let all = waits.once k in
          omega (arith, both, mine, all),
    )

-- the same, by a pool of this many workers
pub made_last : (w l workers : ℕ) (rows : List Row) (round number : ℕ) (before acts : List Act) (old_did new_did : List ℕ) (old new : List NumberedOutcome) (pool : ℕ) (calls : List WorkerJob)
    → Waits w l workers rows round number before old_did old calls → IsPrefix before acts → pool ≡ workers → MakesRound w l pool calls before acts old_did new_did old new
    → IsPlayed w l workers rows number acts new_did new × AreReported number (numbers_in new) []
made_last w l workers rows round number before acts old_did new_did old new pool calls waits more same ran =
    made_all w l workers rows round number before acts old_did new_did old new calls waits more (subst (λ n. MakesRound w l n calls before acts old_did new_did old new) same ran)

-- none wait
pub waits_none : (w l workers : ℕ) (rows : List Row) (round base number : ℕ) (acts : List Act) (did : List ℕ) (done : List NumberedOutcome) → base ≤ number → IsPlayed w l workers rows base acts did done
    → AreReported number (numbers_in done) [] → Waits w l workers rows round number acts did done []
waits_none w l workers rows round base number acts did done le played once = record { base = base; le = le; played = played; are = tt; rise = tt; once = once }

none_told : (k : ℕ) → times k [] + times k [] ≡ once_later (0 + 1) k
none_told k = grind (arith, nat_tests)

-- before the first row
pub run_none : (store : Which) (workers : ℕ) (rows : List Row) (p : Progress) → IsFresh store p.pool → length p.pool.passes.items ≡ workers → p.pool.first.did ≡ [] → p.done.items ≡ [] → p.calls.items ≡ []
    → HasRun store workers rows 0 p
run_none store workers rows p ready many did done none =
    let acts = p.pool.first.acts in
    record {
      ready = ready;
      many = many;
      waits = subst (λ (u : List ℕ × (List NumberedOutcome × List WorkerJob)). Waits store.width store.limit workers rows p.round 0 acts u.0 u.1.0 u.1.1) (λ i. (sym did i, (sym done i, sym none i)))
          (waits_none store.width store.limit workers rows p.round 0 0 acts [] [] (omega arith) (played_none store.width store.limit workers rows acts) none_told);
    }

-- one more waits
pub waits_more : (w l workers : ℕ) (rows : List Row) (round number : ℕ) (acts : List Act) (did : List ℕ) (done : List NumberedOutcome) (calls : List WorkerJob) (c : WorkerJob) → Waits w l workers rows round number acts did done calls
    → IsCallOf workers rows round (number + 1) c → c.job.row ≡ number + 1 → Waits w l workers rows round (number + 1) acts did done (calls ++ c ∷ [])
waits_more w l workers rows round number acts did done calls c waits is at =
    let le : waits.base ≤ number = waits.le in
    record {
      base = waits.base;
      le = omega arith;
      played = waits.played;
      are = each-append (IsCallOf workers rows round (number + 1)) calls (c ∷ []) (calls_longer workers rows round number (number + 1) calls (omega arith) waits.are) (is, tt);
      rise = rise_more waits.base calls c waits.rise (omega arith) (each-weaker (IsCallOf workers rows round number) (λ (d : WorkerJob). d.job.row < c.job.row) (λ d d_is. let few : d.job.row ≤ number = d_is.few in omega arith) calls waits.are);
      once = λ k.
          let one = ap (times k) (map-append (λ (d : WorkerJob). d.job.row) calls (c ∷ [])) ∙ times-append k (rows_waiting calls) (c.job.row ∷ []) ∙ ap (λ n. times k (rows_waiting calls) + n) (times-one k c.job.row) in
          let here : cond {A = ℕ} (c.job.row == k) 1 0 ≡ cond (number + 1 == k) 1 0 = ap (λ n. cond {A = ℕ} (n == k) 1 0) at in
          let more = once_later-suc (number + 1) k (omega arith) in
          let all = waits.once k in
          omega (arith, one, here, more, all);
    }

-- the row that is next, and its worker
pub has_worker : (workers : ℕ) (rows done rest : List Row) (row : Row) → rows ≡ done ++ row ∷ rest → All (HasWorker workers) rows → HasWorker workers row
has_worker workers rows done rest row all have = at done (subst (All (HasWorker workers)) all have)
  where
    at : (done : List Row) → All (HasWorker workers) (done ++ row ∷ rest) → HasWorker workers row
    at [] h = All-head (HasWorker workers) row rest h
    at (x ∷ done) h = at done (All-tail (HasWorker workers) x (done ++ row ∷ rest) h)

pub row_there : (done rest : List Row) (row : Row) (rows : List Row) → rows ≡ done ++ row ∷ rest → slice_get rows (length done) ≡ Some row
row_there done rest row rows all = ap (λ (l : List Row). slice_get l (length done)) all ∙ at done
  where
    at : (done : List Row) → slice_get (done ++ row ∷ rest) (length done) ≡ Some row
    at [] = refl
    at (x ∷ done) = at done

pub round_there : (done rest : List Row) (row : Row) (rows : List Row) (number : ℕ) → rows ≡ done ++ row ∷ rest → number ≡ length done + 1 → round_in rows number ≡ row.round
round_there done rest row rows number all is =
    (λ i. round_in (all i) (is i)) ∙ (let e : length done + 1 - 1 ≡ length done = omega arith in ap (λ k. slice_index_or (map (λ (r : Row). r.round) (done ++ row ∷ rest)) k 0) e) ∙ at done
  where
    at : (done : List Row) → slice_index_or (map (λ (r : Row). r.round) (done ++ row ∷ rest)) (length done) 0 ≡ row.round
    at [] = refl
    at (x ∷ done) = at done

-- where a row stands
pub row_within : (rows : List Row) (before number : ℕ) (row : Row) → IsRowAt rows before number row → (before ≤ length rows) × (1 ≤ number) × (number ≤ length rows)
row_within rows before number row at =
    let long : length rows ≡ length at.done + length (row ∷ at.rest) = ap length at.all ∙ length-append at.done (row ∷ at.rest) in
    let before_is = at.before_is in
    let number_is = at.number_is in
    (omega arith, omega arith, omega arith)

-- the calls of the round before have run
pub ready_made : (store : Which) (workers before : ℕ) (rows : List Row) (row : Row) (p q : Progress) → HasRun store workers rows before p → IsFresh store q.pool → length q.pool.passes.items ≡ length p.pool.passes.items
    → IsPrefix p.pool.first.acts q.pool.first.acts
    → MakesRound store.width store.limit (length p.pool.passes.items) p.calls.items p.pool.first.acts q.pool.first.acts p.pool.first.did q.pool.first.did p.done.items q.done.items
    → q.calls.items ≡ [] → q.round ≡ row.round → IsReadyFor store workers rows before row q
ready_made store workers before rows row p q run ready many more ran none round =
    let first = q.pool.first in
    let made = made_last store.width store.limit workers rows p.round before p.pool.first.acts first.acts p.pool.first.did first.did p.done.items q.done.items (length p.pool.passes.items) p.calls.items run.waits more run.many ran in
    record {
      run = record {
        ready = ready;
        many = many ∙ run.many;
        waits = subst (Waits store.width store.limit workers rows q.round before first.acts first.did q.done.items) (sym none)
            (waits_none store.width store.limit workers rows q.round before before first.acts first.did q.done.items (omega arith) made.0 made.1);
      };
      round = round;
      mends = λ task. none;
    }

-- a call's row
pub makes_call : (store : Which) (workers before number : ℕ) (rows : List Row) (row : Row) (ask : Ask) (p q : Progress) → IsReadyFor store workers rows before row p → IsRowAt rows before number row → All (HasWorker workers) rows
    → row.task ≡ Make ask → q.pool ≡ p.pool → q.done.items ≡ p.done.items → q.round ≡ p.round
    → q.calls.items ≡ p.calls.items ++ record { worker = row.worker; job = record { row = number; ask = ask } } ∷ [] → HasRun store workers rows number q
makes_call store workers before number rows row ask p q f at all_have task pool done round is =
    let c : WorkerJob = record { worker = row.worker; job = record { row = number; ask = ask } } in
    let before_is = at.before_is in
    let number_is = at.number_is in
    let here : round_in rows number ≡ row.round = round_there at.done at.rest row rows number at.all (omega arith) in
    let by_one = subst (IsWorkerOf workers row.worker) task (has_worker workers rows at.done at.rest row at.all all_have) in
    let call : IsCallOf workers rows p.round (before + 1) c =
    record { before = length at.done; row = row; number = omega arith; there = row_there at.done at.rest row rows at.all; worker = refl; worker_is = by_one; task = task; few = omega arith; in_round = here ∙ sym f.round } in
    let more = waits_more store.width store.limit workers rows p.round before p.pool.first.acts p.pool.first.did p.done.items p.calls.items c f.run.waits call number_is in
    record {
      ready = subst (IsFresh store) (sym pool) f.run.ready;
      many = ap (λ (o : Pool). length o.passes.items) pool ∙ f.run.many;
      waits = subst (λ (u : (ℕ × ℕ) × (Pool × (List NumberedOutcome × List WorkerJob))). Waits store.width store.limit workers rows u.0.0 u.0.1 u.1.0.first.acts u.1.0.first.did u.1.1.0 u.1.1.1)
          (λ i. ((sym round i, sym number_is i), (sym pool i, (sym done i, sym is i)))) more;
    }

-- the property of a mend
abbrev pub MakesMend : ℕ → ℕ → ℕ → ℕ → List Act → List Act → List ℕ → List ℕ → List NumberedOutcome → List NumberedOutcome → Type 0
MakesMend w l workers number before acts old_did new_did old new =
    (rows : List Row) (round top base : ℕ) → IsMendOf rows round top base number → IsRound w l workers rows round top base (number ∷ []) before acts old_did new_did old new

-- a mend's row
pub makes_mend : (store : Which) (workers before number : ℕ) (rows : List Row) (row : Row) (p q : Progress) → IsReadyFor store workers rows before row p → IsRowAt rows before number row → row.task ≡ Mend
    → IsFresh store q.pool → length q.pool.passes.items ≡ length p.pool.passes.items → IsPrefix p.pool.first.acts q.pool.first.acts
    → MakesMend store.width store.limit (length p.pool.passes.items) number p.pool.first.acts q.pool.first.acts p.pool.first.did q.pool.first.did p.done.items q.done.items
    → q.calls.items ≡ p.calls.items → HasRun store workers rows number q
makes_mend store workers before number rows row p q f at task ready many more ran same =
    let w = f.run.waits in
    let old = p.pool.first in
    let new = q.pool.first in
    let before_is = at.before_is in
    let number_is = at.number_is in
    let none : p.calls.items ≡ [] = f.mends task in
    let le : w.base ≤ before = w.le in
    let here : round_in rows number ≡ row.round = round_there at.done at.rest row rows number at.all (omega arith) in
    let mend : IsMendOf rows row.round number w.base number =
    record { before = length at.done; row = row; number_is = omega arith; there = row_there at.done at.rest row rows at.all; task = task; past = omega arith; few = omega arith; in_round = here } in
    let r = subst (λ n. IsRound store.width store.limit n rows row.round number w.base (number ∷ []) old.acts new.acts old.did new.did p.done.items q.done.items) f.run.many (ran rows row.round number w.base mend) in
    let played = played_more store.width store.limit workers rows row.round w.base number (number ∷ []) old.acts new.acts old.did new.did p.done.items q.done.items (omega arith) more w.played r in
    let once : AreReported number (numbers_in q.done.items) [] = λ k.
    let both = ap (times k) (ap numbers_in r.dones ∙ map-append (λ (d : NumberedOutcome). d.number) p.done.items (dones_in r.accounts)) ∙ times-append k (numbers_in p.done.items) (numbers_in (dones_in r.accounts)) in
    let mine = r.once k ∙ times-one k number in
    let before_once = w.once k in
    let no_calls : times k (rows_waiting p.calls.items) ≡ 0 = ap (λ (l : List WorkerJob). times k (rows_waiting l)) none in
    let last = once_later-suc number k (omega arith) in
    let same_number : once_later number k ≡ once_later (before + 1) k = ap (λ n. once_later n k) number_is in
    omega (arith, both, mine, before_once, no_calls, last, same_number) in
    record {
      ready = ready;
      many = many ∙ f.run.many;
      waits = subst (Waits store.width store.limit workers rows q.round number new.acts new.did q.done.items) (sym (same ∙ none))
          (waits_none store.width store.limit workers rows q.round number number new.acts new.did q.done.items (omega arith) played once);
    }
