-- A run that was paused was held back at one of its rows.
use Rattle.std.proofs.Common.{◌≡◌, inl, inr, ◌∙◌, ◌≤◌, ◌||◌, ℕ, ◌+◌, Bool, true, false, List, [], ◌∷◌, ◌++◌, None, Some, Ok, Err, Vec, Global, not, refl, sym, ap, subst, arith, true≢false}
use Rattle.std.specs.Prelude.{◌==◌, if◌then◌else◌, Result, IfErr}
use Rattle.std.specs.Result.{IsErrAnd}
use Rattle.std.specs.List.{filter, list_any}
use Rattle.requests.specs.declared.jobs.Cause.{Cause}
use Rattle.requests.specs.declared.jobs.Cause.TheVariants as cause
use Rattle.requests.specs.declared.jobs.Job.{Job}
use Rattle.requests.specs.declared.jobs.RowReply.{RowReply}
use Rattle.requests.specs.declared.jobs.Stopped.{Stopped}
use Rattle.shared.specs.Passes.{Shows}
use Rattle.shared.specs.Paced.{IsCause}
use Rattle.rounds.specs.declared.halt.Halt.{Halt}
use Rattle.rounds.specs.declared.halt.Halt.TheVariants as halt
use Rattle.rounds.specs.declared.kinds.Mended.TheVariants.{Worked, Paused}
use Rattle.rounds.specs.declared.kinds.Calls.{Calls}
use Rattle.rounds.specs.declared.kinds.Mended.{Mended}
use Rattle.rounds.specs.declared.kinds.Mending.{Mending}
use Rattle.rounds.specs.declared.work.Ran.{Ran}
use Rattle.rounds.specs.declared.work.Work.{Work}
use Rattle.rounds.specs.Halts.{HasRound, HasCallRound, HasMendRound, called_lacks, called_paused, mend_lacks, mend_paused}
use Rattle.rounds.specs.Errands.{is_no_memory, calls_are_paused, mend_is_paused, DidCalls, DidMend, ArePacedJobs, ArePacedCalls, IsPacedPart, IsPacedMend}
use Rattle.rounds.specs.Pools.{outcomes_of, passes_of}
use Rattle.rounds.specs.Rounds.{ArePaced, Effect}
use Rattle.gate.specs.Places.{TableId}
use Rattle.book.specs.declared.plan.Item.{Item}
use Rattle.script.specs.declared.rows.Row.{Row}
use Rattle.play.specs.declared.calls.WorkerJob.{WorkerJob}
use Rattle.play.specs.Accounts.{IsCallOf}
use Rattle.play.specs.Jobs.{jobs_for, HaveJobs}
use Rattle.play.specs.Lists.{Each}
use Rattle.play.specs.Mends.{AreMenders, AreForRow}
use Rattle.play.specs.Paced.{HoldsBack}
use Rattle.play.proofs.Buckets.{each-filter}
use Rattle.play.proofs.Ordered.{each-map}

-- one of this many rows
abbrev pub IsWithin : ℕ → ℕ → Type 0
IsWithin rows row = (1 ≤ row) × (row ≤ rows)

-- a task asks the pace only about such rows
abbrev AskWithin : {E : Type 0} → (E → Type 0) → List (Work E) → Type 0
AskWithin AsksWithin works = Each (λ (w : Work _). AsksWithin w.errand) works

abbrev CallsWithin : ℕ → Calls → Type 0
CallsWithin rows calls = Each (λ (job : Job). IsWithin rows job.row) calls.0.items

abbrev MendWithin : ℕ → Mending → Type 0
MendWithin rows m = IsWithin rows m.row

-- ---- an errand
in_middle : {X : Type 0} (P : X → Type 0) (before : List X) (x : X) (after : List X) → Each P (before ++ x ∷ after) → P x
in_middle P [] x after all = all.0
in_middle P (y ∷ before) x after all = in_middle P before x after all.1

cause_holds : (may_answer : ℕ → Bool → Type 0) (job : Job) (why : Cause) → IsCause may_answer job why → not (is_no_memory why) ≡ true → may_answer job.row false
cause_holds may_answer job cause.Paused is e = is
cause_holds may_answer job cause.NoMemory is e = absurd (true≢false (sym e))

jobs_held : (may_answer : ℕ → Bool → Type 0) (rows : ℕ) (v : Shows) (jobs : List Job) (r : Result (Vec RowReply Global) Stopped) (w : Shows) → Each (λ (job : Job). IsWithin rows job.row) jobs → ArePacedJobs may_answer v jobs r w
    → calls_are_paused r ≡ true → HoldsBack may_answer rows
jobs_held may_answer rows v jobs (Ok replies) w within paced e = absurd (true≢false (sym e))
jobs_held may_answer rows v jobs (Err stopped) w within (inl none) e = absurd (true≢false (sym e ∙ ap (λ c. not (is_no_memory c)) none.memory))
jobs_held may_answer rows v jobs (Err stopped) w within (inr at) e =
    let here = in_middle (λ (job : Job). IsWithin rows job.row) at.before at.job at.after (subst (λ js. Each (λ (job : Job). IsWithin rows job.row) js) at.jobs_are within) in
    (at.job.row, here.0, here.1, cause_holds may_answer at.job stopped.cause at.cause e)

part_held : (may_answer : ℕ → Bool → Type 0) (rows : ℕ) (m : Mending) (mended : Mended) → IsWithin rows m.row → IsPacedPart may_answer m mended → mend_is_paused mended ≡ true → HoldsBack may_answer rows
part_held may_answer rows m (Worked r) within paced e = absurd (true≢false (sym e))
part_held may_answer rows m Paused within paced e = (m.row, within.0, within.1, paced)

-- ---- a round
one_of : (A : Type 0) (a b : Bool) → (a ≡ true → A) → (b ≡ true → A) → (a || b) ≡ true → A
one_of A true b here later e = here refl
one_of A false b here later e = later e

-- an errand that was paused was held back at one of its rows
abbrev Held : {E O : Type 0} → (E → Type 0) → ((ℕ → Bool → Type 0) → Effect E O) → (O → Bool) → (ℕ → Bool → Type 0) → ℕ → Type 0
Held {E} {O} AsksWithin paced is_paused may_answer rows = (v : Shows) (e : E) (o : O) (w : Shows) → AsksWithin e → paced may_answer v e o w → is_paused o ≡ true → HoldsBack may_answer rows

works_held : {E O : Type 0} (AsksWithin : E → Type 0) (paced : (ℕ → Bool → Type 0) → Effect E O) (is_paused : O → Bool) (may_answer : ℕ → Bool → Type 0) (rows : ℕ) → Held AsksWithin paced is_paused may_answer rows
    → (works : List (Work E)) (rans : List (Ran O)) → AskWithin AsksWithin works → ArePaced paced may_answer works rans → list_any is_paused (outcomes_of rans) ≡ true → HoldsBack may_answer rows
works_held A paced is_paused may_answer rows held [] [] within all e = absurd (true≢false (sym e))
works_held A paced is_paused may_answer rows held [] (r ∷ rs) within all e = absurd all
works_held A paced is_paused may_answer rows held (w ∷ ws) [] within all e = absurd all
works_held A paced is_paused may_answer rows held (w ∷ ws) (r ∷ rs) within all e =
    one_of (HoldsBack may_answer rows) (is_paused r.outcome) (list_any is_paused (outcomes_of rs)) (held w.pass w.errand r.outcome r.pass within.0 all.0) (works_held A paced is_paused may_answer rows held ws rs within.1 all.1) e

paused_of : (a b : Bool) → (if a then Some halt.Memory else if b then Some halt.Paused else None) ≡ Some halt.Paused → b ≡ true
paused_of true b e = absurd (cc (e))
paused_of false true e = refl
paused_of false false e = absurd (cc (e))

pub round_held : {E O : Type 0} (AsksWithin : E → Type 0) (did : Effect E O) (paced : (ℕ → Bool → Type 0) → Effect E O) (lacks_memory is_paused : O → Bool) (AreWorks : List (Work E) → Type 0) (may_answer : ℕ → Bool → Type 0) (rows : ℕ)
    → Held AsksWithin paced is_paused may_answer rows → ((works : List (Work E)) → AreWorks works → AskWithin AsksWithin works) → HasRound did paced lacks_memory is_paused AreWorks may_answer (Some halt.Paused) → HoldsBack may_answer rows
round_held A did paced lacks_memory is_paused AreWorks may_answer rows held within round =
    works_held A paced is_paused may_answer rows held round.works round.rans (within round.works round.are) round.are_paced (paused_of _ (list_any is_paused (outcomes_of round.rans)) round.ends)

-- ---- of calls, and of a mend
jobs_within : (rows who : ℕ) (calls : List WorkerJob) (jobs : List Job) → Each (λ (c : WorkerJob). IsWithin rows c.job.row) calls → jobs ≡ jobs_for who calls → Each (λ (job : Job). IsWithin rows job.row) jobs
jobs_within rows who calls jobs all has =
    subst (λ js. Each (λ (job : Job). IsWithin rows job.row) js) (sym has) (each-map (λ (c : WorkerJob). c.job) (λ (job : Job). IsWithin rows job.row) (filter (λ (c : WorkerJob). c.worker == who) calls) (each-filter (λ (c : WorkerJob). IsWithin rows c.job.row) (λ (c : WorkerJob). c.worker == who) calls all))

pub calls_within : (rows who : ℕ) (calls : List WorkerJob) (works : List (Work Calls)) → Each (λ (c : WorkerJob). IsWithin rows c.job.row) calls → HaveJobs who calls works → AskWithin (CallsWithin rows) works
calls_within rows who calls [] all have = tt
calls_within rows who calls (w ∷ ws) all have = (jobs_within rows who calls w.errand.0.items all have.0, calls_within rows (who + 1) calls ws all have.1)

pub row_within : (rows row : ℕ) (works : List (Work Mending)) → IsWithin rows row → AreForRow row works → AskWithin (MendWithin rows) works
row_within rows row [] within are = tt
row_within rows row (w ∷ ws) within are = (subst (IsWithin rows) (sym are.0) within, row_within rows row ws within are.1)

-- the calls of the rows up to one that the script has
pub calls_of_rows : (workers round top many : ℕ) (rows : List Row) (calls : List WorkerJob) → top ≤ many → Each (IsCallOf workers rows round top) calls → Each (λ (c : WorkerJob). IsWithin many c.job.row) calls
calls_of_rows workers round top many rows [] le are = tt
calls_of_rows workers round top many rows (c ∷ calls) le are =
    let number = are.0.number in
    let few : c.job.row ≤ top = are.0.few in
    ((omega (arith, number), omega (arith, few, le)), calls_of_rows workers round top many rows calls le are.1)

pub calls_held : (may_answer : ℕ → Bool → Type 0) (passes : List Shows) (workers round top many : ℕ) (rows : List Row) (calls ready : List WorkerJob) → top ≤ many → Each (IsCallOf workers rows round top) calls → ready ≡ calls
    → HasCallRound (λ works. (passes_of works ≡ passes) × HaveJobs 1 ready works) may_answer (Some halt.Paused) → HoldsBack may_answer many
calls_held may_answer passes workers round top many rows calls ready le are same round_is =
    round_held (CallsWithin many) DidCalls ArePacedCalls called_lacks called_paused (λ works. (passes_of works ≡ passes) × HaveJobs 1 ready works) may_answer many
    (λ v e o w within paced paused. jobs_held may_answer many v e.0.items o.0 w within paced paused)
    (λ works is. calls_within many 1 ready works (subst (λ cs. Each (λ (c : WorkerJob). IsWithin many c.job.row) cs) (sym same) (calls_of_rows workers round top many rows calls le are)) is.1) round_is

pub mend_held : (may_answer : ℕ → Bool → Type 0) (row many : ℕ) → 1 ≤ row → row ≤ many
    → HasMendRound (λ works. (plan : List Item) × (tickets : TableId) × AreMenders plan tickets works × AreForRow row works) may_answer (Some halt.Paused) → HoldsBack may_answer many
mend_held may_answer row many least most round_is =
    round_held (MendWithin many) DidMend IsPacedMend mend_lacks mend_paused (λ works. (plan : List Item) × (tickets : TableId) × AreMenders plan tickets works × AreForRow row works) may_answer many
    (λ v e o w within paced paused. part_held may_answer many e o.mended within paced paused) (λ works is. row_within many row works (least, most) is.3) round_is

-- what an error that is passed on promises
pub passed_on : {A : Type 0} (r : Result A Halt) (why : Halt) (P : Halt → Type 0) → IsErrAnd r (λ e. e ≡ why) → P why → IfErr r P
passed_on (Ok a) why P is holds = tt
passed_on (Err e) why P is holds = subst P (sym is) holds
