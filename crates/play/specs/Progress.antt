-- How far the rows of a script have run.
use Rattle.std.specs.Prelude.{◌≡◌, ℕ, ◌+◌, ◌≤◌, List, [], ◌∷◌, ◌++◌, map, length}
use Rattle.gate.specs.Places.{times, once_later}
use Rattle.book.specs.Serial.{Act}
use Rattle.script.specs.declared.rows.Row.{Row}
use Rattle.script.specs.declared.rows.Task.TheVariants.{Mend}
use Rattle.shared.specs.Passes.{Which}
use Rattle.rounds.specs.Pools.{IsFresh}
use Rattle.play.specs.Lists.{Each}
use Rattle.play.specs.Accounts.{IsCallOf, IsPlayed, RiseFrom, numbers_in}
use Rattle.play.specs.declared.calls.WorkerJob.{WorkerJob}
use Rattle.play.specs.declared.rows.Progress.{Progress}
use Rattle.transcript.specs.declared.outcome.NumberedOutcome.{NumberedOutcome}

-- each row up to this one has one outcome, or waits
abbrev pub AreReported : ℕ → List ℕ → List ℕ → Type 0
AreReported top reported waiting = (k : ℕ) → times k reported + times k waiting ≡ once_later (top + 1) k

abbrev pub rows_waiting : List WorkerJob → List ℕ
rows_waiting calls = map (λ (c : WorkerJob). c.job.row) calls

-- the rows up to some row have run, and the calls of the rows behind it, up to this one, wait
pub record Waits (w l workers : ℕ) (rows : List Row) (round number : ℕ) (acts : List Act) (did : List ℕ) (done : List NumberedOutcome) (calls : List WorkerJob) : Type 0 where
  pub base : ℕ
  pub le : base ≤ number
  pub played : IsPlayed w l workers rows base acts did done
  pub are : Each (IsCallOf workers rows round number) calls
  pub rise : RiseFrom base calls
  pub once : AreReported number (numbers_in done) (rows_waiting calls)

-- the first rows have run, up to this one, except the calls of the last round, which wait. The pool
-- has this many workers
pub record HasRun (store : Which) (workers : ℕ) (rows : List Row) (number : ℕ) (p : Progress) : Type 0 where
  pub ready : IsFresh store p.pool
  pub many : length p.pool.passes.items ≡ workers
  pub waits : Waits store.width store.limit workers rows p.round number p.pool.first.acts p.pool.first.did p.done.items p.calls.items

-- the row with this number, behind this many others
pub record IsRowAt (rows : List Row) (before number : ℕ) (row : Row) : Type 0 where
  pub done : List Row
  pub rest : List Row
  pub all : rows ≡ done ++ row ∷ rest
  pub before_is : before ≡ length done
  pub number_is : number ≡ before + 1

-- the rows before this one have run, except calls of its round. For a mend no call waits
pub record IsReadyFor (store : Which) (workers : ℕ) (rows : List Row) (before : ℕ) (row : Row) (p : Progress) : Type 0 where
  pub run : HasRun store workers rows before p
  pub round : p.round ≡ row.round
  pub mends : row.task ≡ Mend → p.calls.items ≡ []
