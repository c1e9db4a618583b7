-- The outcome of each row, with the steps that it took.
use Rattle.std.specs.Prelude.{◌≡◌, ◌⊎◌, ℕ, ◌+◌, ◌<◌, ◌≤◌, nat_lt, List, [], ◌∷◌, ◌++◌, map, length, Option, Some, slice_get}
use Rattle.std.specs.List.{filter, flat_map}
use mathlib.Core.List.{IsPrefix}
use Rattle.gate.specs.Events.{number_if}
use Rattle.gate.specs.Places.{times}
use Rattle.book.specs.Plan.{plan_of}
use Rattle.book.specs.Serial.{Does, Act, act_of, standing_of}
use Rattle.script.specs.declared.rows.Row.{Row}
use Rattle.script.specs.declared.rows.Task.{Task}
use Rattle.script.specs.declared.rows.Task.TheVariants.{Make, Mend}
use Rattle.play.specs.Steps.{Step, Found}
use Rattle.play.specs.Lists.{Each, Pairs}
use Rattle.play.specs.Runs.{IsAsked, MayPrecede, IsMend, round_in}
use Rattle.transcript.specs.Lines.{IsLineFor, line_text}
use Rattle.play.specs.Printed.{deed_text, mend_text}
use Rattle.play.specs.declared.calls.WorkerJob.{WorkerJob}
use Rattle.transcript.specs.declared.outcome.NumberedOutcome.{NumberedOutcome}
use Rattle.transcript.specs.declared.outcome.RowOutcome.{RowOutcome}
use Rattle.transcript.specs.declared.line.Line.{Line}

-- a step, with the acts done before it
pub record Placed : Type 0 where
  pub before : List Act
  pub step : Step

-- the step as an act, if it is one
abbrev pub act_at : Placed → List Act
act_at p = act_of p.step.who p.step.deed

-- the step is legal after the first of these acts, and is the next of them if it is an act
pub record Stands (w limit : ℕ) (acts : List Act) (p : Placed) : Type 0 where
  pub does : Does w limit (standing_of p.before) p.step.deed
  pub stands : IsPrefix (p.before ++ act_at p) acts

-- the places of those that are acts
abbrev pub own_places : List Placed → List ℕ
own_places steps = flat_map (λ p. number_if (length p.before) (act_at p)) steps

-- the account of a row: its outcome, its steps, and for a mend the acts that were done before it
pub record Account : Type 0 where
  pub done : NumberedOutcome
  pub steps : List Placed
  pub found : Option (List Act)

abbrev pub dones_in : List Account → List NumberedOutcome
dones_in accounts = map (λ a. a.done) accounts

abbrev pub steps_in : List Account → List Placed
steps_in accounts = flat_map (λ a. a.steps) accounts

-- the outcome is the text of the step
abbrev pub IsTextOf : ℕ → Placed → RowOutcome → Type 0
IsTextOf w p outcome = (line : Line) → IsLineFor outcome line → line_text line ≡ deed_text w (standing_of p.before) p.step.deed

-- the step, with the standing that it finds
abbrev pub found_of : Placed → Found
found_of p = (standing_of p.before, p.step)

-- if both are of one worker, the one is done before the other begins
abbrev pub IsInTurn : Placed → Placed → Type 0
IsInTurn x y =
    x.step.who ≡ y.step.who → length x.before + length (act_at x) ≤ length y.before

-- the outcome is the text of a mend's steps
abbrev pub IsMendTextOf : List Found → RowOutcome → Type 0
IsMendTextOf steps outcome = (line : Line) → IsLineFor outcome line → line_text line ≡ mend_text steps

-- the row's steps are what it asks for, and the outcome is their text. A mend's plan is that of the
-- standing after the acts that it found, and each worker's steps stand in the order of their places
abbrev pub Settles : ℕ → ℕ → Row → Task → Account → Type 0
Settles w workers row (Make ask) a = (p : Placed) × (a.steps ≡ p ∷ []) × (p.step.who ≡ row.worker) × IsAsked ask p.step.deed × IsTextOf w p a.done.outcome
Settles w workers row Mend a =
    (acts : List Act) × (a.found ≡ Some acts)
    × IsMend workers (plan_of (standing_of acts).state) (map found_of a.steps)
    × Pairs IsInTurn a.steps × IsMendTextOf (map found_of a.steps) a.done.outcome

-- the account of a row of the script
pub record IsAccount (w workers : ℕ) (rows : List Row) (a : Account) : Type 0 where
  pub before : ℕ
  pub row : Row
  pub number : a.done.number ≡ before + 1
  pub there : slice_get rows before ≡ Some row
  pub settles : Settles w workers row row.task a
  pub of_row : Each (λ (p : Placed). p.step.row ≡ a.done.number) a.steps

-- the row numbers of the outcomes
abbrev pub numbers_in : List NumberedOutcome → List ℕ
numbers_in done = map (λ d. d.number) done

-- the steps of the rows before the one with this number
abbrev pub earlier : ℕ → List Placed → List Placed
earlier number steps = filter (λ p. nat_lt p.step.row number) steps

-- the steps are all that was done, and each act is one of them
pub record HasDone (w limit : ℕ) (acts : List Act) (steps : List Placed) : Type 0 where
  pub stand : Each (Stands w limit acts) steps
  pub all : (k : ℕ) → k < length acts → times k (own_places steps) ≡ 1

-- ---- a round
-- the call is that of a row of the script, by one of this many workers, of this round, and no later
-- than `top`
pub record IsCallOf (workers : ℕ) (rows : List Row) (round top : ℕ) (call : WorkerJob) : Type 0 where
  pub before : ℕ
  pub row : Row
  pub number : call.job.row ≡ before + 1
  pub there : slice_get rows before ≡ Some row
  pub worker : row.worker ≡ call.worker
  pub worker_is : (1 ≤ call.worker) × (call.worker ≤ workers)
  pub task : row.task ≡ Make call.job.ask
  pub few : call.job.row ≤ top
  pub in_round : round_in rows call.job.row ≡ round

-- the calls' numbers rise, and all are above this one
abbrev pub RiseFrom : ℕ → List WorkerJob → Type 0
RiseFrom base [] = Unit {0}
RiseFrom base (c ∷ calls) = (base < c.job.row) × RiseFrom c.job.row calls

-- one is done before the other begins, and its row is no later
abbrev pub IsBefore : Placed → Placed → Type 0
IsBefore x y = (x.step.row ≤ y.step.row) × (length x.before + length (act_at x) ≤ length y.before)

-- a step of this worker and round, whose row and place are past these, and whose row is no later than `top`
pub record IsOfWorker (rows : List Row) (round top who base low : ℕ) (p : Placed) : Type 0 where
  pub label : p.step.who ≡ who
  pub row : base < p.step.row
  pub few : p.step.row ≤ top
  pub place : low ≤ length p.before
  pub in_round : round_in rows p.step.row ≡ round

-- the row with this number, past the row `base`, asks for a mend, in this round
pub record IsMendOf (rows : List Row) (round top base number : ℕ) : Type 0 where
  pub before : ℕ
  pub row : Row
  pub number_is : number ≡ before + 1
  pub there : slice_get rows before ≡ Some row
  pub task : row.task ≡ Mend
  pub past : base < number
  pub few : number ≤ top
  pub in_round : round_in rows number ≡ round

-- if the other is not done before the one begins, the one may precede it; and the same the other
-- way round
abbrev pub IsGood : (ℕ → ℕ) → Placed → Placed → Type 0
IsGood round_of x y = MayPrecede round_of x.step y.step × (MayPrecede round_of y.step x.step ⊎ (length x.before + length (act_at x) ≤ length y.before))

-- a step of this round, whose row and place are past these, and whose row is no later than `top`
pub record IsLater (rows : List Row) (round top base low : ℕ) (p : Placed) : Type 0 where
  pub row : base < p.step.row
  pub few : p.step.row ≤ top
  pub place : low ≤ length p.before
  pub in_round : round_in rows p.step.row ≡ round

-- what a mend finds in a round: all acts done before it, at these places and no others, and no step
-- of the round is of an earlier row
pub record FindsAll (before acts found : List Act) (did : List ℕ) (number : ℕ) (steps : List Placed) : Type 0 where
  pub after : IsPrefix before found
  pub within : IsPrefix found acts
  pub all : (k : ℕ) → k < length found → times k did ≡ 1
  pub first : Each (λ (p : Placed). number ≤ p.step.row) steps

-- a row past `base` and no later than `top`
pub record IsNext (base top : ℕ) (before acts : List Act) (did : List ℕ) (steps : List Placed) (a : Account) : Type 0 where
  pub past : base < a.done.number
  pub few : a.done.number ≤ top
  pub finds : (found : List Act) → a.found ≡ Some found → FindsAll before acts found did a.done.number steps

-- the effect of a round on the rows with these numbers, between these acts and places: their
-- outcomes are appended to the earlier ones
pub record IsRound (w limit workers : ℕ) (rows : List Row) (round top base : ℕ) (numbers : List ℕ) (before acts : List Act) (old_did new_did : List ℕ) (old new : List NumberedOutcome) : Type 0 where
  pub accounts : List Account
  pub dones : new ≡ old ++ dones_in accounts
  pub right : Each (IsAccount w workers rows) accounts
  pub places : new_did ≡ old_did ++ own_places (steps_in accounts)
  pub stand : Each (Stands w limit acts) (steps_in accounts)
  pub are_later : Each (IsLater rows round top base (length before)) (steps_in accounts)
  pub order : Pairs (IsGood (round_in rows)) (steps_in accounts)
  pub are_next : Each (IsNext base top before acts old_did (steps_in accounts)) accounts
  pub once : (k : ℕ) → times k (numbers_in (dones_in accounts)) ≡ times k numbers

-- ---- the whole
-- a row no later than `top`. If it is a mend's, it finds what the rows before it did
pub record IsDone (w limit top : ℕ) (acts : List Act) (steps : List Placed) (a : Account) : Type 0 where
  pub few : a.done.number ≤ top
  pub finds : (found : List Act) → a.found ≡ Some found → IsPrefix found acts × HasDone w limit found (earlier a.done.number steps)

-- The effect of the first rows, up to this one, as far as there are outcomes. Each account is that
-- of a row, and the steps of all accounts are the acts of the pool
pub record IsPlayed (w limit workers : ℕ) (rows : List Row) (top : ℕ) (acts : List Act) (did : List ℕ) (done : List NumberedOutcome) : Type 0 where
  pub accounts : List Account
  pub dones : done ≡ dones_in accounts
  pub right : Each (IsAccount w workers rows) accounts
  pub places : did ≡ own_places (steps_in accounts)
  pub stand : Each (Stands w limit acts) (steps_in accounts)
  pub few : Each (λ (p : Placed). p.step.row ≤ top) (steps_in accounts)
  pub order : Pairs (IsGood (round_in rows)) (steps_in accounts)
  pub are_done : Each (IsDone w limit top acts (steps_in accounts)) accounts
