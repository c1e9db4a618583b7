-- The parts of a mend's workers.
use Rattle.std.specs.Prelude.{◌≡◌, ℕ, ◌+◌, Bool, true, false, List, [], ◌∷◌, length, map, Ok, Err}
use Rattle.std.specs.List.{flat_map, list_any, sum_by}
use Rattle.gate.specs.Places.{TableId}
use Rattle.sealed.specs.declared.fault.Fault.TheVariants.{JournalFull}
use Rattle.book.specs.declared.plan.Item.{Item}
use Rattle.mender.specs.declared.done.Done.{Done}
use Rattle.mender.specs.Drawn.{DrawerState, AreFirst}
use Rattle.mender.specs.Gathered.{IsComplete, report_of}
use Rattle.mender.specs.Mended.{EndedWorker, HasFinished, results_of}
use Rattle.rounds.specs.declared.kinds.Mended.{Mended}
use Rattle.rounds.specs.declared.kinds.Mended.TheVariants.{Worked, Paused}
use Rattle.rounds.specs.declared.kinds.Mending.{Mending}
use Rattle.rounds.specs.declared.kinds.Returned.{Returned}
use Rattle.rounds.specs.declared.work.Work.{Work}
use Rattle.transcript.specs.declared.outcome.RowOutcome.{RowOutcome}
use Rattle.transcript.specs.declared.outcome.RowOutcome.TheVariants as row

-- ---- before the round
-- a part in mending this plan, with a drawer of these tickets that has drawn none
pub record IsMendingPart (plan : List Item) (tickets : TableId) (m : Mending) : Type 0 where
  pub drawer_of : m.drawer.tickets ≡ tickets
  pub tickets_are : m.tickets.value ≡ tickets
  pub none : m.drawer.drawn ≡ []
  pub plan_is : m.plan.value.items.items ≡ plan

-- each worker has such a part
abbrev pub AreMenders : List Item → TableId → List (Work Mending) → Type 0
AreMenders plan tickets [] = Unit {0}
AreMenders plan tickets (w ∷ ws) = IsMendingPart plan tickets w.errand × AreMenders plan tickets ws

-- each mends for this row, and asks the pace about it
abbrev pub AreForRow : ℕ → List (Work Mending) → Type 0
AreForRow row [] = Unit {0}
AreForRow row (w ∷ ws) = (w.errand.row ≡ row) × AreForRow row ws

-- the allowances that the workers got
abbrev pub given_to_all : List (Work Mending) → ℕ
given_to_all works = sum_by (λ w. w.errand.drawer.allowance) works

-- ---- after the round
-- the results of a worker that did not stop
abbrev pub results_in : Mended → List Done
results_in (Worked (Ok done)) = done.items
results_in m = []

-- a worker at its end. Draws leave the sum of a drawer's allowance and its draws unchanged, so this
-- is the allowance that it got
abbrev pub left_with : DrawerState → List Done → EndedWorker
left_with drawer done = record { given = drawer.allowance + length drawer.drawn; drawer = drawer; done = done }

abbrev pub left_of : Returned → EndedWorker
left_of o = left_with o.drawer (results_in o.mended)

abbrev pub all_left : List Returned → List EndedWorker
all_left outcomes = map left_of outcomes

-- a worker that did not stop has finished its part
abbrev pub FinishedIfDone : List Item → DrawerState → Mended → Type 0
FinishedIfDone plan drawer (Worked (Ok done)) = HasFinished plan (left_with drawer done.items)
FinishedIfDone plan drawer m = Unit {0}

-- each worker is back from its part
abbrev pub IsBack : List Item → TableId → Returned → Type 0
IsBack plan tickets o = (o.drawer.tickets ≡ tickets) × FinishedIfDone plan o.drawer o.mended

abbrev pub AreBack : List Item → TableId → List Returned → Type 0
AreBack plan tickets [] = Unit {0}
AreBack plan tickets (o ∷ os) = IsBack plan tickets o × AreBack plan tickets os

-- the allowances that they were given
abbrev pub given_before : List Returned → ℕ
given_before outcomes = sum_by (λ (left : EndedWorker). left.given) (all_left outcomes)

-- the worker did what it could: the pace admitted it, and it stopped only at a full journal
abbrev pub HasEnded : Mended → Type 0
HasEnded (Worked (Ok done)) = Unit {0}
HasEnded (Worked (Err stop)) = stop.fault ≡ JournalFull
HasEnded Paused = ⊥

abbrev pub IsEnded : Returned → Type 0
IsEnded o = HasEnded o.mended

abbrev pub AreEnded : List Returned → Type 0
AreEnded [] = Unit {0}
AreEnded (o ∷ os) = IsEnded o × AreEnded os

-- it stopped
abbrev pub has_stopped : Mended → Bool
has_stopped (Worked (Ok done)) = false
has_stopped m = true

abbrev pub is_stopped : Returned → Bool
is_stopped o = has_stopped o.mended

-- the tickets that were drawn
abbrev pub drawn_by : List Returned → List ℕ
drawn_by outcomes = flat_map (λ o. o.drawer.drawn) outcomes

-- the drawn tickets of all workers are the first ones, each once
abbrev pub AreDrawnOnce : List Returned → Type 0
AreDrawnOnce outcomes = AreFirst (drawn_by outcomes) (length (drawn_by outcomes))

-- The outcome of a mend. If no worker stopped, each item has one result, and it has the counts of
-- all results; otherwise a worker stopped
abbrev pub IsMendOutcome : List Item → List Returned → RowOutcome → Type 0
IsMendOutcome plan outcomes (row.Replied reply) = ⊥
IsMendOutcome plan outcomes (row.Mended report) =
    (list_any is_stopped outcomes ≡ false) × IsComplete plan (results_of (all_left outcomes)) × (report ≡ report_of (results_of (all_left outcomes)))
IsMendOutcome plan outcomes row.Full = list_any is_stopped outcomes ≡ true
