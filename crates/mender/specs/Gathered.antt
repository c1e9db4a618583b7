-- Results against their plan.
use Rattle.std.specs.Prelude.{◌≡◌, ◌⊎◌, ℕ, ◌+◌, ◌<◌, ◌≤◌, cond, List, ◌∷◌, ◌++◌, length, map, count_by, All, slice_get, Some, Result, MatchResult}
use Rattle.book.specs.declared.plan.Item.{Item}
use Rattle.book.specs.declared.answer.Answer.{Answer}
use Rattle.gate.specs.Places.{times}
use Rattle.mender.specs.declared.done.Done.{Done}
use Rattle.mender.specs.declared.report.Report.{Report}
use Rattle.mender.specs.declared.report.Gather.{Gather}
use Rattle.mender.specs.declared.report.Gather.TheVariants.{Stranger, Twice, Missing, NoMemory}
use Rattle.mender.specs.Answers.{is_repaired, is_not_lost, is_gone, is_unrecoverable}
use Rattle.mender.specs.Drawn.{AreFirst}

-- the tickets of results, in order
abbrev pub tickets_of : List Done → List ℕ
tickets_of done = map (λ d. d.ticket) done

-- the ticket is below the plan's length, and the item is the plan's there
abbrev pub IsOfPlan : List Item → Done → Type 0
IsOfPlan plan d = slice_get plan d.ticket ≡ Some d.item

-- one result for each item
abbrev pub IsComplete : List Item → List Done → Type 0
IsComplete plan done = All (IsOfPlan plan) done × AreFirst (tickets_of done) (length plan)

-- at most one result for each item, and no other
abbrev pub IsSound : List Item → List Done → Type 0
IsSound plan done = All (IsOfPlan plan) done × ((n : ℕ) → times n (tickets_of done) ≤ 1)

-- a result that is not of the plan, and no fault before it
pub record FirstStranger (plan : List Item) (done : List Done) : Type 0 where
  pub before : List Done
  pub it : Done
  pub after : List Done
  pub order : done ≡ before ++ it ∷ after
  pub sound : IsSound plan before
  pub stranger : ¬ IsOfPlan plan it

-- a result of the plan whose ticket has a result before it, and no fault before
pub record FirstTwice (plan : List Item) (done : List Done) : Type 0 where
  pub before : List Done
  pub it : Done
  pub after : List Done
  pub order : done ≡ before ++ it ∷ after
  pub sound : IsSound plan before
  pub of_plan : IsOfPlan plan it
  pub again : 0 < times it.ticket (tickets_of before)

-- an item without a result, and no fault in the list
pub record LacksOne (plan : List Item) (done : List Done) : Type 0 where
  pub sound : IsSound plan done
  pub ticket : ℕ
  pub below : ticket < length plan
  pub missing : times ticket (tickets_of done) ≡ 0

-- the first fault of these results
abbrev pub IsFault : List Item → List Done → Gather → Type 0
IsFault plan done Stranger = FirstStranger plan done
IsFault plan done Twice = FirstTwice plan done
IsFault plan done Missing = LacksOne plan done
IsFault plan done NoMemory = Unit {0}

-- this fault, or there was no memory
abbrev pub IsRefused : Gather → Result Report Gather → Type 0
IsRefused fault answer = MatchResult answer (λ _. ⊥) (λ e. (e ≡ fault) ⊎ (e ≡ NoMemory))

-- how many answers there are of each kind
abbrev pub report_of : List Done → Report
report_of done = record {
  repaired = count_by (λ d. is_repaired d.answer) done;
  not_lost = count_by (λ d. is_not_lost d.answer) done;
  gone = count_by (λ d. is_gone d.answer) done;
  unrecoverable = count_by (λ d. is_unrecoverable d.answer) done;
}

-- one answer more
abbrev pub with_answer : Report → Answer → Report
with_answer r a = record {
  repaired = r.repaired + cond (is_repaired a) 1 0;
  not_lost = r.not_lost + cond (is_not_lost a) 1 0;
  gone = r.gone + cond (is_gone a) 1 0;
  unrecoverable = r.unrecoverable + cond (is_unrecoverable a) 1 0;
}

-- each count is below n
abbrev pub AreBelow : Report → ℕ → Type 0
AreBelow r n = (r.repaired < n) × (r.not_lost < n) × (r.gone < n) × (r.unrecoverable < n)
