-- What a visit makes of a book: the book found, the book left, and the reply.
use Rattle.std.specs.Prelude.{◌≡◌, ◌↔◌, ℕ, ◌+◌, ◌-◌, ◌≤◌, List, length, max, take, Option, Result, Err, IfOk, IfErr, OnErr}
use Rattle.sealed.specs.declared.fault.Fault.{Fault}
use Rattle.sealed.specs.declared.fault.Fault.TheVariants.{NoMemory, JournalFull}
use Rattle.history.specs.History.{History, state_of}
use Rattle.book.specs.declared.answer.Answer.{Answer}
use Rattle.book.specs.declared.numbers.Numbers.{Numbers}
use Rattle.book.specs.declared.plan.Item.{Item}
use Rattle.book.specs.declared.plan.Plan.{Plan}
use Rattle.book.specs.Contents.{Contents, journal_of}
use Rattle.book.specs.Holds.{CarriesOn, HoldsHistory, KeepsBase}
use Rattle.book.specs.Numbers.{AreNumbersOf}
use Rattle.book.specs.Plan.{plan_of, items_after}
use Rattle.book.specs.Trimming.{given_up}
use Rattle.requests.specs.declared.inspection.Inspection.{Inspection}
use Rattle.requests.specs.declared.request.Request.{Request}
use Rattle.requests.specs.Requests.{operation_of, IsAnswerTo, MayWant, IsFaultOf}
use Rattle.requests.specs.Inspections.{FoundIn}

-- A call was made under this label, or the book is as it was. The journal was full if and only if
-- the fault says so
pub record IsRequestMade (who : ℕ) (request : Request) (old new : Contents) (r : Result Answer Fault) : Type 0 where
  pub ok : IfOk r (CarriesOn old new who (operation_of request))
  pub answer : IfOk r (IsAnswerTo old request)
  pub no_memory : r ≡ Err NoMemory → MayWant old request
  pub full : (r ≡ Err JournalFull) ↔ (length old.entries ≡ old.limit)
  pub unchanged : KeepsBase old new
  pub faults : IfErr r (IsFaultOf request)
  pub err : OnErr r (new ≡ old)

-- a repair was inspected, and made where nothing has to be rebuilt
pub record IsInspected (who : ℕ) (n : List ℕ) (j f : ℕ) (old new : Contents) (l : Inspection) : Type 0 where
  pub found : FoundIn old new who n j f l
  pub unchanged : KeepsBase old new

-- the first `most` of the lost fragments that come behind `after`
pub record IsPlanPart (after : Option Item) (most : ℕ) (old new : Contents) (r : Result Plan Fault) : Type 0 where
  pub ok : IfOk r (λ plan. (h : History) → HoldsHistory old h → plan.items.items ≡ take most (items_after after (plan_of (state_of h))))
  pub faults : IfErr r (λ e. e ≡ NoMemory)
  pub unchanged : new ≡ old

-- the numbers of the book
pub record AreCounted (old new : Contents) (n : Numbers) : Type 0 where
  pub holds : (h : History) → HoldsHistory old h → AreNumbersOf old.width h n
  pub entries : n.entries ≡ length (journal_of old)
  pub unchanged : new ≡ old

-- At most `most` entries were discarded, and none of the last `keep`. The book represents what it
-- represented
pub record IsTrimPart (keep most : ℕ) (old new : Contents) (r : Result ℕ Fault) : Type 0 where
  pub holds : (h : History) → HoldsHistory old h → HoldsHistory new h
  pub answer : IfOk r (λ n. n ≡ given_up old.base.trimmed (length (journal_of old)) (max keep (length (journal_of old) - most)))
  pub few : IfOk r (λ n. n ≤ 1048576)
  pub trimmed : IfOk r (λ n. new.base.trimmed ≡ old.base.trimmed + n)
  pub unchanged : (new.width ≡ old.width) × (new.limit ≡ old.limit)
  pub faults : IfErr r (λ e. e ≡ NoMemory)
  pub err : OnErr r (new ≡ old)
