-- What a worker did.
use Rattle.std.specs.Prelude.{◌≡◌, ◌⊎◌, ℕ, ◌+◌, ◌<◌, ◌≤◌, List, [], ◌∷◌, ◌++◌, length, map, take, All, Some, slice_get}
use Rattle.std.specs.List.Sorted.{IsStrictlyIncreasing}
use Rattle.book.specs.declared.plan.Item.{Item}
use Rattle.gate.specs.Places.{times}
use Rattle.history.specs.Step.{Operation, repair}
use Rattle.requests.specs.declared.jobs.Reply.{Reply}
use Rattle.requests.specs.declared.jobs.Reply.TheVariants.{Made, Refused}
use Rattle.requests.specs.declared.jobs.Ask.{Ask}
use Rattle.requests.specs.declared.jobs.Ask.TheVariants.{Repair}
use Rattle.sealed.specs.declared.fault.Fault.{Fault}
use Rattle.sealed.specs.declared.fault.Fault.TheVariants.{JournalFull}
use Rattle.shared.specs.Passes.{Shows}
use Rattle.shared.specs.Serving.{Serves}
use Rattle.mender.specs.declared.done.Done.{Done}
use Rattle.mender.specs.Drawn.{DrawerState}
use Rattle.mender.specs.Gathered.{tickets_of, IsOfPlan}

-- the repair of an item
abbrev pub repair_of : Item → Operation
repair_of item = repair item.name item.stripe item.f

-- the answers of the results, in order
abbrev pub replies_of : List Done → List Reply
replies_of done = map (λ d. Made d.answer) done

-- what is asked for the repair of an item
abbrev pub ask_of : Item → Ask
ask_of item = Repair item.name item.stripe item.f

abbrev pub asks_done : List Done → List Ask
asks_done done = map (λ d. ask_of d.item) done

-- the pass made just the repairs of the results' items, in order, with the results' answers, each
-- as one thread does at its place
abbrev pub AreMended : Shows → List Done → Shows → Type 0
AreMended v done w = Serves v (asks_done done) (replies_of done) w

-- the drawer drew just these numbers, in this order
pub record Draws (old : DrawerState) (numbers : List ℕ) (new : DrawerState) : Type 0 where
  pub tickets : new.tickets ≡ old.tickets
  pub allowance : new.allowance + length numbers ≡ old.allowance
  pub drawn : new.drawn ≡ old.drawn ++ numbers

-- the drawer drew the results' tickets and then the others, in rising order; each result is of the
-- plan
pub record Worked (plan : List Item) (old new : DrawerState) (done : List Done) (others : List ℕ) : Type 0 where
  pub draws : Draws old (tickets_of done ++ others) new
  pub of_plan : All (IsOfPlan plan) done
  pub once : (n : ℕ) → times n (tickets_of done) ≤ 1
  pub rises : IsStrictlyIncreasing (tickets_of done ++ others)

-- the results are those of the plan's first items, in the plan's order
abbrev pub AreInOrder : List Item → List Done → Type 0
AreInOrder plan done = map (λ d. d.item) done ≡ take (length done) plan

-- each ticket that was drawn has its result, but a last one past the plan's end; without such a one
-- the allowance is 0
abbrev pub Finished : List Item → DrawerState → DrawerState → List Done → Type 0
Finished plan old new done = (Worked plan old new done [] × (new.allowance ≡ 0)) ⊎ ((n : ℕ) × (length plan ≤ n) × Worked plan old new done (n ∷ []))

-- each ticket that was drawn has its result, but the one in hand, which is below the plan's length
abbrev pub Stopped : List Item → DrawerState → DrawerState → List Done → Type 0
Stopped plan old new done = (n : ℕ) × (n < length plan) × (times n (tickets_of done) ≡ 0) × Worked plan old new done (n ∷ [])

-- where a call was refused as the journal was full
abbrev pub IfFull : Fault → Type 0 → Type 0
IfFull fault P = fault ≡ JournalFull → P

-- the repair of the item in hand was refused, as the journal was full
pub record StoppedFull (plan : List Item) (old new : DrawerState) (v : Shows) (done : List Done) (w : Shows) : Type 0 where
  pub ticket : ℕ
  pub item : Item
  pub there : slice_get plan ticket ≡ Some item
  pub worked : Worked plan old new done (ticket ∷ [])
  pub serves : Serves v (asks_done done ++ ask_of item ∷ []) (replies_of done ++ Refused JournalFull ∷ []) w
