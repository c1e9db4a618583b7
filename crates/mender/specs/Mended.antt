-- Workers whose drawers are joined again.
use Rattle.std.specs.Prelude.{◌≡◌, ℕ, ◌+◌, ◌<◌, List, [], ◌++◌, length, All}
use Rattle.std.specs.List.{fold, flat_map}
use Rattle.book.specs.declared.plan.Item.{Item}
use Rattle.gate.specs.Places.{times}
use Rattle.mender.specs.declared.done.Done.{Done}
use Rattle.mender.specs.Drawn.{DrawerState}
use Rattle.mender.specs.Gathered.{tickets_of, IsOfPlan}
use Rattle.mender.specs.Worked.{Finished}

-- a worker at its end: the allowance that its drawer had at first, the drawer, and the results
pub record EndedWorker : Type 0 where
  pub given : ℕ
  pub drawer : DrawerState
  pub done : List Done

-- a drawer that took in another
abbrev pub with_hand : DrawerState → DrawerState → DrawerState
with_hand one other = record one { allowance = one.allowance + other.allowance; drawn = one.drawn ++ other.drawn }

-- a drawer that took in the drawers of all workers, in order
abbrev pub joined_drawer : DrawerState → List EndedWorker → DrawerState
joined_drawer first crew = fold (λ hand left. with_hand hand left.drawer) first crew

-- the results of all workers, in order
abbrev pub results_of : List EndedWorker → List Done
results_of crew = flat_map (λ left. left.done) crew

-- its drawer had drawn nothing at first, and it finished
pub record HasFinished (plan : List Item) (left : EndedWorker) : Type 0 where
  pub old : DrawerState
  pub given : old.allowance ≡ left.given
  pub none : old.drawn ≡ []
  pub finished : Finished plan old left.drawer left.done

-- each result is of the plan, and each number below the plan's length has as many results as draws
pub record HasResults (plan : List Item) (hand : DrawerState) (done : List Done) : Type 0 where
  pub of_plan : All (IsOfPlan plan) done
  pub each : (n : ℕ) → n < length plan → times n (tickets_of done) ≡ times n hand.drawn
