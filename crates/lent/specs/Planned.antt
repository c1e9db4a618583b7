-- Walks that keep their recipes.
use Rattle.std.specs.Prelude.{ℕ, drop}
use Rattle.std.specs.Borrow.{MutBor}
use Rattle.lent.specs.declared.planned.PlannedWalk.{PlannedWalk}
use Rattle.lent.specs.Ahead.{Ahead}
use Rattle.lent.specs.Granted.{cut_of}

-- the sealed value, and the parts of the cut that are still ahead
abbrev pub ahead_of : PlannedWalk → Ahead
ahead_of w = record { sealed = w.grant.now.sealed.value; parts = drop w.given (cut_of w.grant.now) }

-- the table of recipes that the walk uses and extends
abbrev pub plans_of : PlannedWalk → MutBor ℕ
plans_of w = w.plans
