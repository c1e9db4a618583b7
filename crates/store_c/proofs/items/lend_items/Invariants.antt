use Rattle.std.proofs.Common.{◌-◌, length}
use Rattle.store_c.proofs.LentItems.{IsLending}
use Rattle.store_c.proofs.items.lend_items.Given as goal

abbrev pub invariant-loop-at : goal.invariant-loop-at
invariant-loop-at l = IsLending l.repairs.items l.at l.initial.target l.target

abbrev pub decreases-loop-at : goal.decreases-loop-at
decreases-loop-at l = length l.initial.target - l.at
