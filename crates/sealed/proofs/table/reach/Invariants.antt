use Rattle.std.proofs.Common.{◌≡◌, ◌+◌, ◌-◌, ℕ, None, length, get_or}
use Rattle.sealed.proofs.table.reach.Given as goal

abbrev pub invariant-loop-patches : goal.invariant-loop-patches
invariant-loop-patches l = (i : ℕ) → get_or l.patches.items i None ≡ get_or l.fn.patches.items i None

abbrev pub decreases-loop-patches : goal.decreases-loop-patches
decreases-loop-patches l = l.j + 1 - length l.patches.items
