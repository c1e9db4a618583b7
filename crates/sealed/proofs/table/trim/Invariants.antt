use Rattle.std.proofs.Common.{◌≡◌, ℕ, length, get_or}
use Rattle.lrc_code.specs.Code.{is_lost}
use Rattle.sealed.proofs.table.trim.Given as goal

abbrev pub invariant-loop-lost : goal.invariant-loop-lost
invariant-loop-lost l = (i g : ℕ) → is_lost (get_or l.lost.items i 0) g ≡ is_lost (get_or l.fn.lost.items i 0) g

abbrev pub decreases-loop-lost : goal.decreases-loop-lost
decreases-loop-lost l = length l.lost.items
