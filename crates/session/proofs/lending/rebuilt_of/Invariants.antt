use Rattle.std.proofs.Common.{length}
use Rattle.session.proofs.Lendings.{IsRebuilding}
use Rattle.session.proofs.lending.rebuilt_of.Given as goal

abbrev pub invariant-loop-walk : goal.invariant-loop-walk
invariant-loop-walk l = IsRebuilding l.initial.walk l.walk l.rebuilt.items

abbrev pub decreases-loop-walk : goal.decreases-loop-walk
decreases-loop-walk l = length l.walk.parts
