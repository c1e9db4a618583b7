use Rattle.std.proofs.Common.{◌≤◌, length}
use Rattle.lent.proofs.Collecting.{Collects}
use Rattle.lent.proofs.grant.Grant.collect.Given as goal

abbrev pub invariant-loop-walk : goal.invariant-loop-walk
invariant-loop-walk l = record { collects : Collects l.initial.walk l.walk l.pieces.items; room : 12 ≤ l.pieces.capacity }

abbrev pub decreases-loop-walk : goal.decreases-loop-walk
decreases-loop-walk l = length l.walk.parts
