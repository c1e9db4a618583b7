use Rattle.std.proofs.Common.{◌≤◌, ◌-◌}
use Rattle.lent.proofs.building.next_lost.Given as goal

abbrev pub invariant-loop-k : goal.invariant-loop-k
invariant-loop-k l = l.from ≤ l.k

abbrev pub decreases-loop-k : goal.decreases-loop-k
decreases-loop-k l = l.grant.met.end - l.k
