use Rattle.std.proofs.Common.{◌≡◌, false}
use Rattle.test_shared.proofs.tests.locks.join_all.Given as goal

abbrev pub invariant-loop-seat : goal.invariant-loop-seat
invariant-loop-seat l = (l.first.gate ≡ l.gate) × (l.first.inside ≡ false)
