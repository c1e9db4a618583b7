use Rattle.std.proofs.Common.{◌≡◌, false}
use Rattle.test_shared.proofs.tests.locks.count_many.Given as goal

abbrev pub invariant-loop : goal.invariant-loop
invariant-loop g l = (l.seat.gate ≡ l.gate) × (l.seat.inside ≡ false) × (l.seat.room ≡ l.initial.seat.room)
