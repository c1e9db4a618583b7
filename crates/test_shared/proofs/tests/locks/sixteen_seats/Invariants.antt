use Rattle.std.proofs.Common.{◌≡◌, false, ◌+◌, All}
use Rattle.test_shared.proofs.tests.locks.sixteen_seats.Given as goal

abbrev pub invariant-loop : goal.invariant-loop
invariant-loop l =
    (l.first.gate ≡ l.gate) × (l.first.inside ≡ false) × (l.first.room + l.counter ≡ 64)
    × All (λ seat. (seat.gate ≡ l.gate) × (seat.inside ≡ false)) l.seats.items
