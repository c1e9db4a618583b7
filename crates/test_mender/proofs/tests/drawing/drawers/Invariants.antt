use Rattle.std.proofs.Common.{◌≡◌}
use Rattle.std.specs.List.{All}
use Rattle.test_mender.proofs.tests.drawing.drawers.Given as goal

abbrev pub invariant-loop : goal.invariant-loop
invariant-loop g l =
    (l.first.tickets ≡ l.tickets) × All (λ d. d.tickets ≡ l.tickets) l.drawers.items
