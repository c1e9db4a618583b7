use Rattle.std.proofs.Common.{◌≡◌}
use Rattle.std.specs.List.{All}
use Rattle.test_mender.proofs.tests.mending.crew.Given as goal

abbrev pub invariant-loop-who : goal.invariant-loop-who
invariant-loop-who g l = record {
  pass : l.pass.store ≡ l.store;
  drawer : l.drawer.tickets ≡ l.tickets;
  crew : All (λ w. (w.pass.store ≡ l.store) × (w.drawer.tickets ≡ l.tickets)) l.crew.items;
}
