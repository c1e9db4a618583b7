use Rattle.ledger.specs.Values.{acts_to}
use Rattle.ledger.proofs.ledger.Ledger.leave.Given as goal

abbrev pub ghosts-leave_with : goal.ghosts-leave_with
ghosts-leave_with g a = record { setup = a.self.now.setup; acts = acts_to g.T.Changes.between a.seat.now.list a.inside.value.value }
