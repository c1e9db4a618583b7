use Rattle.std.specs.Prelude.{◌≡◌, []}
use Rattle.ledger.proofs.tests.record_often.Given as goal

abbrev pub ghosts-record : goal.ghosts-record
ghosts-record a = record { setup = a.ledger.now.setup; acts = [] }

abbrev pub invariant-loop : goal.invariant-loop
invariant-loop l = (l.follower.ledger ≡ l.initial.follower.ledger) × (l.keeper.ledger ≡ l.initial.keeper.ledger)
