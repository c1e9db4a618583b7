use Rattle.std.specs.Prelude.{[]}
use Rattle.ledger.proofs.ledger.Follower.observe.Given as goal

abbrev pub ghosts-observe_with : goal.ghosts-observe_with
ghosts-observe_with g a = record { setup = a.ledger.now.setup; acts = [] }
