use Rattle.std.proofs.Common.{subst}
use Rattle.history.specs.History.{IsLegal}
use Rattle.shared.specs.Passes.{IsConsistent}
use Rattle.shared.proofs.Passes.{agreed, legal_shown}
use Rattle.shard.specs.Seats.{plain}
use Rattle.shard.proofs.seat.ShardSeat.who.Goals as goal

pub returns-clause-legal : goal.returns-clause-legal
returns-clause-legal c = subst (λ t. IsLegal t.shows.store.width t.shows.seen) c.self.view_is (legal_shown (plain c.self.inside.seat) c.self.inside.who c.self.invariant.pass)

pub returns-clause-agrees : goal.returns-clause-agrees
returns-clause-agrees c = subst (λ t. IsConsistent t.shows) c.self.view_is (agreed (plain c.self.inside.seat) c.self.inside.who c.self.invariant.pass)
