use Rattle.std.proofs.Common.{subst}
use Rattle.history.specs.History.{IsLegal}
use Rattle.shared.specs.Passes.{Shows, IsConsistent}
use Rattle.shared.proofs.Passes.{agreed, legal_shown}
use Rattle.shared.proofs.pass.Pass.who.Goals as goal

pub returns-clause-legal : goal.returns-clause-legal
returns-clause-legal c = subst (λ (v : Shows). IsLegal v.store.width v.seen) c.self.view_is (legal_shown c.self.inside.seat c.self.inside.who c.self.invariant)

pub returns-clause-agrees : goal.returns-clause-agrees
returns-clause-agrees c = subst IsConsistent c.self.view_is (agreed c.self.inside.seat c.self.inside.who c.self.invariant)
