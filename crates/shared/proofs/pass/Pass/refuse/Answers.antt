use Rattle.std.proofs.Common.{subst}
use Rattle.shared.specs.Passes.{IsConsistent}
use Rattle.shared.proofs.Passes.{agreed}
use Rattle.shared.proofs.pass.Pass.refuse.Goals as goal

pub returns-clause-agrees : goal.returns-clause-agrees
returns-clause-agrees c = subst IsConsistent c.self.view_is (agreed c.self.inside.seat c.self.inside.who c.self.invariant)
