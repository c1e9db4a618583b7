use Rattle.std.proofs.Common.{length, ap, arith}
use Rattle.lent.specs.Granted.{cut_of}
use Rattle.session.proofs.Lendings.{counted, aligned}
use Rattle.session.proofs.lending.Lending.len.Goals as goal

pub returns : goal.returns
returns c = omega (arith, c.len.ensures, c.self.inside.rebuilt.ok, counted c.self.inside.grant.sealed.value (cut_of c.self.inside.grant) c.self.inside.rebuilt.items (aligned c.self.inside.grant c.self.inside.rebuilt.items c.self.invariant.0), ap length c.self.view_is)
