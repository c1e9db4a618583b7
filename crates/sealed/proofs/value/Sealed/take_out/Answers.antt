use Rattle.sealed.proofs.Changing.{without_stands}
use Rattle.sealed.proofs.value.Sealed.take_out.Goals as goal

pub returns-clause-stands : goal.returns-clause-stands
returns-clause-stands c b lost stands = without_stands c.args.self.now c.change.new.self b lost c.args.stripe c.args.f c.in_ok-change.ensures.ok stands
