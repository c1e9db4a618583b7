use Rattle.sealed.proofs.Changing.{with_stands}
use Rattle.sealed.proofs.value.Sealed.put_back.Goals as goal

pub returns-clause-stands : goal.returns-clause-stands
returns-clause-stands c b lost stands own = with_stands c.args.self.now c.change.new.self b lost c.args.stripe c.args.f c.args.bytes c.in_ok-change.ensures.ok stands own
