use Rattle.std.proofs.Common.{ap, sym}
use Rattle.shared.specs.Passes.{Which}
use Rattle.shared.proofs.Requests.{refused_put}
use Rattle.named_calls.proofs.store.StoreMakes.refuse.Goals as goal

pub returns-clause-called : goal.returns-clause-called
returns-clause-called c = λ n code b is long. refused_put c.args.pass.now n code b c.args.self.now.width c.args.fault c.who-who.ensures.agrees (ap (λ (s : Which). s.width) (sym c.requires)) is long
