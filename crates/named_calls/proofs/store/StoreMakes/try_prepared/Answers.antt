use Rattle.named_calls.proofs.Asked.{can_ask}
use Rattle.named_calls.proofs.store.StoreMakes.try_prepared.Goals as goal

pub try_prepared-requires-clause-can : goal.try_prepared-requires-clause-can
try_prepared-requires-clause-can c = can_ask c.args.pass.now c.args.self.now c.args.request c.requires.store c.requires.can
