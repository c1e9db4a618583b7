use Rattle.named_calls.proofs.Asked.{can_ask}
use Rattle.named_calls.proofs.store.StoreWaits.make.Goals as goal

pub make-requires-clause-can : goal.make-requires-clause-can
make-requires-clause-can g c = can_ask c.args.pass.now c.args.self.now c.args.request c.requires.store c.requires.can
