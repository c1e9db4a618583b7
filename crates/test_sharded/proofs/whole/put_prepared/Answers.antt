use Rattle.std.proofs.Common.{sym, subst}
use Rattle.named_calls.specs.Asked.{CanAskIn, operation_name}
use Rattle.sharded.specs.Steps.{seen_for, width_for}
use Rattle.test_sharded.proofs.whole.put_prepared.Goals as goal

pub try_prepared-requires-clause-can : goal.try_prepared-requires-clause-can
try_prepared-requires-clause-can g c =
    subst (λ o. CanAskIn (seen_for c.args.pass.now.shards (operation_name o)) (width_for c.args.store.now.shards (operation_name o)) c.in-Ok.request)
    (sym c.in-Ok.ensures.put) (c.in-Ok.ensures.can c.args.pass.now)
