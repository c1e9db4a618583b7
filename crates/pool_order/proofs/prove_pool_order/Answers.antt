use Rattle.pool_order.proofs.Order.{next_use_has_seen}
use Rattle.pool_order.proofs.prove_pool_order.Goals as goal

pub returns : goal.returns
returns c = record { order = next_use_has_seen }
