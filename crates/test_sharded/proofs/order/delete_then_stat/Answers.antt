use Rattle.history.specs.Step.{stat}
use Rattle.test_sharded.proofs.Standing.{stands_on_ok}
use Rattle.test_sharded.proofs.order.delete_then_stat.Goals as goal

pub returns-clause-order : goal.returns-clause-order
returns-clause-order g c = stands_on_ok _ (stat c.args.other) c.stat.result c.in_ok-_deleted.ensures.listed c.stat.ensures.listed
