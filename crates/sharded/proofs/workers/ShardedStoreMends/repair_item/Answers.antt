use Rattle.mender.proofs.Answering.{repair_answers}
use Rattle.sharded.proofs.workers.ShardedStoreMends.repair_item.Goals as goal

pub returns-clause-answer : goal.returns-clause-answer
returns-clause-answer g c = repair_answers _ _ _ _ _ c.repair.result c.repair.ensures.called.does
