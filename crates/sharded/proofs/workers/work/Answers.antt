use Rattle.mender.proofs.Made.{on_ok, on_err}
use Rattle.sharded.proofs.Repairs.{made_repaired, halt_stopped, halt_no_memory}
use Rattle.sharded.proofs.workers.work.Goals as goal

pub returns-clause-repaired : goal.returns-clause-repaired
returns-clause-repaired g c = on_ok c.repair_drawn.result _ _ (λ done made. made_repaired c.args.pass.now c.repair_drawn.new.pass done.items made) c.repair_drawn.ensures.made

pub returns-clause-err : goal.returns-clause-err
returns-clause-err g c = on_err c.repair_drawn.result _ _ (λ stop halt. halt_stopped halt) c.repair_drawn.ensures.err

pub returns-clause-no_memory : goal.returns-clause-no_memory
returns-clause-no_memory g c = on_err c.repair_drawn.result _ _ (λ stop halt. halt_no_memory halt) c.repair_drawn.ensures.err
