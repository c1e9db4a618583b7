use Rattle.mender.proofs.Made.{on_ok, on_err, made_mended, halt_stopped, halt_mended, halt_full}
use Rattle.mender.proofs.workers.work.Goals as goal

pub returns-clause-mended : goal.returns-clause-mended
returns-clause-mended g c = on_ok c.repair_drawn.result _ _ (λ done made. made_mended c.args.pass.now c.repair_drawn.new.pass done.items made) c.repair_drawn.ensures.made

pub returns-clause-err : goal.returns-clause-err
returns-clause-err g c = on_err c.repair_drawn.result _ _ (λ stop halt. halt_stopped halt) c.repair_drawn.ensures.err

pub returns-clause-mended_by_then : goal.returns-clause-mended_by_then
returns-clause-mended_by_then g c = on_err c.repair_drawn.result _ _ (λ stop halt. halt_mended halt) c.repair_drawn.ensures.err

pub returns-clause-stopped_full : goal.returns-clause-stopped_full
returns-clause-stopped_full g c = on_err c.repair_drawn.result _ _ (λ stop halt. halt_full halt) c.repair_drawn.ensures.err
