use Rattle.history.proofs.Settling.{out_more}
use Rattle.history.proofs.settle.withdraw.Goals as goal

pub loop-name-preserved : goal.loop-name-preserved
loop-name-preserved c = record {
  names = λ q. out_more c.args.gone.now c.loop-name.name-index c.name-item.result q _ _ _ c.loop-name-test.true c.name-item.is (c.loop-name.invariant.names q) (c.remove.ensures.updates.0 q);
  ordered = λ h. c.remove.ensures.ordered;
}
