use Rattle.std.proofs.Common.{arith}
use Rattle.history.proofs.Beginnings.{none_rise}
use Rattle.history.proofs.base.Base.empty.Goals as goal

pub invariant_of-result : goal.invariant_of-result
invariant_of-result c = rw c.new.ensures.empty (omega arith, none_rise)
