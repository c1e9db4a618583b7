use Rattle.std.proofs.Common.{arith}
use Rattle.kernels.proofs.FactorLemmas.{get_or-spread}
use Rattle.kernels.proofs.factor.spread.Goals as goal

pub returns : goal.returns
returns c = get_or-spread c.args.row (omega arith)
