use Rattle.std.proofs.lemmas.Simd.{get_or-chunk}
use Rattle.kernels.proofs.BlocksLemmas.{chunk-lt}
use Rattle.kernels.specs.declared.lanes.TheConstants.{LANES}
use Rattle.kernels.proofs.blocks.load.Goals as goal

pub returns-clause-lanes : goal.returns-clause-lanes
returns-clause-lanes c k h = get_or-chunk c.args.at LANES c.args.source.now k 0 h

pub returns-clause-bytes : goal.returns-clause-bytes
returns-clause-bytes c = chunk-lt c.args.source.now c.args.at (λ k. (c.type_inv.source k).fits)
