use Rattle.std.proofs.Common.{arith}
use Rattle.std.proofs.lemmas.Simd.{get_or-put_chunk_at, get_or-put_chunk_below, get_or-put_chunk_above}
use Rattle.kernels.proofs.blocks.store.Goals as goal

pub returns-clause-lanes : goal.returns-clause-lanes
returns-clause-lanes c k h = get_or-put_chunk_at c.args.at c.args.target.now c.args.block k 0 (omega (arith, c.fits-block.0)) (omega (arith, c.fits-block.0, c.requires))

pub returns-clause-before : goal.returns-clause-before
returns-clause-before c k h = get_or-put_chunk_below c.args.at c.args.target.now c.args.block k 0 h

pub returns-clause-after : goal.returns-clause-after
returns-clause-after c k h = get_or-put_chunk_above c.args.at c.args.target.now c.args.block k 0 (omega (arith, h, c.fits-block.0))
