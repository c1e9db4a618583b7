use Rattle.std.proofs.Common.{◌-◌, arith}
use Rattle.one_pass.proofs.Taken.{from_sources}
use Rattle.one_pass.proofs.blocks.sources_of.Goals as goal

pub returns-clause-syndromes : goal.returns-clause-syndromes
returns-clause-syndromes c k e h l = from_sources c.loop-i.sources c.args.lists.now c.args.at (c.args.end - c.args.at) (λ i k m h. c.loop-i.invariant.bytes i k (omega arith) h) e k l h
