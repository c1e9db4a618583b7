use Rattle.kernels.proofs.FactorLemmas.{low_04, high_04}
use Rattle.kernels.proofs.factor.Factor.of_04.Goals as goal

pub from_rows-requires-clause-low : goal.from_rows-requires-clause-low
from_rows-requires-clause-low c = low_04

pub from_rows-requires-clause-high : goal.from_rows-requires-clause-high
from_rows-requires-clause-high c = high_04
