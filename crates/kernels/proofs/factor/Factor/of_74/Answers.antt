use Rattle.kernels.proofs.FactorLemmas.{low_74, high_74}
use Rattle.kernels.proofs.factor.Factor.of_74.Goals as goal

pub from_rows-requires-clause-low : goal.from_rows-requires-clause-low
from_rows-requires-clause-low c = low_74

pub from_rows-requires-clause-high : goal.from_rows-requires-clause-high
from_rows-requires-clause-high c = high_74
