use Rattle.kernels.proofs.FactorLemmas.{low_10, high_10}
use Rattle.kernels.proofs.factor.Factor.of_10.Goals as goal

pub from_rows-requires-clause-low : goal.from_rows-requires-clause-low
from_rows-requires-clause-low c = low_10

pub from_rows-requires-clause-high : goal.from_rows-requires-clause-high
from_rows-requires-clause-high c = high_10
