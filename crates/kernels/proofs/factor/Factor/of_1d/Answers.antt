use Rattle.kernels.proofs.FactorLemmas.{low_1d, high_1d}
use Rattle.kernels.proofs.factor.Factor.of_1d.Goals as goal

pub from_rows-requires-clause-low : goal.from_rows-requires-clause-low
from_rows-requires-clause-low c = low_1d

pub from_rows-requires-clause-high : goal.from_rows-requires-clause-high
from_rows-requires-clause-high c = high_1d
