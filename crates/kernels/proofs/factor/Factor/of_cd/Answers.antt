use Rattle.kernels.proofs.FactorLemmas.{low_cd, high_cd}
use Rattle.kernels.proofs.factor.Factor.of_cd.Goals as goal

pub from_rows-requires-clause-low : goal.from_rows-requires-clause-low
from_rows-requires-clause-low c = low_cd

pub from_rows-requires-clause-high : goal.from_rows-requires-clause-high
from_rows-requires-clause-high c = high_cd
