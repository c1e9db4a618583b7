use Rattle.sharded.proofs.Totals.{totals_none}
use Rattle.sharded.proofs.numbers.no_numbers.Goals as goal

pub returns : goal.returns
returns c = totals_none
