use Rattle.std.proofs.Common.{length, ◌-◌}
use Rattle.script.proofs.Progress.{Progress}
use Rattle.script.proofs.reading.read_script.Given as goal

abbrev pub invariant-records : goal.invariant-records
invariant-records g l = Progress (λ retried. g.R.Read.remaining retried.reader) (g.R.Read.remaining l.fn.input) l.fn.workers l.rows.items l.reader

abbrev pub decreases-records : goal.decreases-records
decreases-records g l = 65537 - length l.rows.items
