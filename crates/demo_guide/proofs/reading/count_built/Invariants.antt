use Rattle.std.proofs.Common.{length}
use Rattle.lent.specs.Planned.{ahead_of}
use Rattle.demo_guide.proofs.reading.count_built.Given as goal

abbrev pub decreases-loop-piece : goal.decreases-loop-piece
decreases-loop-piece l = length (ahead_of l.walk).parts
