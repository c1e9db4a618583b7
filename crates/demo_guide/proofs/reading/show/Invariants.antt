use Rattle.std.proofs.Common.{length}
use Rattle.demo_guide.proofs.reading.show.Given as goal

abbrev pub decreases-loop-walk : goal.decreases-loop-walk
decreases-loop-walk g l = length l.walk.parts
