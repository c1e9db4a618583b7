use Rattle.std.proofs.Common.{◌≡◌, length}
use Rattle.session.proofs.CopiedPieces.{HasCopied}
use Rattle.session.proofs.copying.copy_pieces.Given as goal

abbrev pub invariant-loop-walk : goal.invariant-loop-walk
invariant-loop-walk l = record { copies : HasCopied l.initial.walk l.walk l.target l.at l.copied.lent l.copied.built; long : length l.target ≡ length l.initial.target }

abbrev pub decreases-loop-walk : goal.decreases-loop-walk
decreases-loop-walk l = length l.walk.parts
