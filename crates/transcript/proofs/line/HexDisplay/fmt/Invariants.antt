use Rattle.std.proofs.Common.{◌≡◌, ℕ, List, ◌++◌, length}
use Rattle.std.specs.Fmt.{HasWritten, IsPlainFormatter}
use Rattle.hex.specs.Hex.{encode_lower}
use Rattle.transcript.proofs.line.HexDisplay.fmt.Given as goal

abbrev pub invariant-loop-rest : goal.invariant-loop-rest
invariant-loop-rest g l =
    IsPlainFormatter l.fn.f → (before : List ℕ) × (l.fn.self.0.now ≡ before ++ l.rest) × HasWritten g.W.Write.write_str_gives l.fn.f (encode_lower before) l.f

abbrev pub decreases-loop-rest : goal.decreases-loop-rest
decreases-loop-rest g l = length l.rest
