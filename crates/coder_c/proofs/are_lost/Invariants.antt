use Rattle.std.proofs.Common.{ℕ, ◌<◌, None, IfSome}
use Rattle.std.specs.Prelude.{slice_index_or}
use Rattle.coder_c.specs.Call.{IsLostIn}
use Rattle.coder_c.proofs.are_lost.Given as goal

abbrev pub invariant-loop-i : goal.invariant-loop-i
invariant-loop-i l = (j : ℕ) → j < l.i → IfSome (slice_index_or l.chosen j None) (IsLostIn l.code l.lost)
