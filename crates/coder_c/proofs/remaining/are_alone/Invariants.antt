use Rattle.std.proofs.Common.{◌≡◌, ℕ, ◌<◌, true, None, IfSome}
use Rattle.std.specs.Prelude.{slice_index_or}
use Rattle.lrc_code.specs.Code.{is_lost, is_alone}
use Rattle.coder_c.proofs.remaining.are_alone.Given as goal

abbrev pub invariant-loop-i : goal.invariant-loop-i
invariant-loop-i l = (j : ℕ) → j < l.i → IfSome (slice_index_or l.chosen j None) (λ f. is_alone l.code (is_lost l.lost) f ≡ true)
