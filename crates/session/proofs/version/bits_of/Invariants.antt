use Rattle.std.proofs.Common.{◌≡◌, ℕ, ◌&&◌, ltb}
use Rattle.lrc_code.specs.Code.{is_lost}
use Rattle.session.proofs.version.bits_of.Given as goal

abbrev pub invariant-loop-f : goal.invariant-loop-f
invariant-loop-f l = (g : ℕ) → is_lost l.bits g ≡ (ltb g l.f && is_lost l.lost g)
