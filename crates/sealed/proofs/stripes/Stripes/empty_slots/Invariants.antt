use Rattle.std.proofs.Common.{◌≡◌, ℕ, ◌&&◌, ltb}
use Rattle.std.specs.Prelude.{is_none}
use Rattle.lrc_code.specs.Code.{is_lost}
use Rattle.sealed.specs.Stripes.{fragment_at}
use Rattle.sealed.proofs.stripes.Stripes.empty_slots.Given as goal

abbrev pub invariant-loop-f : goal.invariant-loop-f
invariant-loop-f l = (g : ℕ) → is_lost l.lost g ≡ (ltb g l.f && is_none (fragment_at l.self l.j g))
