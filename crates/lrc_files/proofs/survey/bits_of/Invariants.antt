use Rattle.std.proofs.Common.{◌≡◌, ◌↔◌, ◌<◌, ℕ, true}
use Rattle.lrc_code.specs.Code.{is_lost}
use Rattle.lrc_files.proofs.survey.bits_of.Given as goal

abbrev pub invariant-loop-f : goal.invariant-loop-f
invariant-loop-f l = (i : ℕ) → (is_lost l.bits i ≡ true) ↔ ((i < l.f) × (is_lost l.lost i ≡ true))
