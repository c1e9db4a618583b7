use Rattle.std.proofs.Common.{◌≡◌, ℕ, ◌<◌, true, false}
use Rattle.lrc_code.specs.Code.{is_lost}
use Rattle.decode.proofs.plans.DecodePlan.reads.Given as goal

abbrev pub invariant-loop-i : goal.invariant-loop-i
invariant-loop-i l = record {
  read : (j : ℕ) → j < l.i → is_lost l.missing j ≡ false → is_lost l.reads j ≡ true;
  others : (j : ℕ) → is_lost l.reads j ≡ true → j < l.i;
  rest : (j : ℕ) → is_lost l.reads j ≡ true → is_lost l.missing j ≡ false;
}
