use Rattle.std.proofs.Common.{◌≡◌, ◌≢◌, ℕ, ◌<◌, ◌≤◌, true, false}
use Rattle.lrc_code.specs.Code.{is_lost}
use Rattle.lrc_code.specs.Factors.{factored_weight}
use Rattle.decode.specs.DecodePlan.{at_target}
use Rattle.decode.proofs.plans.missing_of.Given as goal

abbrev pub invariant-loop-i : goal.invariant-loop-i
invariant-loop-i l = record {
  lost : (j : ℕ) → j < l.i → is_lost l.lost j ≡ true → is_lost l.missing j ≡ true;
  rest : (j : ℕ) → j < l.i → is_lost l.missing j ≡ true → is_lost l.lost j ≡ false → (k : ℕ) → k < 4 → factored_weight l.code (at_target l.shares k) j ≡ 0;
  read : (j : ℕ) → j < l.i → is_lost l.missing j ≡ false → (is_lost l.lost j ≡ false) × ((k : ℕ) × (k < 4) × (factored_weight l.code (at_target l.shares k) j ≢ 0));
  above : (j : ℕ) → l.i ≤ j → is_lost l.missing j ≡ false;
}
