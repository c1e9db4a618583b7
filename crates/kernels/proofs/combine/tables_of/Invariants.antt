use Rattle.std.proofs.Common.{◌≡◌, ℕ, ◌<◌, ◌*◌, ◌%◌, [], length, get_or}
use Rattle.gf256.specs.Field.{product}
use Rattle.kernels.specs.declared.lanes.TheConstants.{LANES}
use Rattle.kernels.proofs.combine.tables_of.Given as goal

abbrev pub invariant-loop-i : goal.invariant-loop-i
invariant-loop-i l = record {
  count_low : length l.lows ≡ 15;
  count_high : length l.highs ≡ 15;
  low : (i k : ℕ) → i < l.i → k < LANES → get_or (get_or l.lows i []) k 0 ≡ product (get_or l.coefficients i 0) (k % 16);
  high : (i k : ℕ) → i < l.i → k < LANES → get_or (get_or l.highs i []) k 0 ≡ product (get_or l.coefficients i 0) (16 * (k % 16));
}
