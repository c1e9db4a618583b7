use Rattle.std.proofs.Common.{◌≡◌, ◌<◌, ◌≤◌, ℕ, bit_or, count_ones}
use Rattle.lrc_files.specs.Margin.{AreFurther, IsRecoverable}
use Rattle.lrc_files.proofs.margin.fatal_loss.Given as goal

abbrev pub invariant-loop-more : goal.invariant-loop-more
invariant-loop-more l = record {
  most : l.least ≤ 5;
  none : (m : ℕ) → m < l.more → AreFurther l.code l.lost m → (IsRecoverable l.code (bit_or l.lost m) → ⊥) → l.least ≤ count_ones m;
  some : l.least < 5 → (m : ℕ) × (m < l.more) × AreFurther l.code l.lost m × (count_ones m ≡ l.least) × (IsRecoverable l.code (bit_or l.lost m) → ⊥);
}
