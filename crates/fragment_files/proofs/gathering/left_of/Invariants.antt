use Rattle.std.proofs.Common.{◌≡◌, ◌<◌, ℕ, length, false}
use Rattle.lrc_code.specs.Stripe.{is_absent, Reaches}
use Rattle.fragment_files.proofs.gathering.left_of.Given as goal

abbrev pub invariant-loop-i : goal.invariant-loop-i
invariant-loop-i l = record {
  count : length l.fragments ≡ 16;
  reach : (j : ℕ) → j < 16 → is_absent l.fragments j ≡ false → Reaches l.fragments l.header.width j;
}
