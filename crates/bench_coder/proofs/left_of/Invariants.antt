use Rattle.std.proofs.Common.{◌≡◌, ◌<◌, ℕ, length, None, get_or}
use Rattle.lrc_code.specs.declared.Code.{Code}
use Rattle.bench_coder.specs.Timed.{fragment_left}
use Rattle.bench_coder.proofs.left_of.Given as goal

abbrev pub invariant-loop-i : goal.invariant-loop-i
invariant-loop-i l = record {
  wide : l.left.code ≡ Code.Wide;
  sixteen : length l.left.fragments ≡ 16;
  seen : (g : ℕ) → g < l.i → get_or l.left.fragments g None ≡ fragment_left l.fn.fragments l.fn.lost g;
}
