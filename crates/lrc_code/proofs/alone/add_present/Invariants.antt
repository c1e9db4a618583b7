use Rattle.std.proofs.Common.{◌≡◌, ℕ, ◌<◌, ◌+◌, ◌-◌, length, get_or}
use Rattle.kernels.proofs.GroupLemmas.{nothing}
use Rattle.lrc_code.specs.Stripe.{byte_at}
use Rattle.lrc_code.proofs.alone.add_present.Given as goal

abbrev pub invariant-loop-i : goal.invariant-loop-i
invariant-loop-i l = record {
  count : length l.parts ≡ 6;
  long : (j : ℕ) → j < l.i → length (get_or l.parts j nothing).now ≡ l.to - l.from;
  bytes : (j k : ℕ) → j < l.i → k < l.to - l.from → get_or (get_or l.parts j nothing).now k 0 ≡ byte_at l.left.fragments (l.from + k) (get_or l.others j 0);
}
