use Rattle.std.proofs.Common.{◌≡◌, length}
use Rattle.lrc_code.specs.Code.{Open}
use Rattle.lrc_code.specs.Stripe.{is_absent}
use Rattle.bench_coder.proofs.timed_rebuild_to.Given as goal

abbrev pub invariant-loop : goal.invariant-loop
invariant-loop l = record {
  long : length l.bytes ≡ length l.initial.bytes;
  unchanged : Open l.left.code (is_absent l.left.fragments) l.f → l.bytes ≡ l.initial.bytes;
}
