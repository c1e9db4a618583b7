use Rattle.std.proofs.Common.{◌≡◌, ℕ, ◌+◌, ◌-◌, ◌<◌, ◌≤◌, None, IfSome, length}
use Rattle.std.specs.Prelude.{slice_index_or}
use Rattle.lrc_code.specs.Stripe.{byte_at}
use Rattle.syndromes.specs.Syndromes.{column_at}
use Rattle.decode.specs.Decoding.{fragment_in_place, byte_in_place}
use Rattle.decode.proofs.decoding.parts_of.Given as goal

abbrev pub invariant-loop-place : goal.invariant-loop-place
invariant-loop-place l = record {
  count : length l.parts ≡ 16;
  long : (p : ℕ) → p < l.place → IfSome (slice_index_or l.parts p None) (λ part. l.to - l.from ≤ length part.now);
  bytes : (p k : ℕ) → p < l.place → k < l.to - l.from → column_at l.parts k p ≡ byte_in_place (fragment_in_place l.left.code p) (byte_at l.left.fragments (l.from + k));
}
