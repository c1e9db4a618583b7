use Rattle.std.proofs.Common.{◌≡◌, ℕ, ◌+◌, ◌-◌, ◌<◌, ◌≤◌, None, IfSome, true, false, length, map, get_or}
use Rattle.std.specs.Prelude.{slice_index_or}
use Rattle.lrc_code.specs.Code.{is_lost}
use Rattle.lrc_code.specs.Stripe.{list_at}
use Rattle.syndromes.specs.Syndromes.{column_at}
use Rattle.coder_c.proofs.wide.fill_parts.Given as goal

abbrev pub invariant-loop-i : goal.invariant-loop-i
invariant-loop-i l = record {
  count : length l.parts ≡ 16;
  long : (p : ℕ) → p < l.i → IfSome (slice_index_or l.parts p None) (λ part. l.to - l.from ≤ length part.now);
  lost : (p k : ℕ) → p < l.i → is_lost l.missing p ≡ true → column_at l.parts k p ≡ 0;
  bytes : (p k : ℕ) → p < l.i → k < l.to - l.from → is_lost l.missing p ≡ false → column_at l.parts k p ≡ get_or (list_at (map (λ f. f.now) l.fragments) p) (l.from + k) 0;
}
