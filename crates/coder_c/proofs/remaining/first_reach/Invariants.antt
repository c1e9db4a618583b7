use Rattle.std.proofs.Common.{◌≡◌, ℕ, ◌<◌, ◌≤◌, false, length, map}
use Rattle.lrc_code.specs.Code.{is_lost}
use Rattle.lrc_code.specs.Stripe.{list_at}
use Rattle.coder_c.proofs.remaining.first_reach.Given as goal

abbrev pub invariant-loop-i : goal.invariant-loop-i
invariant-loop-i l = (j : ℕ) → j < l.i → is_lost l.lost j ≡ false → l.to ≤ length (list_at (map (λ f. f.now) l.fragments) j)
