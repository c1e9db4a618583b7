use Rattle.std.proofs.Common.{◌≡◌, ℕ, ◌<◌, ◌≤◌, [], Some, None, true, false, get_or, length}
use Rattle.lrc_code.specs.Code.{is_lost}
use Rattle.lrc_code.specs.Stripe.{slot}
use Rattle.coder_c.proofs.remaining.left_of.Given as goal

abbrev pub invariant-loop-i : goal.invariant-loop-i
invariant-loop-i l = record {
  sixteen : length l.slots ≡ 16;
  left : (k : ℕ) → k < l.i → is_lost l.lost k ≡ false → slot l.slots k ≡ Some (get_or l.fragments k (record { ref_ptr = (0, 0); now = [] }));
  lost : (k : ℕ) → k < l.i → is_lost l.lost k ≡ true → slot l.slots k ≡ None;
  rest : (k : ℕ) → l.i ≤ k → slot l.slots k ≡ None;
}
