use Rattle.std.proofs.Common.{◌≡◌, ◌*◌, ◌+◌, ◌<◌, ◌≤◌, ℕ, List, length, take, true}
use Rattle.lrc_code.specs.Code.{Open, data_count}
use Rattle.lrc_code.specs.Stripe.{Agrees, IsStripe, is_absent}
use Rattle.fragments.specs.Data.{first_lists}
use Rattle.fragments.proofs.restoring.join_stripe.Given as goal

abbrev pub invariant-loop-f : goal.invariant-loop-f
invariant-loop-f l = record {
  long : length l.target ≡ data_count l.left.code * l.width;
  joined : (s : ℕ → List ℕ) → IsStripe l.left.code l.width s → Agrees l.left.code l.left.fragments 0 l.width s → take (l.f * l.width) l.target ≡ first_lists s l.f;
  none : (g : ℕ) → g < l.f → is_absent l.left.fragments g ≡ true → Open l.left.code (is_absent l.left.fragments) g → ⊥;
}
