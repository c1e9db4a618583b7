use Rattle.std.proofs.Common.{◌≡◌, ℕ, ◌<◌, length}
use Rattle.std.specs.Option.{option_map}
use Rattle.lrc_code.specs.Stripe.{slot}
use Rattle.sealed.specs.Stripes.{fragment_at}
use Rattle.sealed.proofs.value.Sealed.left_of.Given as goal

abbrev pub invariant-loop-f : goal.invariant-loop-f
invariant-loop-f l = record {
  sixteen : length l.fragments ≡ 16;
  set : (g : ℕ) → g < l.f → option_map (λ x. x.now) (slot l.fragments g) ≡ fragment_at l.self.stripes l.stripe g;
}
