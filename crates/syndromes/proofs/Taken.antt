-- The syndromes that the formulas take, and sums of them.
use Rattle.std.proofs.Common.{◌≡◌, ℕ, ◌<◌, Bool, false, List, Option, Some, None, IfSome, length, get_or, sym, ap, ap₂, ◌∙◌}
use Rattle.gf256.specs.Field.{product}
use Rattle.kernels.specs.Lists.{xor_sum, combined}
use Rattle.kernels.proofs.Sums.{xor_sum_same}
use Rattle.one_pass.specs.declared.weights.Weights.{Weights}
use Rattle.one_pass.specs.Weights.{AreWeights, weighed}
use Rattle.syndromes.specs.declared.formulas.Formula.{Formula}
use Rattle.syndromes.specs.Plans.{TakesOnly}

-- the sums by the weights are those by the factors
pub weighed_is : (w : Weights) (factors : List ℕ) (s t : ℕ → ℕ) → length factors ≡ 4 → AreWeights w factors → ((e : ℕ) → e < 4 → s e ≡ t e) → weighed w s ≡ combined factors t
weighed_is w factors s t four are same =
    xor_sum_same 4 _ _ (λ e l. ap₂ product (are e l) (same e l))
    ∙ sym (ap (λ n. xor_sum n (λ e. product (get_or factors e 0) (t e))) four)

pub takes_only : (formula : Option Formula) (second third fourth : Bool) → (second ≡ false → IfSome formula (λ f. get_or f.factors 1 0 ≡ 0)) → (third ≡ false → IfSome formula (λ f. get_or f.factors 2 0 ≡ 0)) → (fourth ≡ false → IfSome formula (λ f. get_or f.factors 3 0 ≡ 0))
    → TakesOnly formula second third fourth
takes_only None second third fourth no_second no_third no_fourth = tt
takes_only (Some f) second third fourth no_second no_third no_fourth = (no_second, no_third, no_fourth)
