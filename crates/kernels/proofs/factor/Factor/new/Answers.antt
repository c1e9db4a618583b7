use Rattle.std.proofs.Common.{◌*◌, ◌%◌, ◌/◌, ◌<◌, ◌≡◌, ℕ, ◌∙◌, arith}
use Rattle.kernels.proofs.FactorLemmas.{low_low, high_low, low_high, high_high, product_of_halves}
use Rattle.kernels.proofs.factor.Factor.new.Goals as goal

pub invariant_of-result : goal.invariant_of-result
invariant_of-result c =
    let s : ℕ = c.args.scale in
    let l : ℕ = c.from-lower.result in
    let u : ℕ = c.from-upper.result in
    let l_is : l ≡ s % 16 = c.from-lower.ensures in
    let u_is : u ≡ s / 16 = c.from-upper.ensures in
    let l_few : l < 16 = omega (arith, l_is) in
    let u_few : u < 16 = omega (arith, u_is) in
    record {
      low_is = λ k h. c.sum_2.ensures k h ∙ product_of_halves s l u (k % 16) _ _ (omega arith) l_is u_is
          (c.spread.ensures k h ∙ low_low l (k % 16) l_few (omega arith)) (c.spread-2.ensures k h ∙ high_low u (k % 16) u_few (omega arith));
      high_is = λ k h. c.sum_2-2.ensures k h ∙ product_of_halves s l u (16 * (k % 16)) _ _ (omega arith) l_is u_is
          (c.spread-3.ensures k h ∙ low_high l (k % 16) l_few (omega arith)) (c.spread-4.ensures k h ∙ high_high u (k % 16) u_few (omega arith));
    }
