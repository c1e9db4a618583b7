use Rattle.std.proofs.Common.{get_or, bit_xor, sym, ap, ◌∙◌, arith}
use lib.Bits.{xor_zero_r}
use Rattle.kernels.specs.Lists.{xor_sum}
use Rattle.kernels.proofs.CombineLemmas.{products, xor_sum_none, added_more}
use Rattle.kernels.proofs.combine.add_each.Goals as goal

pub loop-i-init : goal.loop-i-init
loop-i-init c k l = sym (ap (bit_xor (get_or c.args.target.now k 0)) (xor_sum_none (products c.args.coefficients.now c.args.sources.now k)) ∙ xor_zero_r (get_or c.args.target.now k 0))

pub loop-i-preserved : goal.loop-i-preserved
loop-i-preserved c k l = added_more c.args.coefficients.now c.args.sources.now k c.loop-i.i _ _ _ (c.loop-i.invariant k (omega arith)) (c.add_scaled.ensures k l)

pub returns : goal.returns
returns c k l = c.loop-i.invariant k l ∙ ap (λ n. bit_xor (get_or c.args.target.now k 0) (xor_sum n (products c.args.coefficients.now c.args.sources.now k))) (omega arith)
