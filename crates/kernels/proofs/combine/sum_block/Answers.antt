use Rattle.std.proofs.Common.{ℕ, ◌<◌, ◌+◌, [], length, get_or, bit_xor, sym, ap, ap₂, ◌∙◌, arith}
use Rattle.std.proofs.lemmas.Simd.{get_or-replicate}
use Rattle.gf256.specs.Field.{product}
use Rattle.kernels.specs.Lists.{xor_sum}
use Rattle.kernels.proofs.CombineLemmas.{products, xor_sum_none, xor_sum_more}
use Rattle.kernels.proofs.FactorLemmas.{product_from_tables}
use Rattle.kernels.proofs.GroupLemmas.{source_is}
use Rattle.kernels.specs.declared.lanes.TheConstants.{LANES}
use Rattle.kernels.proofs.combine.sum_block.Goals as goal

pub loop-i-init : goal.loop-i-init
loop-i-init c k h = get_or-replicate LANES k 0 0 h ∙ sym (xor_sum_none (products c.args.coefficients.now c.args.sources.now (c.args.at + k)))

pub loop-i-preserved : goal.loop-i-preserved
loop-i-preserved c k h =
    let i : ℕ = c.loop-i.i in
    let scale : ℕ = get_or c.args.coefficients.now i 0 in
    let inside : i < length c.args.coefficients.now = omega arith in
    c.sum_2-sum.ensures k h
    ∙ ap₂ bit_xor (c.loop-i.invariant k h)
    (c.look_up.ensures.lanes k h
    ∙ product_from_tables scale (get_or c.args.lows.now i []) (get_or c.args.highs.now i []) (λ k h. c.requires.low i k inside h) (λ k h. c.requires.high i k inside h) (get_or c.load.result k 0) k (c.load.ensures.bytes k h) h
    ∙ ap (product scale) (c.load.ensures.lanes k h ∙ ap (λ xs. get_or xs (c.args.at + k) 0) (source_is c.args.sources.now i)))
    ∙ sym (xor_sum_more i (products c.args.coefficients.now c.args.sources.now (c.args.at + k)))

pub returns : goal.returns
returns c k h = c.loop-i.invariant k h ∙ ap (λ n. xor_sum n (products c.args.coefficients.now c.args.sources.now (c.args.at + k))) (omega arith)
