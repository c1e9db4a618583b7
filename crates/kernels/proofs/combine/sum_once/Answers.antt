use Rattle.std.proofs.Common.{ℕ, ◌+◌, get_or, bit_xor, sym, ap, ap₂, ◌∙◌, arith}
use Rattle.std.proofs.lemmas.Simd.{get_or-replicate}
use Rattle.gf256.specs.Field.{product}
use Rattle.kernels.specs.Lists.{xor_sum}
use Rattle.kernels.proofs.CombineLemmas.{products, xor_sum_none, xor_sum_more}
use Rattle.kernels.proofs.GroupLemmas.{source_is}
use Rattle.kernels.specs.declared.lanes.TheConstants.{LANES}
use Rattle.kernels.proofs.combine.sum_once.Goals as goal

pub loop-i-init : goal.loop-i-init
loop-i-init c = record {
  first = λ k h. get_or-replicate LANES k 0 0 h ∙ sym (xor_sum_none (products c.args.coefficients.now c.args.sources.now (c.args.at + k)));
  second = λ k h. get_or-replicate LANES k 0 0 h ∙ sym (xor_sum_none (products c.args.coefficients.now c.args.sources.now (c.args.next + k)));
}

pub loop-i-preserved : goal.loop-i-preserved
loop-i-preserved c =
    let i : ℕ = c.loop-i.i in
    record {
      first = λ k h.
          c.plus_times-first.ensures k h
          ∙ ap₂ bit_xor (c.loop-i.invariant.first k h)
          (ap₂ product c.new-factor.ensures (c.load.ensures.lanes k h ∙ ap (λ xs. get_or xs (c.args.at + k) 0) (source_is c.args.sources.now i)))
          ∙ sym (xor_sum_more i (products c.args.coefficients.now c.args.sources.now (c.args.at + k)));
      second = λ k h.
          c.plus_times-second.ensures k h
          ∙ ap₂ bit_xor (c.loop-i.invariant.second k h)
          (ap₂ product c.new-factor.ensures (c.load-in-loop-i.ensures.lanes k h ∙ ap (λ xs. get_or xs (c.args.next + k) 0) (source_is c.args.sources.now i)))
          ∙ sym (xor_sum_more i (products c.args.coefficients.now c.args.sources.now (c.args.next + k)));
    }

pub returns-clause-first : goal.returns-clause-first
returns-clause-first c k h = c.loop-i.invariant.first k h ∙ ap (λ n. xor_sum n (products c.args.coefficients.now c.args.sources.now (c.args.at + k))) (omega arith)

pub returns-clause-second : goal.returns-clause-second
returns-clause-second c k h = c.loop-i.invariant.second k h ∙ ap (λ n. xor_sum n (products c.args.coefficients.now c.args.sources.now (c.args.next + k))) (omega arith)
