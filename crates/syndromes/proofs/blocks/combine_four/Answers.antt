use Rattle.std.proofs.Common.{◌≡◌, ℕ, ◌<◌, length, get_or, refl, sym, ap, ◌∙◌, arith}
use Rattle.std.proofs.lemmas.List.{length-set}
use Rattle.std.proofs.lemmas.List.Elements.{All-get_or}
use Rattle.kernels.specs.Lists.{xor_sum}
use Rattle.kernels.proofs.GroupLemmas.{nothing}
use Rattle.kernels.proofs.CombineLemmas.{xor_sum_none}
use Rattle.syndromes.proofs.Terms.{term, long_more, sum_with, sum_without, combined_is, combined_first}
use Rattle.syndromes.proofs.blocks.combine_four.Goals.{then-factors-e-ne0, else-factors-e-ne0}
use Rattle.syndromes.proofs.blocks.combine_four.Goals as goal

pub loop-e-init : goal.loop-e-init
loop-e-init c = record {
  few = omega arith;
  four = refl;
  as_many = refl;
  long = λ j l. absurd (omega arith);
  sums = λ k. xor_sum_none _ ∙ sym (xor_sum_none _);
}

pub loop-e-preserved : goal.loop-e-preserved
loop-e-preserved c =
    elim c.if-factors-e-ne0.branch [
      | then-factors-e-ne0 w ↦
          let n : ℕ = c.loop-e.count in
          let e : ℕ = c.loop-e.e in
          let inv = c.loop-e.invariant in
          let in_cs : n < length c.loop-e.coefficients = omega (arith, inv.few, inv.four, c.loop-e-test.true) in
          let in_ss : n < length c.loop-e.sources = omega (arith, inv.few, inv.as_many, c.loop-e-test.true) in
          let long : length (get_or c.args.lists.now e nothing).now ≡ length c.args.target.now = All-get_or (λ s. length s.now ≡ length c.args.target.now) c.args.lists.now e nothing (omega arith) c.requires.same in
          rw (w.coefficients-is, w.sources-is, w.count-is) (record {
            few = omega (arith, inv.few);
            four = length-set c.loop-e.coefficients n (get_or c.args.factors.now e 0) ∙ inv.four;
            as_many = length-set c.loop-e.sources n (get_or c.args.lists.now e nothing) ∙ inv.as_many;
            long = long_more c.loop-e.sources n (length c.args.target.now) (get_or c.args.lists.now e nothing) in_ss inv.long long;
            sums = λ k. sum_with c.loop-e.coefficients c.args.factors.now c.loop-e.sources c.args.lists.now n e k in_cs in_ss (inv.sums k);
          })
      | else-factors-e-ne0 w ↦
          rw (w.coefficients-is, w.sources-is, w.count-is) (record {
            few = omega (arith, c.loop-e.invariant.few);
            four = c.loop-e.invariant.four;
            as_many = c.loop-e.invariant.as_many;
            long = c.loop-e.invariant.long;
            sums = λ k. sum_without c.loop-e.coefficients c.args.factors.now c.loop-e.sources c.args.lists.now c.loop-e.count c.loop-e.e k w.if-factors-e-ne0.false (c.loop-e.invariant.sums k);
          })
    ]

pub returns : goal.returns
returns c k l =
    c.combine_lists.ensures k l
    ∙ combined_first c.loop-e.coefficients c.loop-e.sources c.loop-e.count k (omega (arith, c.loop-e.invariant.few, c.loop-e.invariant.four))
    ∙ c.loop-e.invariant.sums k
    ∙ sym (combined_is c.args.factors.now c.args.lists.now k ∙ ap (λ n. xor_sum n (term c.args.factors.now c.args.lists.now k)) (omega arith))
