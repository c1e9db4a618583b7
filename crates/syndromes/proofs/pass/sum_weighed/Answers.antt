use Rattle.std.proofs.Common.{◌≡◌, ◌+◌, ℕ, map, ◌∙◌, arith}
use Rattle.kernels.specs.Lists.{combined, bytes_at}
use Rattle.one_pass.specs.Weights.{lane}
use Rattle.one_pass.proofs.Written.{written_more}
use Rattle.syndromes.proofs.Taken.{weighed_is}
use Rattle.syndromes.proofs.pass.sum_weighed.Goals as goal

pub each-preserved : goal.each-preserved
each-preserved g c =
    let lists = map (λ s. s.now) c.args.lists.now in
    let at : ℕ = c.next_block-at.result in
    record {
      inside = omega (arith, c.next_block-at.ensures.inside);
      long = omega arith;
      sums = written_more (λ k x. x ≡ combined c.args.factors.now (bytes_at lists k)) c.each.target c.store.new.target c.each.done at c.next_block-at.ensures.no_gap c.each.invariant.sums c.store.ensures.before
          (λ k h. c.store.ensures.lanes k h ∙ c.sums_at-sums.ensures k h
          ∙ weighed_is c.new-weights.result c.args.factors.now (lane c.columns_of.result k) (bytes_at lists (at + k)) (omega arith) c.new-weights.ensures (λ e l. c.columns_of.ensures k h e l));
    }
