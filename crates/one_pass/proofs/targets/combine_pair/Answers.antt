use Rattle.std.proofs.Common.{◌≡◌, ℕ, ◌+◌, ◌-◌, ◌<◌, map, ◌∙◌, arith, bit_xor, ap₂, not, eqb}
use Rattle.one_pass.specs.Syndromes.{wide_syndrome, syndromes_at, column_at, sum_by}
use Rattle.one_pass.specs.Weights.{unit}
use Rattle.one_pass.specs.Patterns.{group}
use Rattle.one_pass.proofs.Written.{spliced}
use Rattle.one_pass.proofs.Patterns.{by_weights, by_unit, by_sums, below_four}
use Rattle.one_pass.proofs.targets.combine_pair.Goals as goal

pub each-preserved : goal.each-preserved
each-preserved g c =
    let lists = c.args.lists.now in
    let at : ℕ = c.next_block-at.result in
    let end : ℕ = c.block_end-end.result in
    let i = c.each.invariant in
    let order = c.next_block-at.ensures.no_gap in
    let s = λ (k e : ℕ). wide_syndrome e (column_at lists k) in
    let same : (j e : ℕ) → j < end - at → e < 4 → syndromes_at (map (λ s. s.now) c.sources_of-sources.result) j e ≡ s (at + j) e =
    λ j e l m. c.sources_of-sources.ensures.syndromes j e l m in
    record {
      inside = omega arith;
      first = spliced c.each.first c.write_pair.new.x _ at end (λ k. sum_by c.args.one.now (s k)) (omega arith) (omega arith) (omega arith) (λ k l. i.first k (omega (arith, l, order)))
          (λ j l. c.write_pair.ensures.x j (omega arith) ∙ by_weights c.new-weights.result c.args.one.now _ (s (at + j)) c.new-weights.ensures (λ e m. same j e l m));
      second = spliced c.each.second c.write_pair.new.y _ at end (λ k. sum_by c.args.two.now (s k)) (omega arith) (omega arith) (omega arith) (λ k l. i.second k (omega (arith, l, order)))
          (λ j l. c.write_pair.ensures.y j (omega arith) ∙ ap₂ bit_xor (by_unit (group (not (eqb g.row.SECOND 0))) _ (s (at + j)) (below_four (not (eqb g.row.SECOND 0))) (λ e m. same j e l m)) (by_weights c.new-weights.result c.args.one.now _ (s (at + j)) c.new-weights.ensures (λ e m. same j e l m)) ∙ by_sums c.args.two.now (unit (group (not (eqb g.row.SECOND 0)))) c.args.one.now (s (at + j)) c.requires.pair.sums);
    }
