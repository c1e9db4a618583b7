use Rattle.std.proofs.Common.{◌≡◌, ℕ, ◌+◌, ◌-◌, ◌<◌, map, ◌∙◌, arith, bit_xor, ap₂}
use Rattle.one_pass.specs.Syndromes.{wide_syndrome, syndromes_at, column_at, sum_by}
use Rattle.one_pass.specs.Weights.{unit}
use Rattle.one_pass.proofs.Written.{spliced}
use Rattle.one_pass.proofs.Patterns.{by_weights, by_unit, by_sums}
use Rattle.one_pass.proofs.targets.combine_two_pairs.Goals as goal

pub each-preserved : goal.each-preserved
each-preserved c =
    let lists = c.args.lists.now in
    let at : ℕ = c.next_block-at.result in
    let end : ℕ = c.block_end-end.result in
    let i = c.each.invariant in
    let order = c.next_block-at.ensures.no_gap in
    let s = λ (k e : ℕ). wide_syndrome e (column_at lists k) in
    let same : (j e : ℕ) → j < end - at → e < 4 → syndromes_at (map (λ s. s.now) c.sources_of-sources.result) j e ≡ s (at + j) e =
    λ j e l m. c.sources_of-sources.ensures.syndromes j e l m in
    record {
      inside = omega arith;
      first = spliced c.each.first c.write_two_pairs.new.x _ at end (λ k. sum_by c.args.one.now (s k)) (omega arith) (omega arith) (omega arith) (λ k l. i.first k (omega (arith, l, order)))
          (λ j l. c.write_two_pairs.ensures.x j (omega arith) ∙ by_weights c.new-weights.result c.args.one.now _ (s (at + j)) c.new-weights.ensures (λ e m. same j e l m));
      second = spliced c.each.second c.write_two_pairs.new.y _ at end (λ k. sum_by c.args.two.now (s k)) (omega arith) (omega arith) (omega arith) (λ k l. i.second k (omega (arith, l, order)))
          (λ j l. c.write_two_pairs.ensures.y j (omega arith) ∙ ap₂ bit_xor (by_unit 0 _ (s (at + j)) (omega arith) (λ e m. same j e l m)) (by_weights c.new-weights.result c.args.one.now _ (s (at + j)) c.new-weights.ensures (λ e m. same j e l m)) ∙ by_sums c.args.two.now (unit 0) c.args.one.now (s (at + j)) c.requires.pairs.first);
      third = spliced c.each.third c.write_two_pairs.new.z _ at end (λ k. sum_by c.args.three.now (s k)) (omega arith) (omega arith) (omega arith) (λ k l. i.third k (omega (arith, l, order)))
          (λ j l. c.write_two_pairs.ensures.z j (omega arith) ∙ by_weights c.new-others.result c.args.three.now _ (s (at + j)) c.new-others.ensures (λ e m. same j e l m));
      fourth = spliced c.each.fourth c.write_two_pairs.new.w _ at end (λ k. sum_by c.args.four.now (s k)) (omega arith) (omega arith) (omega arith) (λ k l. i.fourth k (omega (arith, l, order)))
          (λ j l. c.write_two_pairs.ensures.w j (omega arith) ∙ ap₂ bit_xor (by_unit 1 _ (s (at + j)) (omega arith) (λ e m. same j e l m)) (by_weights c.new-others.result c.args.three.now _ (s (at + j)) c.new-others.ensures (λ e m. same j e l m)) ∙ by_sums c.args.four.now (unit 1) c.args.three.now (s (at + j)) c.requires.pairs.second);
    }
