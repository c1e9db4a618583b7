use Rattle.std.proofs.Common.{◌≡◌, ℕ, map, ◌∙◌, arith}
use Rattle.kernels.specs.Lists.{bytes_at}
use Rattle.syndromes.specs.Syndromes.{wide_syndrome}
use Rattle.one_pass.proofs.Written.{written_more}
use Rattle.syndromes.proofs.pass.write_columns.Goals as goal

pub each-preserved : goal.each-preserved
each-preserved g c =
    let sources = map (λ s. s.now) c.args.sources.now in
    let i = c.each.invariant in
    let s = c.columns_at-s.ensures in
    let at : ℕ = c.next_block-at.result in
    let order = c.next_block-at.ensures.no_gap in
    record {
      inside = omega (arith, c.next_block-at.ensures.inside);
      long = omega arith;
      same_second = omega arith;
      same_third = omega arith;
      same_fourth = omega arith;
      first = written_more (λ k x. x ≡ wide_syndrome 0 (bytes_at sources k)) c.each.first c.store.new.target c.each.done at order i.first c.store.ensures.before (λ k h. c.store.ensures.lanes k h ∙ s.first k h);
      second = λ on. written_more (λ k x. x ≡ wide_syndrome 1 (bytes_at sources k)) c.each.second c.store_if.new.target c.each.done at order (i.second on) c.store_if.ensures.before (λ k h. c.store_if.ensures.lanes on k h ∙ s.second on k h);
      third = λ on. written_more (λ k x. x ≡ wide_syndrome 2 (bytes_at sources k)) c.each.third c.store_if-in-each.new.target c.each.done at order (i.third on) c.store_if-in-each.ensures.before (λ k h. c.store_if-in-each.ensures.lanes on k h ∙ s.third on k h);
      fourth = λ on. written_more (λ k x. x ≡ wide_syndrome 3 (bytes_at sources k)) c.each.fourth c.store_if-in-each-2.new.target c.each.done at order (i.fourth on) c.store_if-in-each-2.ensures.before (λ k h. c.store_if-in-each-2.ensures.lanes on k h ∙ s.fourth on k h);
    }
