use Rattle.std.proofs.Common.{◌≡◌, ℕ, ◌+◌, ◌<◌, get_or, map, ◌∙◌, arith, ap, refl, [], ◌∷◌, true, not, eqb}
use Rattle.kernels.specs.Lists.{combined, bytes_at}
use Rattle.one_pass.specs.Syndromes.{syndromes_at}
use Rattle.one_pass.specs.Weights.{lane, weighed, unit}
use Rattle.one_pass.specs.Patterns.{group}
use Rattle.one_pass.proofs.Patterns.{AreLanes, plain_taken, weighed_taken, takes_group, below_four}
use Rattle.one_pass.proofs.Written.{written_more}
use Rattle.kernels.specs.declared.lanes.TheConstants.{LANES}
use Rattle.one_pass.proofs.loops.write_plain_and_weighed.Goals as goal

pub each-preserved : goal.each-preserved
each-preserved g c =
    let sources = map (λ s. s.now) c.args.sources.now in
    let i = c.each.invariant in
    let s = c.columns_at-s.ensures in
    let at : ℕ = c.next_block-at.result in
    let order = c.next_block-at.ensures.no_gap in
    let lanes : (k : ℕ) → k < LANES → AreLanes (lane c.columns_at-s.result k) (syndromes_at sources (at + k)) (not (eqb g.row.SECOND 0)) true (not (eqb g.row.FOURTH 0)) =
    λ k h. record { first = s.first k h; second_is = λ on. s.second on k h; third_is = λ on. s.third refl k h; fourth_is = λ on. s.fourth on k h } in
    let plain : (k : ℕ) → k < LANES → get_or c.syndrome_of-plain.result k 0 ≡ combined (unit (group (not (eqb g.row.SECOND 0)))) (syndromes_at sources (at + k)) =
    λ k h. c.syndrome_of-plain.ensures k h ∙ ap (λ e. combined (unit e) (λ i. bytes_at (c.columns_at-s.result.first ∷ c.columns_at-s.result.second ∷ c.columns_at-s.result.third ∷ c.columns_at-s.result.fourth ∷ []) k i)) c.group_index.ensures ∙ plain_taken (group (not (eqb g.row.SECOND 0))) _ (syndromes_at sources (at + k)) (not (eqb g.row.SECOND 0)) true (not (eqb g.row.FOURTH 0)) (below_four (not (eqb g.row.SECOND 0))) (lanes k h) (takes_group (not (eqb g.row.SECOND 0)) true (not (eqb g.row.FOURTH 0))) in
    let sum : (k : ℕ) → k < LANES → get_or c.sums_at-sum.result k 0 ≡ weighed c.args.weights.now (syndromes_at sources (at + k)) =
    λ k h. c.sums_at-sum.ensures k h ∙ weighed_taken c.args.weights.now _ (syndromes_at sources (at + k)) (not (eqb g.row.SECOND 0)) (not (eqb g.row.FOURTH 0)) (lanes k h) c.requires.second c.requires.fourth in
    record {
      inside = omega (arith, c.next_block-at.ensures.inside);
      long = omega arith;
      same_y = omega arith;
      x = written_more (λ k x. x ≡ combined (unit (group (not (eqb g.row.SECOND 0)))) (syndromes_at sources k)) c.each.x c.store.new.target c.each.done at order i.x c.store.ensures.before (λ k h. c.store.ensures.lanes k h ∙ plain k h);
      y = written_more (λ k x. x ≡ weighed c.args.weights.now (syndromes_at sources k)) c.each.y c.store-in-each.new.target c.each.done at order i.y c.store-in-each.ensures.before (λ k h. c.store-in-each.ensures.lanes k h ∙ sum k h);
    }
