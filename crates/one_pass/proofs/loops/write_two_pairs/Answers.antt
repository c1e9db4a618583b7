use Rattle.std.proofs.Common.{◌≡◌, ℕ, ◌+◌, ◌<◌, get_or, map, ◌∙◌, arith, bit_xor, ap₂, refl, true}
use Rattle.std.proofs.lemmas.Bool.{true≢false}
use Rattle.kernels.specs.Lists.{combined}
use Rattle.one_pass.specs.Syndromes.{syndromes_at}
use Rattle.one_pass.specs.Weights.{lane, weighed, unit}
use Rattle.one_pass.proofs.Patterns.{AreLanes, plain_taken, weighed_taken, takes_all}
use Rattle.one_pass.proofs.Written.{written_more}
use Rattle.kernels.specs.declared.lanes.TheConstants.{LANES}
use Rattle.one_pass.proofs.loops.write_two_pairs.Goals as goal

pub each-preserved : goal.each-preserved
each-preserved c =
    let sources = map (λ s. s.now) c.args.sources.now in
    let i = c.each.invariant in
    let s = c.columns_at-s.ensures in
    let at : ℕ = c.next_block-at.result in
    let order = c.next_block-at.ensures.no_gap in
    let lanes : (k : ℕ) → k < LANES → AreLanes (lane c.columns_at-s.result k) (syndromes_at sources (at + k)) true true true =
    λ k h. record { first = s.first k h; second_is = λ on. s.second refl k h; third_is = λ on. s.third refl k h; fourth_is = λ on. s.fourth refl k h } in
    let first : (k : ℕ) → k < LANES → get_or c.syndrome_of-first.result k 0 ≡ combined (unit 0) (syndromes_at sources (at + k)) =
    λ k h. c.syndrome_of-first.ensures k h ∙ plain_taken 0 _ (syndromes_at sources (at + k)) true true true (omega arith) (lanes k h) (takes_all (unit 0)) in
    let second : (k : ℕ) → k < LANES → get_or c.syndrome_of-second.result k 0 ≡ combined (unit 1) (syndromes_at sources (at + k)) =
    λ k h. c.syndrome_of-second.ensures k h ∙ plain_taken 1 _ (syndromes_at sources (at + k)) true true true (omega arith) (lanes k h) (takes_all (unit 1)) in
    let sum : (k : ℕ) → k < LANES → get_or c.sums_at-sum.result k 0 ≡ weighed c.args.weights.now (syndromes_at sources (at + k)) =
    λ k h. c.sums_at-sum.ensures k h ∙ weighed_taken c.args.weights.now _ (syndromes_at sources (at + k)) true true (lanes k h) (λ off. absurd (true≢false off)) (λ off. absurd (true≢false off)) in
    let other : (k : ℕ) → k < LANES → get_or c.sums_at-other.result k 0 ≡ weighed c.args.others.now (syndromes_at sources (at + k)) =
    λ k h. c.sums_at-other.ensures k h ∙ weighed_taken c.args.others.now _ (syndromes_at sources (at + k)) true true (lanes k h) (λ off. absurd (true≢false off)) (λ off. absurd (true≢false off)) in
    record {
      inside = omega (arith, c.next_block-at.ensures.inside);
      long = omega arith;
      same_y = omega arith;
      same_z = omega arith;
      same_w = omega arith;
      x = written_more (λ k x. x ≡ weighed c.args.weights.now (syndromes_at sources k)) c.each.x c.store.new.target c.each.done at order i.x c.store.ensures.before (λ k h. c.store.ensures.lanes k h ∙ sum k h);
      y = written_more (λ k x. x ≡ bit_xor (combined (unit 0) (syndromes_at sources k)) (weighed c.args.weights.now (syndromes_at sources k))) c.each.y c.store-in-each.new.target c.each.done at order i.y c.store-in-each.ensures.before (λ k h. c.store-in-each.ensures.lanes k h ∙ c.sum_2-one.ensures k h ∙ ap₂ bit_xor (first k h) (sum k h));
      z = written_more (λ k x. x ≡ weighed c.args.others.now (syndromes_at sources k)) c.each.z c.store-in-each-2.new.target c.each.done at order i.z c.store-in-each-2.ensures.before (λ k h. c.store-in-each-2.ensures.lanes k h ∙ other k h);
      w = written_more (λ k x. x ≡ bit_xor (combined (unit 1) (syndromes_at sources k)) (weighed c.args.others.now (syndromes_at sources k))) c.each.w c.store-in-each-3.new.target c.each.done at order i.w c.store-in-each-3.ensures.before (λ k h. c.store-in-each-3.ensures.lanes k h ∙ c.sum_2-two.ensures k h ∙ ap₂ bit_xor (second k h) (other k h));
    }
