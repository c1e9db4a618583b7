use Rattle.std.proofs.Common.{◌≡◌, ℕ, ◌+◌, ◌<◌, get_or, map, ◌∙◌, arith, sym, false}
use Rattle.std.proofs.lemmas.Bool.{true≢false}
use Rattle.kernels.specs.Lists.{combined}
use Rattle.one_pass.specs.Syndromes.{syndromes_at}
use Rattle.one_pass.specs.Weights.{lane, unit}
use Rattle.one_pass.proofs.Patterns.{AreLanes, plain_taken}
use Rattle.one_pass.proofs.Written.{written_more}
use Rattle.kernels.specs.declared.lanes.TheConstants.{LANES}
use Rattle.one_pass.proofs.loops.write_plain.Goals as goal

pub each-preserved : goal.each-preserved
each-preserved g c =
    let sources = map (λ s. s.now) c.args.sources.now in
    let i = c.each.invariant in
    let s = c.columns_at-s.ensures in
    let at : ℕ = c.next_block-at.result in
    let order = c.next_block-at.ensures.no_gap in
    let lanes : (k : ℕ) → k < LANES → AreLanes (lane c.columns_at-s.result k) (syndromes_at sources (at + k)) false c.args.third c.args.fourth =
    λ k h. record { first = s.first k h; second_is = λ on. absurd (true≢false (sym on)); third_is = λ on. s.third on k h; fourth_is = λ on. s.fourth on k h } in
    let plain : (k : ℕ) → k < LANES → get_or c.syndrome_of-plain.result k 0 ≡ combined (unit c.args.e) (syndromes_at sources (at + k)) =
    λ k h. c.syndrome_of-plain.ensures k h ∙ plain_taken c.args.e _ (syndromes_at sources (at + k)) false c.args.third c.args.fourth c.requires.inside (lanes k h) c.requires.takes in
    record {
      inside = omega (arith, c.next_block-at.ensures.inside);
      long = omega arith;
      x = written_more (λ k x. x ≡ combined (unit c.args.e) (syndromes_at sources k)) c.each.x c.store.new.target c.each.done at order i.x c.store.ensures.before (λ k h. c.store.ensures.lanes k h ∙ plain k h);
    }
