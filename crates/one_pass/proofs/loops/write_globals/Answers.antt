use Rattle.std.proofs.Common.{◌≡◌, ℕ, ◌+◌, ◌<◌, get_or, map, ◌∙◌, arith, refl, sym, true, false}
use Rattle.std.proofs.lemmas.Bool.{true≢false}
use Rattle.kernels.specs.Lists.{combined}
use Rattle.one_pass.specs.Syndromes.{syndromes_at}
use Rattle.one_pass.specs.Weights.{lane, unit}
use Rattle.one_pass.proofs.Patterns.{AreLanes, plain_taken, takes_globals}
use Rattle.one_pass.proofs.Written.{written_more}
use Rattle.kernels.specs.declared.lanes.TheConstants.{LANES}
use Rattle.one_pass.proofs.loops.write_globals.Goals as goal

pub each-preserved : goal.each-preserved
each-preserved c =
    let sources = map (λ s. s.now) c.args.sources.now in
    let i = c.each.invariant in
    let s = c.columns_at-s.ensures in
    let at : ℕ = c.next_block-at.result in
    let order = c.next_block-at.ensures.no_gap in
    let lanes : (k : ℕ) → k < LANES → AreLanes (lane c.columns_at-s.result k) (syndromes_at sources (at + k)) false true true =
    λ k h. record { first = s.first k h; second_is = λ on. absurd (true≢false (sym on)); third_is = λ on. s.third refl k h; fourth_is = λ on. s.fourth refl k h } in
    let third : (k : ℕ) → k < LANES → get_or c.syndrome_of-third.result k 0 ≡ combined (unit 2) (syndromes_at sources (at + k)) =
    λ k h. c.syndrome_of-third.ensures k h ∙ plain_taken 2 _ (syndromes_at sources (at + k)) false true true (omega arith) (lanes k h) (takes_globals 2 refl) in
    let fourth : (k : ℕ) → k < LANES → get_or c.syndrome_of-fourth.result k 0 ≡ combined (unit 3) (syndromes_at sources (at + k)) =
    λ k h. c.syndrome_of-fourth.ensures k h ∙ plain_taken 3 _ (syndromes_at sources (at + k)) false true true (omega arith) (lanes k h) (takes_globals 3 refl) in
    record {
      inside = omega (arith, c.next_block-at.ensures.inside);
      long = omega arith;
      same_y = omega arith;
      x = written_more (λ k x. x ≡ combined (unit 2) (syndromes_at sources k)) c.each.x c.store.new.target c.each.done at order i.x c.store.ensures.before (λ k h. c.store.ensures.lanes k h ∙ third k h);
      y = written_more (λ k x. x ≡ combined (unit 3) (syndromes_at sources k)) c.each.y c.store-in-each.new.target c.each.done at order i.y c.store-in-each.ensures.before (λ k h. c.store-in-each.ensures.lanes k h ∙ fourth k h);
    }
