use Rattle.std.proofs.Common.{◌≡◌, ℕ, ◌<◌, ◌+◌, ◌-◌, List, map, length, get_or, ◌∙◌, arith}
use Rattle.kernels.specs.Lists.{bytes_at, combined}
use Rattle.kernels.proofs.GroupLemmas.{facts_more}
use Rattle.kernels.specs.declared.lanes.TheConstants.{LANES}
use Rattle.kernels.proofs.combine.plain_blocks.Goals as goal

-- at place k the list has the sum
abbrev IsSum : List ℕ → List (List ℕ) → List ℕ → ℕ → Type 0
IsSum coefficients sources target k = get_or target k 0 ≡ combined coefficients (bytes_at sources k)

pub quads-preserved : goal.quads-preserved
quads-preserved c =
    let coefficients = c.args.coefficients.now in
    let sources : List (List ℕ) = map (λ s. s.now) c.args.sources.now in
    let at : ℕ = c.quads.at in
    let one : (k : ℕ) → k < at + LANES → IsSum coefficients sources c.store.new.target k = facts_more (IsSum coefficients sources c.store.new.target) at (at + LANES)
    (λ k h. c.store.ensures.before k h ∙ c.quads.invariant.done k h)
    (λ k h. c.store.ensures.lanes k (omega arith) ∙ c.plain_block-a.ensures k (omega arith)) in
    let two : (k : ℕ) → k < at + LANES + LANES → IsSum coefficients sources c.store-in-quads.new.target k = facts_more (IsSum coefficients sources c.store-in-quads.new.target) (at + LANES) (at + LANES + LANES)
    (λ k h. c.store-in-quads.ensures.before k h ∙ one k h)
    (λ k h. c.store-in-quads.ensures.lanes k (omega arith) ∙ c.plain_block-b.ensures k (omega arith)) in
    let three : (k : ℕ) → k < at + LANES + LANES + LANES → IsSum coefficients sources c.store-in-quads-2.new.target k = facts_more (IsSum coefficients sources c.store-in-quads-2.new.target) (at + LANES + LANES) (at + LANES + LANES + LANES)
    (λ k h. c.store-in-quads-2.ensures.before k h ∙ two k h)
    (λ k h. c.store-in-quads-2.ensures.lanes k (omega arith) ∙ c.plain_block-c.ensures k (omega arith)) in
    record {
      inside = omega arith;
      done = facts_more (IsSum coefficients sources c.store-in-quads-3.new.target) (at + LANES + LANES + LANES) (at + LANES + LANES + LANES + LANES)
          (λ k h. c.store-in-quads-3.ensures.before k h ∙ three k h)
          (λ k h. c.store-in-quads-3.ensures.lanes k (omega arith) ∙ c.plain_block-d.ensures k (omega arith));
    }

pub whole-preserved : goal.whole-preserved
whole-preserved c =
    let coefficients = c.args.coefficients.now in
    let sources : List (List ℕ) = map (λ s. s.now) c.args.sources.now in
    record {
      inside = omega arith;
      done = facts_more (IsSum coefficients sources c.store-in-whole.new.target) c.whole.at (c.whole.at + LANES)
          (λ k h. c.store-in-whole.ensures.before k h ∙ c.whole.invariant.done k h)
          (λ k h. c.store-in-whole.ensures.lanes k (omega arith) ∙ c.plain_block.ensures k (omega arith));
    }

pub returns-then-at-width : goal.returns-then-at-width
returns-then-at-width c k h =
    let coefficients = c.args.coefficients.now in
    let sources : List (List ℕ) = map (λ s. s.now) c.args.sources.now in
    let w : ℕ = length c.args.target.now in
    facts_more (IsSum coefficients sources c.store-then-at-width.new.target) (w - LANES) w
    (λ k h. c.store-then-at-width.ensures.before k h ∙ c.whole.invariant.done k (omega arith))
    (λ k h. c.store-then-at-width.ensures.lanes k (omega arith) ∙ c.plain_block-then-at-width.ensures k (omega arith)) k (omega arith)
