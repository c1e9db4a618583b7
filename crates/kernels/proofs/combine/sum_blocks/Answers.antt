use Rattle.std.proofs.Common.{◌≡◌, ℕ, ◌<◌, ◌+◌, ◌-◌, List, map, length, get_or, ◌∙◌, arith}
use Rattle.kernels.specs.Lists.{bytes_at, combined}
use Rattle.kernels.proofs.GroupLemmas.{facts_more}
use Rattle.kernels.specs.declared.lanes.TheConstants.{LANES}
use Rattle.kernels.proofs.combine.sum_blocks.Goals as goal

-- The steps of `plain_blocks`, from the clauses of other calls: a proof names its own calls.

-- at place k the list has the sum
abbrev IsSum : List ℕ → List (List ℕ) → List ℕ → ℕ → Type 0
IsSum coefficients sources target k = get_or target k 0 ≡ combined coefficients (bytes_at sources k)

pub pairs-preserved : goal.pairs-preserved
pairs-preserved c =
    let coefficients = c.args.coefficients.now in
    let sources : List (List ℕ) = map (λ s. s.now) c.args.sources.now in
    let at : ℕ = c.pairs.at in
    let one : (k : ℕ) → k < at + LANES → IsSum coefficients sources c.store.new.target k = facts_more (IsSum coefficients sources c.store.new.target) at (at + LANES)
    (λ k h. c.store.ensures.before k h ∙ c.pairs.invariant.done k h)
    (λ k h. c.store.ensures.lanes k (omega arith) ∙ c.sum_two-sums.ensures.first k (omega arith)) in
    record {
      inside = omega arith;
      done = facts_more (IsSum coefficients sources c.store-in-pairs.new.target) (at + LANES) (at + (LANES + LANES))
          (λ k h. c.store-in-pairs.ensures.before k h ∙ one k h)
          (λ k h. c.store-in-pairs.ensures.lanes k (omega arith) ∙ c.sum_two-sums.ensures.second k (omega arith));
    }

pub whole-preserved : goal.whole-preserved
whole-preserved c =
    let coefficients = c.args.coefficients.now in
    let sources : List (List ℕ) = map (λ s. s.now) c.args.sources.now in
    record {
      inside = omega arith;
      done = facts_more (IsSum coefficients sources c.store-in-whole.new.target) c.whole.at (c.whole.at + LANES)
          (λ k h. c.store-in-whole.ensures.before k h ∙ c.whole.invariant.done k h)
          (λ k h. c.store-in-whole.ensures.lanes k (omega arith) ∙ c.sum_block.ensures k (omega arith));
    }

pub returns : goal.returns
returns c k h =
    let coefficients = c.args.coefficients.now in
    let sources : List (List ℕ) = map (λ s. s.now) c.args.sources.now in
    let w : ℕ = length c.args.target.now in
    facts_more (IsSum coefficients sources c.store-2.new.target) (w - LANES) w
    (λ k h. c.store-2.ensures.before k h ∙ c.whole.invariant.done k (omega arith))
    (λ k h. c.store-2.ensures.lanes k (omega arith) ∙ c.sum_block-2.ensures k (omega arith)) k (omega arith)
