use Rattle.std.proofs.Common.{◌≡◌, ℕ, ◌<◌, ◌+◌, ◌-◌, List, map, length, get_or, ◌∙◌, subst, arith}
use Rattle.kernels.specs.Lists.{bytes_at, combined}
use Rattle.kernels.proofs.GroupLemmas.{facts_more}
use Rattle.kernels.specs.declared.lanes.TheConstants.{LANES}
use Rattle.kernels.proofs.combine.sum_few.Goals as goal

-- at place k the list has the sum
abbrev IsSum : List ℕ → List (List ℕ) → List ℕ → ℕ → Type 0
IsSum coefficients sources target k = get_or target k 0 ≡ combined coefficients (bytes_at sources k)

pub returns : goal.returns
returns c k h =
    let coefficients = c.args.coefficients.now in
    let sources : List (List ℕ) = map (λ s. s.now) c.args.sources.now in
    let w : ℕ = length c.args.target.now in
    let first : (j : ℕ) → j < LANES → IsSum coefficients sources c.store.new.target j =
    λ j l. let here : 0 + j ≡ j = omega arith in subst (IsSum coefficients sources c.store.new.target) here (c.store.ensures.lanes j l ∙ c.sum_once-sums.ensures.first j l) in
    facts_more (IsSum coefficients sources c.store-2.new.target) (w - LANES) w
    (λ j l. c.store-2.ensures.before j l ∙ first j (omega (arith, l, c.requires.few)))
    (λ j l. c.store-2.ensures.lanes j (omega arith) ∙ c.sum_once-sums.ensures.second j (omega arith))
    k (omega arith)
