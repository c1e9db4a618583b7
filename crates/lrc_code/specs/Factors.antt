-- The four equations of a code, each times a factor, as one.
use Rattle.std.specs.Prelude.{◌≡◌, ℕ, ◌<◌, ◌==◌, Bool, true, cond, List, slice_index}
use Rattle.gf256.specs.Field.{product}
use Rattle.lrc_code.specs.declared.Code.{Code}
use Rattle.lrc_code.specs.Code.{fragment_count, weight, xor_sum}

-- what the fragment i weighs in the sum of the four equations, each times its factor
abbrev pub factored_weight : Code → List ℕ → ℕ → ℕ
factored_weight code factors i = xor_sum 4 (λ e. product (slice_index factors e) (weight code e i))

-- in that sum the fragment f weighs 1, and every other lost one nothing
abbrev pub WeighsAlone : Code → (ℕ → Bool) → ℕ → List ℕ → Type 0
WeighsAlone code lost f factors = (i : ℕ) → i < fragment_count code → lost i ≡ true
    → factored_weight code factors i ≡ cond (i == f) 1 0

-- in that sum each fragment weighs what it weighs in equation e
abbrev pub WeighsAs : Code → List ℕ → ℕ → Type 0
WeighsAs code factors e = (i : ℕ) → i < fragment_count code
    → factored_weight code factors i ≡ weight code e i
