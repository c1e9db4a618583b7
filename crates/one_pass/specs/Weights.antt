-- What the four syndromes are multiplied by for a target.
use Rattle.std.specs.Prelude.{◌≡◌, ℕ, ◌<◌, Bool, false, List, [], ◌∷◌, slice_index}
use Rattle.std.specs.Prelude.{slice_index_or}
use Rattle.gf256.specs.Field.{product}
use Rattle.kernels.specs.Lists.{xor_sum, list_at}
use Rattle.one_pass.specs.declared.columns.Columns.{Columns}
use Rattle.one_pass.specs.declared.weights.Weights.{Weights}

-- lane k of syndrome e
abbrev pub lane : Columns → ℕ → ℕ → ℕ
lane s k e = slice_index (list_at (s.first ∷ s.second ∷ s.third ∷ s.fourth ∷ []) e) k

-- what syndrome e is multiplied by
abbrev pub weight_in : Weights → ℕ → ℕ
weight_in w e = slice_index (w.first.scale ∷ w.second.scale ∷ w.third.scale ∷ w.fourth.scale ∷ []) e

-- the weights are the factors
abbrev pub AreWeights : Weights → List ℕ → Type 0
AreWeights w factors = (e : ℕ) → e < 4 → weight_in w e ≡ slice_index factors e

-- the sum of the four lanes, each times its weight
abbrev pub weighed : Weights → (ℕ → ℕ) → ℕ
weighed w s = xor_sum 4 (λ e. product (weight_in w e) (s e))

-- the factors of syndrome e alone
abbrev pub unit : ℕ → List ℕ
unit e = slice_index_or ((1 ∷ 0 ∷ 0 ∷ 0 ∷ []) ∷ (0 ∷ 1 ∷ 0 ∷ 0 ∷ []) ∷ (0 ∷ 0 ∷ 1 ∷ 0 ∷ [])
    ∷ (0 ∷ 0 ∷ 0 ∷ 1 ∷ []) ∷ []) e []

-- the factors but the first are 0 if those syndromes are not taken
abbrev pub UsesOnly : List ℕ → Bool → Bool → Bool → Type 0
UsesOnly factors second third fourth = (second ≡ false → slice_index factors 1 ≡ 0)
    × (third ≡ false → slice_index factors 2 ≡ 0)
    × (fourth ≡ false → slice_index factors 3 ≡ 0)
