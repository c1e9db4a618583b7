-- Plans for decoding: which fragments are read, and by which shares they give the chosen ones.
use Rattle.std.specs.Prelude.{◌≡◌, ◌≢◌, ◌↔◌, ℕ, ◌<◌, true, false, List, [], None, IfSome}
use Rattle.std.specs.Prelude.{slice_index_or}
use Rattle.lrc_code.specs.declared.Code.{Code}
use Rattle.lrc_code.specs.Code.{fragment_count, is_lost}
use Rattle.lrc_code.specs.Factors.{factored_weight}
use Rattle.decode.specs.Syndrome.{AreShares}
use Rattle.decode.specs.declared.plans.DecodePlan.{DecodePlan}

-- four numbers for each of the four targets
abbrev pub at_target : List (List ℕ) → ℕ → List ℕ
at_target shares k = slice_index_or shares k []

-- the fragment is not read, and these shares give it from those that are
pub record IsPlanned (code : Code) (missing f : ℕ) (shares : List ℕ) : Type 0 where
  pub inside : f < fragment_count code
  pub gone : is_lost missing f ≡ true
  pub gives : AreShares code (is_lost missing) f shares

-- each fragment that is chosen is given by the shares of its target
abbrev pub IsDecodePlan : DecodePlan → Type 0
IsDecodePlan p = (k : ℕ) → k < 4 → IfSome (slice_index_or p.chosen k None)
    (λ f. IsPlanned p.code p.missing f (at_target p.shares k))

-- a set has every fragment of another
abbrev pub HasAllOf : Code → ℕ → ℕ → Type 0
HasAllOf code lost missing = (i : ℕ) → i < fragment_count code → is_lost lost i ≡ true
    → is_lost missing i ≡ true

-- a fragment that is in the second set alone weighs nothing for any target
abbrev pub WeighsNothing : Code → ℕ → ℕ → List (List ℕ) → Type 0
WeighsNothing code lost missing shares = (i : ℕ) → i < fragment_count code
    → is_lost missing i ≡ true → is_lost lost i ≡ false → (k : ℕ) → k < 4
    → factored_weight code (at_target shares k) i ≡ 0

-- a fragment that is not in the second set is not in the first, and weighs something for a target
abbrev pub WeighSomething : Code → ℕ → ℕ → List (List ℕ) → Type 0
WeighSomething code lost missing shares = (i : ℕ) → i < fragment_count code
    → is_lost missing i ≡ false → (is_lost lost i ≡ false)
    × ((k : ℕ) × (k < 4) × (factored_weight code (at_target shares k) i ≢ 0))

-- the set has the other fragments of the code, and no more
abbrev pub IsRest : Code → ℕ → ℕ → Type 0
IsRest code missing rest = (i : ℕ)
    → (is_lost rest i ≡ true) ↔ ((i < fragment_count code) × (is_lost missing i ≡ false))
