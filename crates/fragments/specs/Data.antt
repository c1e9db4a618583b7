-- The data of a stripe, one fragment after the other.
use Rattle.std.specs.Prelude.{◌≡◌, ◌*◌, ◌+◌, ◌<◌, ℕ, zero, suc, List, [], ◌∷◌, ◌++◌, slice_range}
use Rattle.lrc_code.specs.declared.Code.{Code}
use Rattle.lrc_code.specs.Code.{data_count, Open}
use Rattle.lrc_code.specs.Stripe.{IsStripe, Agrees, is_absent}
use Rattle.std.specs.Prelude.{Option, true, Bool}
use Rattle.std.specs.Borrow.{Bor}

-- the bytes of the first n lists, one after the other
abbrev pub first_lists : (ℕ → List ℕ) → ℕ → List ℕ
first_lists s zero = []
first_lists s (suc n) = first_lists s n ++ s n

-- a data fragment is absent, and the remaining ones do not determine it
pub record HasLostData (code : Code) (fragments : List (Option (Bor (List ℕ)))) : Type 0 where
  pub fragment : ℕ
  pub is_data : fragment < data_count code
  pub absent : is_absent fragments fragment ≡ true
  pub open_is : Open code (is_absent fragments) fragment

-- the bytes are the data of each stripe that agrees with the remaining blocks
abbrev pub JoinsTo : Code → List (Option (Bor (List ℕ))) → ℕ → List ℕ → Type 0
JoinsTo code fragments w bytes = (s : ℕ → List ℕ) → IsStripe code w s → Agrees code fragments 0 w s → bytes ≡ first_lists s (data_count code)

-- the lists are the pieces of the bytes of w bytes each, and then those of the parities
pub record HasPieces (code : Code) (w : ℕ) (bytes parities : List ℕ) (s : ℕ → List ℕ) : Type 0 where
  pub of_bytes : (f : ℕ) → f < data_count code → s f ≡ slice_range bytes (w * f) (w * f + w)
  pub of_parities : (k : ℕ) → k < 4 → s (data_count code + k) ≡ slice_range parities (w * k) (w * k + w)

-- the bytes, cut into data fragments, and the parities, cut into four, are a stripe
abbrev pub AreParitiesOf : Code → ℕ → List ℕ → List ℕ → Type 0
AreParitiesOf code w bytes parities = (s : ℕ → List ℕ) → HasPieces code w bytes parities s → IsStripe code w s
