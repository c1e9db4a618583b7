-- Parities into four lists, the remaining fragments of a stripe in a list, and the outcome of
-- rebuilding one of them.
use Rattle.std.specs.Prelude.{◌≡◌, ℕ, ◌<◌, ◌↔◌, ◌++◌, ◌∷◌, [], Bool, true, false, List, All, Option, None, length, map, slice_get, cond}
use Rattle.std.specs.Borrow.{Bor}
use Rattle.lrc_code.specs.declared.Code.{Code}
use Rattle.lrc_code.specs.declared.left.Left.{Left}
use Rattle.lrc_code.specs.Code.{fragment_count, is_lost, Open}
use Rattle.lrc_code.specs.Stripe.{IsStripe, list_at, slot, is_absent, Reaches, Rebuilds}

-- twelve data fragments, and four lists as long as each
pub record HaveTargets (sources : List (Bor (List ℕ))) (p q g h : List ℕ) : Type 0 where
  pub count : length sources ≡ 12
  pub same : All (λ s. length s.now ≡ length p) sources
  pub second : length q ≡ length p
  pub third : length g ≡ length p
  pub fourth : length h ≡ length p

-- the data fragments and the four lists are a stripe of the wide code
abbrev pub AreStripe : List (Bor (List ℕ)) → List ℕ → List ℕ → List ℕ → List ℕ → Type 0
AreStripe sources p q g h = IsStripe Code.Wide (length p) (list_at (map (λ s. s.now) sources ++ p ∷ q ∷ g ∷ h ∷ []))

-- fragment i of the list, or none if it is lost or there is none
abbrev pub fragment_left : List (Bor (List ℕ)) → ℕ → ℕ → Option (Bor (List ℕ))
fragment_left fragments lost i = cond (is_lost lost i) None (slice_get fragments i)

-- these fragments of a stripe of the wide code remain
pub record IsLeft (fragments : List (Bor (List ℕ))) (lost : ℕ) (left : Left) : Type 0 where
  pub wide : left.code ≡ Code.Wide
  pub each : (i : ℕ) → i < 16 → slot left.fragments i ≡ fragment_left fragments lost i

-- fragment f is absent, and those that are present have w bytes or more
pub record IsRebuildRequest (left : Left) (f w : ℕ) : Type 0 where
  pub inside : f < fragment_count left.code
  pub absent : is_absent left.fragments f ≡ true
  pub long : (i : ℕ) → i < fragment_count left.code → is_absent left.fragments i ≡ false → Reaches left.fragments w i

-- its first w bytes are built if and only if it is asked for and recoverable; otherwise nothing
-- changes
pub record ComesOf (left : Left) (f w : ℕ) (done : Bool) (old new : List ℕ) : Type 0 where
  pub decides : (done ≡ true) ↔ (IsRebuildRequest left f w × (Open left.code (is_absent left.fragments) f → ⊥))
  pub built : done ≡ true → Rebuilds left.code left.fragments f 0 w new
  pub unchanged : done ≡ false → new ≡ old
