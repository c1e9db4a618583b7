-- The bytes of the blobs, which exist in proofs alone.
use Rattle.std.specs.Prelude.{◌≡◌, ℕ, List, [], ◌∷◌, cond, IfSome}
use Rattle.std.specs.FinMap as finite
use Rattle.std.specs.Ordering.{eq_by_cmp}
use Rattle.history.specs.Names.{name_cmp}
use Rattle.history.specs.State.{State}

-- names with bytes, the last put first
abbrev pub Puts : Type 0
Puts = List (List ℕ × List ℕ)

-- the bytes of a name
abbrev pub bytes_in : Puts → List ℕ → List ℕ
bytes_in [] q = []
bytes_in (e ∷ es) q = cond (eq_by_cmp name_cmp q e.0) e.1 (bytes_in es q)

-- each blob of the state has these bytes
abbrev pub AreTrue : Puts → State → Type 0
AreTrue t s = (q : List ℕ) → IfSome (finite.get s.names q) (λ blob. blob.bytes ≡ bytes_in t q)
