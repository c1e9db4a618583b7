-- Stripes: sixteen lists of one length, a column at each index; and the remaining fragments of one.
pub use Rattle.kernels.specs.Lists.{list_at, bytes_at}
use Rattle.lrc_code.specs.declared.Code.{Code}
use Rattle.std.specs.Prelude.{◌≡◌, ℕ, ◌*◌, ◌<◌, ◌≤◌, Bool, false, List, [], ◌∷◌, Option, Some, None, IfSome, length, slice_index, slice_index_or, slice_range}
use Rattle.std.specs.Borrow.{Bor}
use Rattle.std.specs.Option.{is_none}
use Rattle.lrc_code.specs.Code.{fragment_count, IsColumn}
use Rattle.lrc_code.specs.Column.{parity_of}

pub record IsStripe (code : Code) (w : ℕ) (s : ℕ → List ℕ) : Type 0 where
  pub width : (i : ℕ) → i < fragment_count code → length (s i) ≡ w
  pub columns : (k : ℕ) → k < w → IsColumn code (λ i. slice_index (s i) k)

-- four lists of w bytes that stand one after the other
abbrev pub quarters : ℕ → List ℕ → List (List ℕ)
quarters w bytes = slice_range bytes 0 w ∷ slice_range bytes w (2 * w) ∷ slice_range bytes (2 * w) (3 * w) ∷ slice_range bytes (3 * w) (4 * w) ∷ []

-- at place k the lists have the parities of the data, one for each equation
abbrev pub AreParities : Code → List (List ℕ) → List (List ℕ) → ℕ → Type 0
AreParities code sources parities k = (e : ℕ) → e < 4 → bytes_at parities k e ≡ parity_of code e (bytes_at sources k)

-- the slot of fragment i, and the bytes there
abbrev pub slot : List (Option (Bor (List ℕ))) → ℕ → Option (Bor (List ℕ))
slot fragments i = slice_index_or fragments i None

abbrev pub bytes_of : Option (Bor (List ℕ)) → List ℕ
bytes_of None = []
bytes_of (Some x) = x.now

abbrev pub is_absent : List (Option (Bor (List ℕ))) → ℕ → Bool
is_absent fragments i = is_none (slot fragments i)

-- the bytes at place k
abbrev pub byte_at : List (Option (Bor (List ℕ))) → ℕ → ℕ → ℕ
byte_at fragments k i = slice_index (bytes_of (slot fragments i)) k

-- fragment i is present and reaches to `to`
abbrev pub Reaches : List (Option (Bor (List ℕ))) → ℕ → ℕ → Type 0
Reaches fragments to i = (is_absent fragments i ≡ false) × (to ≤ length (bytes_of (slot fragments i)))

-- the code has the fragment f, and every fragment that is present has the bytes from..to
pub record HasRange (code : Code) (fragments : List (Option (Bor (List ℕ)))) (f from to : ℕ) : Type 0 where
  pub below : f < fragment_count code
  pub range : from ≤ to
  pub long : (i : ℕ) → i < fragment_count code → is_absent fragments i ≡ false → Reaches fragments to i

-- the stripe has the bytes from..to of each fragment that is present
abbrev pub Agrees : Code → List (Option (Bor (List ℕ))) → ℕ → ℕ → (ℕ → List ℕ) → Type 0
Agrees code fragments from to s = (i : ℕ) → i < fragment_count code → IfSome (slot fragments i) (λ x. slice_range (s i) from to ≡ slice_range x.now from to)

-- each stripe that agrees with the present fragments at from..to has these bytes there at f
abbrev pub Rebuilds : Code → List (Option (Bor (List ℕ))) → ℕ → ℕ → ℕ → List ℕ → Type 0
Rebuilds code fragments f from to bytes = (w : ℕ) (s : ℕ → List ℕ) → to ≤ w → IsStripe code w s → Agrees code fragments from to s → bytes ≡ slice_range (s f) from to

-- the stripe has the bytes from..to of each list that is not lost
abbrev pub AgreesWith : Code → (ℕ → Bool) → (ℕ → List ℕ) → ℕ → ℕ → (ℕ → List ℕ) → Type 0
AgreesWith code lost lists from to s = (i : ℕ) → i < fragment_count code → lost i ≡ false
    → slice_range (s i) from to ≡ slice_range (lists i) from to

-- each stripe that agrees with the lists that are not lost at from..to has these bytes there at f
abbrev pub RebuildsFrom : Code → (ℕ → Bool) → (ℕ → List ℕ) → ℕ → ℕ → ℕ → List ℕ → Type 0
RebuildsFrom code lost lists f from to bytes = (w : ℕ) (s : ℕ → List ℕ) → to ≤ w
    → IsStripe code w s → AgreesWith code lost lists from to s → bytes ≡ slice_range (s f) from to
