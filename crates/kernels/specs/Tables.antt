-- Tables of products.
use Rattle.std.specs.Prelude.{◌≡◌, ℕ, ◌*◌, ◌%◌, ◌<◌, List, [], length, slice_index, slice_index_or}
use Rattle.gf256.specs.Field.{product}
use Rattle.kernels.specs.declared.lanes.TheConstants.{LANES}

-- table i has the products of coefficient i with the lower halves of bytes, or with the upper ones, once in each sixteen lanes
abbrev pub AreLow : List ℕ → List (List ℕ) → Type 0
AreLow coefficients tables = (i k : ℕ) → i < length coefficients → k < LANES → slice_index (slice_index_or tables i []) k ≡ product (slice_index coefficients i) (k % 16)

abbrev pub AreHigh : List ℕ → List (List ℕ) → Type 0
AreHigh coefficients tables = (i k : ℕ) → i < length coefficients → k < LANES → slice_index (slice_index_or tables i []) k ≡ product (slice_index coefficients i) (16 * (k % 16))
