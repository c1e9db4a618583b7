-- The four parities of twelve lists, which stand in two groups of six.
use Rattle.std.specs.Prelude.{◌≡◌, ℕ, ◌<◌, List, [], ◌∷◌, slice_index, slice_index_or}
use Rattle.gf256.specs.Field.{product}
use Rattle.kernels.specs.Lists.{xor_sum, bytes_at}

-- What the parities multiply the lists by. The first is the sum of the first group, the second that of the second. The third multiplies a
-- list of the first group by its number there, counted from 1, and one of the second group by 16 times that; the fourth by the squares.
abbrev pub parity_coefficients : List (List ℕ)
parity_coefficients =
    (1 ∷ 1 ∷ 1 ∷ 1 ∷ 1 ∷ 1 ∷ 0 ∷ 0 ∷ 0 ∷ 0 ∷ 0 ∷ 0 ∷ [])
    ∷ (0 ∷ 0 ∷ 0 ∷ 0 ∷ 0 ∷ 0 ∷ 1 ∷ 1 ∷ 1 ∷ 1 ∷ 1 ∷ 1 ∷ [])
    ∷ (0x01 ∷ 0x02 ∷ 0x03 ∷ 0x04 ∷ 0x05 ∷ 0x06 ∷ 0x10 ∷ 0x20 ∷ 0x30 ∷ 0x40 ∷ 0x50 ∷ 0x60 ∷ [])
    ∷ (0x01 ∷ 0x04 ∷ 0x05 ∷ 0x10 ∷ 0x11 ∷ 0x14 ∷ 0x1D ∷ 0x74 ∷ 0x69 ∷ 0xCD ∷ 0xD0 ∷ 0xB9 ∷ [])
    ∷ []

-- parity e of a column of twelve bytes
abbrev pub parity : ℕ → (ℕ → ℕ) → ℕ
parity e column = xor_sum 12 (λ i. product (slice_index (slice_index_or parity_coefficients e []) i) (column i))

-- at place k the four lists have the parities of the twelve
abbrev pub AreParitiesOfTwelve : List (List ℕ) → List (List ℕ) → ℕ → Type 0
AreParitiesOfTwelve sources parities k = (e : ℕ) → e < 4 → bytes_at parities k e ≡ parity e (bytes_at sources k)
