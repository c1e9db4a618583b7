-- Lists of bytes: the column of their bytes at one place, and sums over a column.
use Rattle.std.specs.Prelude.{ℕ, zero, suc, List, [], length, slice_index, slice_index_or, bit_xor}
use Rattle.gf256.specs.Field.{product}

-- the sum of g 0 to g (n - 1)
unfoldable pub xor_sum : ℕ → (ℕ → ℕ) → ℕ
xor_sum zero g = 0
xor_sum (suc n) g = bit_xor (xor_sum n g) (g n)

abbrev pub list_at : List (List ℕ) → ℕ → List ℕ
list_at lists i = slice_index_or lists i []

-- the bytes of the lists at place k
abbrev pub bytes_at : List (List ℕ) → ℕ → ℕ → ℕ
bytes_at lists k i = slice_index (list_at lists i) k

-- the sum of a column, each byte times its coefficient
abbrev pub combined : List ℕ → (ℕ → ℕ) → ℕ
combined coefficients column = xor_sum (length coefficients) (λ i. product (slice_index coefficients i) (column i))
