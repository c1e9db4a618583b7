-- The column of given data bytes.
use Rattle.std.specs.Prelude.{ℕ, ◌-◌, nat_lt, if◌then◌else◌}
use Rattle.gf256.specs.Field.{product}
use Rattle.lrc_code.specs.declared.Code.{Code}
use Rattle.lrc_code.specs.Code.{data_count, xor_sum, weight}

-- the parity that equation e gives for these data bytes: their sum, each times what it weighs there
abbrev pub parity_of : Code → ℕ → (ℕ → ℕ) → ℕ
parity_of code e d = xor_sum (data_count code) (λ i. product (weight code e i) (d i))

-- the column of these data bytes: the data, and then the parity of each equation
abbrev pub column : Code → (ℕ → ℕ) → ℕ → ℕ
column code d i = if nat_lt i (data_count code) then d i else parity_of code (i - data_count code) d
