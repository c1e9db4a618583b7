-- A line that has the products of a byte with all bytes.
use Rattle.std.specs.Prelude.{◌≡◌, ℕ, List, length, EachIndex, slice_index}
use Rattle.gf256.specs.Field.{product}
use Rattle.hex.specs.Hex.{encode_lower}

-- those of a with 0, 1 and so on to 255, in two lower-case digits each
pub record HasProducts (a : ℕ) (line : List ℕ) : Type 0 where
  pub products : List ℕ
  pub count : length products ≡ 256
  pub each : EachIndex products (λ b. slice_index products b ≡ product a b)
  pub text : line ≡ encode_lower products
