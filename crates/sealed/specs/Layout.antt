-- The layout: where the bytes of a blob lie. Stripes, fragments and indices are numbers from 0.
use Rattle.lrc_code.specs.Code.{data_count, fragment_count}
use Rattle.std.specs.Prelude.{ℕ, ◌+◌, ◌-◌, ◌*◌, ◌/◌, ◌%◌, ◌<◌}
use Rattle.lrc_code.specs.declared.Code.{Code}

-- how many bytes of a blob a stripe holds: w in each of its data fragments
abbrev pub stripe_size : Code → ℕ → ℕ
stripe_size code w = data_count code * w

-- how many stripes a blob of this length has. An empty blob has none
abbrev pub stripe_count : Code → ℕ → ℕ → ℕ
stripe_count code w len = (len + stripe_size code w - 1) / stripe_size code w

-- a blob of this length has the stripe j, and its code the fragment f
abbrev pub HasFragment : Code → ℕ → ℕ → ℕ → ℕ → Type 0
HasFragment code w len j f = (j < stripe_count code w len) × (f < fragment_count code)

-- byte i of a blob lies in this stripe, in this data fragment of it, and at this index of the
-- fragment
abbrev pub stripe_of : Code → ℕ → ℕ → ℕ
stripe_of code w i = i / stripe_size code w

abbrev pub fragment_of : Code → ℕ → ℕ → ℕ
fragment_of code w i = (i % stripe_size code w) / w

abbrev pub place_of : ℕ → ℕ → ℕ
place_of w i = i % w

-- the inverse: which byte lies at index p of data fragment f of stripe j
abbrev pub byte_of : Code → ℕ → ℕ → ℕ → ℕ → ℕ
byte_of code w j f p = stripe_size code w * j + w * f + p
