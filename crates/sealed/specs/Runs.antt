-- Runs: bytes of a blob that lie one behind another in memory.
use Rattle.std.specs.Prelude.{◌≡◌, ℕ, ◌+◌, ◌-◌, ◌<◌, Bool, List, Option, Some, length, slice_index_or}
use Rattle.std.specs.Option.{option_map}
use Rattle.lrc_code.specs.declared.Code.{Code}
use Rattle.sealed.specs.declared.value.Sealed.{Sealed}
use Rattle.sealed.specs.Layout.{stripe_of, fragment_of, place_of}
use Rattle.sealed.specs.Stripes.{Stripes, fragment_at}
use Rattle.sealed.specs.Sealed.{absent_in}

-- byte i of the data that the stripes hold, or None if its fragment is absent
abbrev pub byte_in : Code → ℕ → Stripes → ℕ → Option ℕ
byte_in code w stripes i = option_map (λ x. slice_index_or x (place_of w i) 0) (fragment_at stripes (stripe_of code w i) (fragment_of code w i))

-- these are the bytes of the data from byte `start` on, each in a fragment that is present
abbrev pub IsDataFrom : Code → ℕ → Stripes → ℕ → List ℕ → Type 0
IsDataFrom code w stripes start bytes = (i : ℕ) → i < length bytes → byte_in code w stripes (start + i) ≡ Some (slice_index_or bytes i 0)

-- the value lacks the fragment of byte i
abbrev pub is_absent_at : Sealed → ℕ → Bool
is_absent_at s i = absent_in s (stripe_of s.code s.width i) (fragment_of s.code s.width i)

-- how many bytes there are from byte i to the end of its fragment
abbrev pub rest_at : ℕ → ℕ → ℕ
rest_at w i = w - place_of w i
