-- The fragments that a snapshot has.
use Rattle.std.specs.Prelude.{◌≡◌, ℕ, false}
use Rattle.sealed.specs.declared.value.Sealed.{Sealed}
use Rattle.sealed.specs.Layout.{HasFragment}
use Rattle.sealed.specs.Sealed.{absent_in}

-- the blob has the fragment f of stripe j, and the value does not lack it
abbrev pub HasPresent : Sealed → ℕ → ℕ → Type 0
HasPresent s j f = HasFragment s.code s.width s.len j f × (absent_in s j f ≡ false)
