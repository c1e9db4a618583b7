-- A value that differs from another in one slot.
use Rattle.std.specs.Prelude.{◌≡◌, ℕ, List, Option, if◌then◌else◌, ◌==◌, ◌&&◌}
use Rattle.sealed.specs.declared.value.Sealed.{Sealed}
use Rattle.sealed.specs.Stripes.{fragment_at}

-- the new value has x in the slot of fragment f of stripe j, and is otherwise the old one
pub record IsChanged (old : Sealed) (j f : ℕ) (x : Option (List ℕ)) (new : Sealed) : Type 0 where
  pub version : new.version ≡ old.version
  pub len : new.len ≡ old.len
  pub width : new.width ≡ old.width
  pub code : new.code ≡ old.code
  pub fragments : (i g : ℕ) → fragment_at new.stripes i g ≡ (if (i == j) && (g == f) then x else fragment_at old.stripes i g)
