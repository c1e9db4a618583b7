-- What contracts see of a walk.
use Rattle.std.specs.Prelude.{List}
use Rattle.sealed.specs.declared.value.Sealed.{Sealed}
use Rattle.lent.specs.declared.part.Part.{Part}

-- the sealed value, and the parts that are still ahead
pub record Ahead : Type 0 where
  pub sealed : Sealed
  pub parts : List Part
