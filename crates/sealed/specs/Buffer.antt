-- The bytes of a run that is shared or has one owner.
use Rattle.std.specs.Prelude.{ℕ, List}
use Rattle.sealed.specs.declared.buffer.Held.{Held}
use Rattle.sealed.specs.declared.buffer.Held.TheVariants.{Shared, Own}

abbrev pub bytes_of : Held → List ℕ
bytes_of (Shared bytes) = bytes
bytes_of (Own bytes) = bytes.items
