-- Runs: the pieces of parts that lie one behind another in memory.
use Rattle.std.specs.Prelude.{◌≡◌, ℕ, ◌*◌, List, [], ◌∷◌, ◌++◌, Option, None, Some, min, max}
use Rattle.sealed.specs.Stripes.{fragment_at}
use Rattle.lent.specs.declared.part.Part.{Part}
use Rattle.lent.specs.declared.piece.Piece.{Piece}
use Rattle.lent.specs.declared.piece.Piece.TheVariants.{Lent, Built}
use Rattle.lent.specs.Ahead.{Ahead}

-- bytes of a present fragment are lent, with those of any parts behind it. A part of a lost fragment
-- is built alone
abbrev pub IsRunBy : Option (List ℕ) → List Part → Piece → Type 0
IsRunBy (Some x) more (Lent r) = Unit {0}
IsRunBy None more (Built v) = more ≡ []
IsRunBy found more piece = ⊥

-- the walk returned the piece of the first parts ahead, at least one, and has the others ahead
pub record GivesRun (old new : Ahead) (piece : Piece) : Type 0 where
  pub first : Part
  pub more : List Part
  pub next : old.parts ≡ first ∷ more ++ new.parts
  pub is : IsRunBy (fragment_at old.sealed.stripes first.stripe first.fragment) more piece
  pub same : new.sealed ≡ old.sealed

-- one step: a run, or the end
abbrev pub IsRunStep : Ahead → Ahead → Option Piece → Type 0
IsRunStep old new None = (old.parts ≡ []) × (new ≡ old)
IsRunStep old new (Some piece) = GivesRun old new piece

-- where the part of the k-th data fragment begins in the blob, in a range between these bytes, and
-- behind the last part the range's end
abbrev pub begin_at : ℕ → ℕ → ℕ → ℕ → ℕ
begin_at w start end k = min end (max start (k * w))
