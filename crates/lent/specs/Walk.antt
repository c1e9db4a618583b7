-- Walks: the parts ahead, and the result of a step.
use Rattle.std.specs.Prelude.{◌≡◌, ℕ, true, List, [], ◌∷◌, ◌++◌, map, Option, None, Some, slice_index_or}
use Rattle.std.specs.List.{list_any}
use Rattle.sealed.specs.declared.value.Sealed.{Sealed}
use Rattle.sealed.specs.Stripes.{fragment_at}
use Rattle.sealed.specs.Blob.{Lost}
use Rattle.sealed.specs.Sealed.{StandsFor, absent_in}
use Rattle.lent.specs.declared.part.Part.{Part}
use Rattle.lent.specs.declared.piece.Piece.{Piece}
use Rattle.lent.specs.Cut.{all_numbers}
use Rattle.lent.specs.Pieces.{IsPieceOf, bytes_in_piece}
use Rattle.lent.specs.Ahead.{Ahead}

-- the walk returned the piece of the first part ahead, and has the others ahead
pub record Gives (old new : Ahead) (piece : Piece) : Type 0 where
  pub part : Part
  pub next : old.parts ≡ part ∷ new.parts
  pub is : IsPieceOf old.sealed part piece
  pub same : new.sealed ≡ old.sealed

-- one step: a piece, or the end
abbrev pub IsStep : Ahead → Ahead → Option Piece → Type 0
IsStep old new None = (old.parts ≡ []) × (new ≡ old)
IsStep old new (Some piece) = Gives old new piece

-- the fragment of the first part ahead is absent
abbrev pub IsAbsent : Sealed → List Part → Type 0
IsAbsent s [] = ⊥
IsAbsent s (part ∷ parts) = fragment_at s.stripes part.stripe part.fragment ≡ None

-- the fragment of some part is absent
abbrev pub HasAbsent : Sealed → List Part → Type 0
HasAbsent s parts = list_any (λ part. absent_in s part.stripe part.fragment) parts ≡ true

-- the bytes of b that lie ahead
abbrev pub bytes_ahead : Ahead → List ℕ → List ℕ
bytes_ahead ahead b = map (λ i. slice_index_or b i 0) (all_numbers ahead.sealed.code ahead.sealed.width ahead.parts)

-- in each blob that the value represents, the piece is exactly the bytes that were ahead and no
-- longer are
abbrev pub Joins : Ahead → Ahead → Piece → Type 0
Joins old new piece = (b : List ℕ) (lost : Lost) → StandsFor old.sealed b lost → bytes_ahead old b ≡ bytes_in_piece piece ++ bytes_ahead new b

-- the pieces are those of the parts, in order
abbrev pub ArePieces : Sealed → List Part → List Piece → Type 0
ArePieces s [] [] = Unit {0}
ArePieces s (part ∷ parts) (piece ∷ pieces) = IsPieceOf s part piece × ArePieces s parts pieces
ArePieces s parts pieces = ⊥
