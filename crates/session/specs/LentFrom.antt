-- A granted range that is lent: bytes in fragments, and rebuilt bytes.
use Rattle.std.specs.Prelude.{◌≡◌, ℕ, List, [], ◌∷◌, map, Option, None, Some}
use Rattle.std.specs.List.{concat}
use Rattle.std.specs.declared.vec.Vec.{Vec}
use Rattle.std.specs.declared.alloc.Global.{Global}
use Rattle.sealed.specs.Blob.{Lost}
use Rattle.sealed.specs.Sealed.{StandsFor}
use Rattle.lent.specs.declared.grant.Grant.{Grant}
use Rattle.lent.specs.declared.part.Part.{Part}
use Rattle.lent.specs.declared.piece.Piece.{Piece}
use Rattle.lent.specs.declared.piece.Piece.TheVariants.{Lent, Built}
use Rattle.lent.specs.Granted.{cut_of, range_of}
use Rattle.lent.specs.Pieces.{bytes_in_piece}
use Rattle.lent.specs.Walk.{ArePieces}

abbrev pub lists_of : List (Vec ℕ Global) → List (List ℕ)
lists_of vs = map (λ v. v.items) vs

-- the bytes of a part: those of its fragment, or the rebuilt ones
abbrev pub chosen : Part × Option (List ℕ) → List ℕ → List ℕ
chosen (part, Some x) rebuilt = x
chosen (part, None) rebuilt = rebuilt

-- those of each part, in order
abbrev pub pieces_of : List (Part × Option (List ℕ)) → List (List ℕ) → List (List ℕ)
pieces_of [] rebuilt = []
pieces_of (span ∷ spans) [] = []
pieces_of (span ∷ spans) (bytes ∷ rebuilt) = chosen span bytes ∷ pieces_of spans rebuilt

-- the rebuilt bytes of a piece
abbrev pub needed : Piece → List ℕ
needed (Lent r) = []
needed (Built v) = v.items

-- These are the bytes of the grant's pieces. Each piece lies in a present fragment, or was rebuilt.
-- Joined they are the bytes of the range, in each blob that the value represents
pub record IsLentFrom (g : Grant) (lent : List (List ℕ)) : Type 0 where
  pub pieces : List Piece
  pub are : ArePieces g.sealed.value (cut_of g) pieces
  pub lent_is : lent ≡ map bytes_in_piece pieces
  pub range_is : (b : List ℕ) (lost : Lost) → StandsFor g.sealed.value b lost → concat lent ≡ range_of g b

-- these are the rebuilt bytes of the grant's pieces
pub record HasRebuilt (g : Grant) (rebuilt : List (List ℕ)) : Type 0 where
  pub pieces : List Piece
  pub are : ArePieces g.sealed.value (cut_of g) pieces
  pub rebuilt_is : rebuilt ≡ map needed pieces
  pub range_is : (b : List ℕ) (lost : Lost) → StandsFor g.sealed.value b lost → concat (map bytes_in_piece pieces) ≡ range_of g b
