-- The pieces that a walk has returned so far.
use Rattle.std.proofs.Common.{◌≡◌, ℕ, ◌<◌, ◌||◌, Bool, true, false, List, [], ◌∷◌, ◌++◌, Option, None, Some, length, refl, sym, ap, ◌∙◌, subst, arith, append_assoc, append-nil, length-append}
use Rattle.sealed.specs.declared.value.Sealed.{Sealed}
use Rattle.sealed.specs.Blob.{Lost}
use Rattle.sealed.specs.Sealed.{StandsFor, absent_in}
use Rattle.lent.specs.declared.part.Part.{Part}
use Rattle.lent.specs.declared.piece.Piece.{Piece}
use Rattle.lent.specs.Ahead.{Ahead}
use Rattle.lent.specs.Pieces.{IsPieceOf, bytes_in_piece, joined}
use Rattle.lent.specs.Walk.{Gives, IsStep, IsAbsent, HasAbsent, Joins, ArePieces, bytes_ahead}

are_more : (s : Sealed) (done : List Part) (pieces : List Piece) (part : Part) (piece : Piece) → ArePieces s done pieces → IsPieceOf s part piece → ArePieces s (done ++ part ∷ []) (pieces ++ piece ∷ [])
are_more s [] [] part piece are is = (is, tt)
are_more s [] (one ∷ pieces) part piece are is = absurd are
are_more s (first ∷ done) [] part piece are is = absurd are
are_more s (first ∷ done) (one ∷ pieces) part piece are is = (are.0, are_more s done pieces part piece are.1 is)

joined_more : (pieces : List Piece) (piece : Piece) → joined (pieces ++ piece ∷ []) ≡ joined pieces ++ bytes_in_piece piece
joined_more [] piece = append-nil (bytes_in_piece piece)
joined_more (one ∷ pieces) piece = ap (λ xs. bytes_in_piece one ++ xs) (joined_more pieces piece) ∙ sym (append_assoc (bytes_in_piece one) (joined pieces) (bytes_in_piece piece))

-- a step that gave no piece is the end
pub at_end : (old new : Ahead) (found : Option Piece) → IsStep old new found → ((piece : Piece) → found ≡ Some piece → ⊥) → old.parts ≡ []
at_end old new None is none = is.0
at_end old new (Some piece) is none = absurd (none piece refl)

-- a walk that began at `first` and is at `now` has returned these pieces
pub record Collects (first now : Ahead) (pieces : List Piece) : Type 0 where
  pub done : List Part
  pub rest : done ++ now.parts ≡ first.parts
  pub are : ArePieces first.sealed done pieces
  pub same : now.sealed ≡ first.sealed
  pub bytes : (b : List ℕ) (lost : Lost) → StandsFor first.sealed b lost → joined pieces ++ bytes_ahead now b ≡ bytes_ahead first b

pub begun : (first : Ahead) → Collects first first []
begun first = record { done = []; rest = refl; are = tt; same = refl; bytes = λ b lost stands. refl }

pub one_more : (first old new : Ahead) (pieces : List Piece) (piece : Piece) → Collects first old pieces → Gives old new piece → Joins old new piece → Collects first new (pieces ++ piece ∷ [])
one_more first old new pieces piece before gives joins =
    record {
      done = before.done ++ gives.part ∷ [];
      rest = append_assoc before.done (gives.part ∷ []) new.parts ∙ ap (λ ps. before.done ++ ps) (sym gives.next) ∙ before.rest;
      are = are_more first.sealed before.done pieces gives.part piece before.are (subst (λ s. IsPieceOf s gives.part piece) before.same gives.is);
      same = gives.same ∙ before.same;
      bytes = λ b lost stands.
          ap (λ xs. xs ++ bytes_ahead new b) (joined_more pieces piece)
          ∙ append_assoc (joined pieces) (bytes_in_piece piece) (bytes_ahead new b)
          ∙ ap (λ xs. joined pieces ++ xs) (sym (joins b lost (subst (λ s. StandsFor s b lost) (sym before.same) stands)))
          ∙ before.bytes b lost stands;
    }

pub fewer : (old new : Ahead) (piece : Piece) → Gives old new piece → length new.parts < length old.parts
fewer old new piece gives = let e : length old.parts ≡ length (gives.part ∷ new.parts) = ap length gives.next in omega arith

nothing_ahead : (now : Ahead) → now.parts ≡ [] → (b : List ℕ) → bytes_ahead now b ≡ []
nothing_ahead now none b = ap (λ parts. bytes_ahead (record { sealed = now.sealed; parts = parts }) b) none

pub all_pieces : (first now : Ahead) (pieces : List Piece) → Collects first now pieces → now.parts ≡ [] → ArePieces first.sealed first.parts pieces
all_pieces first now pieces collects none =
    subst (λ parts. ArePieces first.sealed parts pieces) (sym (append-nil collects.done) ∙ ap (λ ps. collects.done ++ ps) (sym none) ∙ collects.rest) collects.are

pub all_bytes : (first now : Ahead) (pieces : List Piece) → Collects first now pieces → now.parts ≡ [] → (b : List ℕ) (lost : Lost) → StandsFor first.sealed b lost → joined pieces ≡ bytes_ahead first b
all_bytes first now pieces collects none b lost stands =
    sym (append-nil (joined pieces)) ∙ ap (λ xs. joined pieces ++ xs) (sym (nothing_ahead now none b)) ∙ collects.bytes b lost stands

-- ---- why there was no memory
or_right : (a b : Bool) → b ≡ true → (a || b) ≡ true
or_right true b e = refl
or_right false b e = e

first_absent : (s : Sealed) (parts : List Part) → IsAbsent s parts → HasAbsent s parts
first_absent s [] absent = absurd absent
first_absent s (part ∷ parts) absent = rw absent refl

absent_behind : (s : Sealed) (done rest : List Part) → HasAbsent s rest → HasAbsent s (done ++ rest)
absent_behind s [] rest has = has
absent_behind s (part ∷ done) rest has = or_right (absent_in s part.stripe part.fragment) _ (absent_behind s done rest has)

-- a fragment that is absent ahead is absent in the range
pub absent_ahead : (first now : Ahead) (pieces : List Piece) → Collects first now pieces → IsAbsent now.sealed now.parts → HasAbsent first.sealed first.parts
absent_ahead first now pieces collects absent =
    subst (HasAbsent first.sealed) collects.rest (absent_behind first.sealed collects.done now.parts (first_absent first.sealed now.parts (subst (λ s. IsAbsent s now.parts) collects.same absent)))

length_of_pieces : (s : Sealed) (parts : List Part) (pieces : List Piece) → ArePieces s parts pieces → length pieces ≡ length parts
length_of_pieces s [] [] are = refl
length_of_pieces s [] (piece ∷ pieces) are = absurd are
length_of_pieces s (part ∷ parts) [] are = absurd are
length_of_pieces s (part ∷ parts) (piece ∷ pieces) are = let same = length_of_pieces s parts pieces are.1 in omega arith

-- a piece more than there were is of a part more
pub one_part_more : (first old new : Ahead) (pieces : List Piece) (piece : Piece) → Collects first old pieces → Gives old new piece → length pieces < length first.parts
one_part_more first old new pieces piece collects gives =
    omega (arith, length_of_pieces first.sealed collects.done pieces collects.are, ap length collects.rest, ap length gives.next, length-append collects.done old.parts)
