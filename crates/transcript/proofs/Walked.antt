-- The pieces of a walk, one after the other.
use Rattle.std.proofs.Common.{◌≡◌, ◌∙◌, ◌+◌, ◌<◌, ◌^◌, ◌∷◌, ◌++◌, ℕ, Bool, true, false, cond, List, length, Option, Some, None, ap, refl, sym, append_assoc, subst, arith}
use Rattle.std.specs.Prelude.{is_some, not, count_by}
use Rattle.std.proofs.lemmas.List.Sums.{sum_by-cons}
use Rattle.sealed.specs.declared.value.Sealed.{Sealed}
use Rattle.sealed.specs.Blob.{Lost}
use Rattle.sealed.specs.Sealed.{StandsFor}
use Rattle.sealed.specs.Stripes.{fragment_at}
use Rattle.lent.specs.declared.part.Part.{Part}
use Rattle.lent.specs.declared.piece.Piece.{Piece}
use Rattle.lent.specs.declared.piece.Piece.TheVariants.{Lent, Built}
use Rattle.lent.specs.Ahead.{Ahead}
use Rattle.lent.specs.Pieces.{bytes_in_piece, IsPieceBy}
use Rattle.lent.specs.Walk.{Gives, Joins, bytes_ahead}
use Rattle.transcript.specs.Lines.{is_lent, is_there, TakesIn}
use Rattle.transcript.specs.declared.line.Reading.{Reading}

-- what is done and the parts ahead are the whole, for each blob that the value represents
abbrev pub IsSplit : Sealed → (List ℕ → List ℕ) → List ℕ → Ahead → Type 0
IsSplit s whole done ahead =
    (ahead.sealed ≡ s) × ((b : List ℕ) (lost : Lost) → StandsFor s b lost → whole b ≡ done ++ bytes_ahead ahead b)

pub split-more : (s : Sealed) (whole : List ℕ → List ℕ) (done more : List ℕ) (old new : Ahead) (piece : Piece) → IsSplit s whole done old
    → Gives old new piece → Joins old new piece → more ≡ done ++ bytes_in_piece piece → IsSplit s whole more new
split-more s whole done more old new piece split gives joins is = (
  gives.same ∙ split.0,
  λ b lost stands.
      let P : Sealed → Type 0 = λ t. StandsFor t b lost in
      let next : bytes_ahead old b ≡ bytes_in_piece piece ++ bytes_ahead new b = joins b lost (subst P (sym split.0) stands) in
      split.1 b lost stands ∙ ap (λ (x : List ℕ). done ++ x) next ∙ sym (append_assoc done (bytes_in_piece piece) (bytes_ahead new b))
      ∙ ap (λ (x : List ℕ). x ++ bytes_ahead new b) (sym is),
)

-- ---- how many are lent, and how many built
there_is : (s : Sealed) (part : Part) (found : Option (List ℕ)) (piece : Piece) → IsPieceBy s part found piece → is_some found ≡ is_lent piece
there_is s part (Some x) (Lent r) is = refl
there_is s part None (Built v) is = refl
there_is s part None (Lent r) is = absurd is
there_is s part (Some x) (Built v) is = absurd is

-- the piece is that of the first part ahead
pub record CountsOne (s : Sealed) (old new : Ahead) (piece : Piece) : Type 0 where
  pub lent : count_by (is_there s) old.parts ≡ cond (is_lent piece) 1 0 + count_by (is_there s) new.parts
  pub built : count_by (λ p. not (is_there s p)) old.parts ≡ cond (not (is_lent piece)) 1 0 + count_by (λ p. not (is_there s p)) new.parts
  pub all : length old.parts ≡ 1 + length new.parts

pub counts-one : (s : Sealed) (old new : Ahead) (piece : Piece) → old.sealed ≡ s → Gives old new piece → CountsOne s old new piece
counts-one s old new piece same gives =
    let there : is_there s gives.part ≡ is_lent piece =
    ap (λ (t : Sealed). is_there t gives.part) (sym same) ∙ there_is old.sealed gives.part (fragment_at old.sealed.stripes gives.part.stripe gives.part.fragment) piece gives.is in
    record {
      lent = ap (count_by (is_there s)) gives.next ∙ sum_by-cons (λ p. cond (is_there s p) 1 0) gives.part new.parts ∙ ap (λ t. cond t 1 0 + count_by (is_there s) new.parts) there;
      built = ap (count_by (λ p. not (is_there s p))) gives.next ∙ sum_by-cons (λ p. cond (not (is_there s p)) 1 0) gives.part new.parts
          ∙ ap (λ t. cond (not t) 1 0 + count_by (λ p. not (is_there s p)) new.parts) there;
      all = let e : length old.parts ≡ length (gives.part ∷ new.parts) = ap length gives.next in omega arith;
    }

-- the reading so far: with the parts ahead it makes up the whole, and all of its parts
pub record IsReadSoFar (s : Sealed) (whole : List ℕ → List ℕ) (parts : List Part) (r : Reading) (ahead : Ahead) : Type 0 where
  pub version : r.version ≡ s.version
  pub split : IsSplit s whole r.bytes.items ahead
  pub lent : r.lent + count_by (is_there s) ahead.parts ≡ count_by (is_there s) parts
  pub built : r.built + count_by (λ p. not (is_there s p)) ahead.parts ≡ count_by (λ p. not (is_there s p)) parts
  pub few : r.lent + r.built + length ahead.parts < 2 ^ 64

one_of_two : (b : Bool) → cond b 1 0 + cond (not b) 1 0 ≡ 1
one_of_two true = refl
one_of_two false = refl

-- with each piece more is read
pub read_on : (s : Sealed) (whole : List ℕ → List ℕ) (parts : List Part) (r more : Reading) (old new : Ahead) (piece : Piece) → IsReadSoFar s whole parts r old
    → Gives old new piece → Joins old new piece → TakesIn r piece more → IsReadSoFar s whole parts more new
read_on s whole parts r more old new piece so_far gives joins takes =
    let one = counts-one s old new piece so_far.split.0 gives in
    let both = one_of_two (is_lent piece) in
    record {
      version = takes.version ∙ so_far.version;
      split = split-more s whole r.bytes.items more.bytes.items old new piece so_far.split gives joins takes.bytes;
      lent = omega (arith, takes.lent, one.lent, so_far.lent);
      built = omega (arith, takes.built, one.built, so_far.built);
      few = omega (arith, takes.lent, takes.built, both, one.all, so_far.few);
    }
