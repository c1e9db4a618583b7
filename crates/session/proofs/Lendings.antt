-- Pieces that are lent, and the rebuilt bytes for them.
use Rattle.std.proofs.Common.{◌≡◌, ◌+◌, ◌-◌, ◌<◌, ◌≤◌, ℕ, min, List, [], ◌∷◌, ◌++◌, map, length, take, drop, set, get_or, Option, None, Some, refl, sym, ap, ◌∙◌, subst, arith}
use Rattle.std.proofs.lemmas.List.{length-map, length-set, take_more_set, drop-set-lt, map-append, take_all, length-drop, drop-drop, at_drop_more, take_more}
use Rattle.std.specs.List.{concat}
use Rattle.std.specs.declared.vec.Vec.{Vec}
use Rattle.std.specs.declared.alloc.Global.{Global}
use Rattle.sealed.specs.declared.value.Sealed.{Sealed}
use Rattle.sealed.specs.Sealed.{StandsFor}
use Rattle.sealed.specs.Stripes.{fragment_at}
use Rattle.lent.specs.declared.grant.Grant.{Grant}
use Rattle.lent.specs.declared.part.Part.{Part}
use Rattle.lent.specs.declared.piece.Piece.{Piece}
use Rattle.lent.specs.declared.piece.Piece.TheVariants.{Lent, Built}
use Rattle.lent.specs.Ahead.{Ahead}
use Rattle.lent.specs.Granted.{cut_of, range_of}
use Rattle.lent.specs.Pieces.{IsPieceBy, bytes_in_piece, joined}
use Rattle.lent.specs.Spans.{span_of, spans_of}
use Rattle.lent.specs.Walk.{ArePieces, Gives, Joins, bytes_ahead}
use Rattle.lent.proofs.Collecting.{Collects, all_pieces, all_bytes}
use Rattle.lent.proofs.Collecting as collecting
use Rattle.session.specs.declared.lending.LentSlice.{LentSlice}
use Rattle.session.specs.LentFrom.{chosen, pieces_of, needed, lists_of, IsLentFrom, HasRebuilt}

-- ---- lengths
pub piece_count : (spans : List (Part × Option (List ℕ))) (rebuilt : List (List ℕ)) → length rebuilt ≡ length spans → length (pieces_of spans rebuilt) ≡ length spans
piece_count [] rebuilt e = refl
piece_count (span ∷ spans) [] e = e
piece_count (span ∷ spans) (bytes ∷ rebuilt) e = let tail : length rebuilt ≡ length spans = omega (arith, e) in omega (arith, piece_count spans rebuilt tail)

pub counted : (s : Sealed) (parts : List Part) (vs : List (Vec ℕ Global)) → length vs ≡ length parts → length (pieces_of (spans_of s parts) (lists_of vs)) ≡ length vs
counted s parts vs e =
    let spans : length (spans_of s parts) ≡ length parts = length-map parts (span_of s) in
    let items : length (lists_of vs) ≡ length vs = length-map vs _ in
    piece_count (spans_of s parts) (lists_of vs) (items ∙ e ∙ sym spans) ∙ spans ∙ sym e

-- ---- rebuilding
needed_more : (pieces : List Piece) (piece : Piece) → map needed (pieces ++ piece ∷ []) ≡ map needed pieces ++ needed piece ∷ []
needed_more [] piece = refl
needed_more (one ∷ pieces) piece = ap (λ xs. needed one ∷ xs) (needed_more pieces piece)

items_more : (vs : List (Vec ℕ Global)) (v : Vec ℕ Global) → lists_of (vs ++ v ∷ []) ≡ lists_of vs ++ v.items ∷ []
items_more [] v = refl
items_more (one ∷ vs) v = ap (λ xs. one.items ∷ xs) (items_more vs v)

joined_is : (pieces : List Piece) → concat (map bytes_in_piece pieces) ≡ joined pieces
joined_is [] = refl
joined_is (piece ∷ pieces) = ap (λ xs. bytes_in_piece piece ++ xs) (joined_is pieces)

-- a walk from `first` to `now` has returned these pieces, with these rebuilt bytes
pub record IsRebuilding (first now : Ahead) (vs : List (Vec ℕ Global)) : Type 0 where
  pub pieces : List Piece
  pub collects : Collects first now pieces
  pub items_are : lists_of vs ≡ map needed pieces

pub begun : (first : Ahead) → IsRebuilding first first []
begun first = record { pieces = []; collects = collecting.begun first; items_are = refl }

pub one_more : (first old new : Ahead) (vs : List (Vec ℕ Global)) (piece : Piece) (v : Vec ℕ Global) → IsRebuilding first old vs → Gives old new piece → Joins old new piece → v.items ≡ needed piece
    → IsRebuilding first new (vs ++ v ∷ [])
one_more first old new vs piece v before gives joins is = record {
  pieces = before.pieces ++ piece ∷ [];
  collects = collecting.one_more first old new before.pieces piece before.collects gives joins;
  items_are = items_more vs v ∙ (λ i. before.items_are i ++ is i ∷ []) ∙ sym (needed_more before.pieces piece);
}

pub rebuilt_all : (g : Grant) (first now : Ahead) (vs : List (Vec ℕ Global)) → first.sealed ≡ g.sealed.value → first.parts ≡ cut_of g
    → ((b : List ℕ) → length b ≡ g.sealed.value.len → bytes_ahead first b ≡ range_of g b) → IsRebuilding first now vs → now.parts ≡ [] → HasRebuilt g (lists_of vs)
rebuilt_all g first now vs sealed_is parts_are bytes is none = record {
  pieces = is.pieces;
  are = subst (λ (parts : List Part). ArePieces g.sealed.value parts is.pieces) parts_are (subst (λ (s : Sealed). ArePieces s first.parts is.pieces) sealed_is (all_pieces first now is.pieces is.collects none));
  rebuilt_is = is.items_are;
  range_is = λ b lost stands. joined_is is.pieces
      ∙ all_bytes first now is.pieces is.collects none b lost (subst (λ (s : Sealed). StandsFor s b lost) (sym sealed_is) stands) ∙ bytes b (sym stands.length_is);
}

-- ---- the pieces from both
chosen_is : (s : Sealed) (part : Part) (piece : Piece) (found : Option (List ℕ)) → fragment_at s.stripes part.stripe part.fragment ≡ found → IsPieceBy s part found piece
    → chosen (span_of s part) (needed piece) ≡ bytes_in_piece piece
chosen_is s part (Lent r) (Some x) e is = rw e (sym is)
chosen_is s part (Built v) None e is = rw e refl
chosen_is s part (Built v) (Some x) e is = absurd is
chosen_is s part (Lent r) None e is = absurd is

pub pieces_are : (s : Sealed) (parts : List Part) (pieces : List Piece) → ArePieces s parts pieces → pieces_of (spans_of s parts) (map needed pieces) ≡ map bytes_in_piece pieces
pieces_are s [] [] are = refl
pieces_are s [] (piece ∷ pieces) are = absurd are
pieces_are s (part ∷ parts) [] are = absurd are
pieces_are s (part ∷ parts) (piece ∷ pieces) are =
    λ i. chosen_is s part piece (fragment_at s.stripes part.stripe part.fragment) refl are.0 i ∷ pieces_are s parts pieces are.1 i

pub lent_from : (g : Grant) (rebuilt : List (List ℕ)) → HasRebuilt g rebuilt → IsLentFrom g (pieces_of (spans_of g.sealed.value (cut_of g)) rebuilt)
lent_from g rebuilt has =
    let e : pieces_of (spans_of g.sealed.value (cut_of g)) rebuilt ≡ map bytes_in_piece has.pieces =
    ap (pieces_of (spans_of g.sealed.value (cut_of g))) has.rebuilt_is ∙ pieces_are g.sealed.value (cut_of g) has.pieces has.are in
    record { pieces = has.pieces; are = has.are; lent_is = e; range_is = λ b lost stands. ap concat e ∙ has.range_is b lost stands }

pub pieces_count : (s : Sealed) (parts : List Part) (pieces : List Piece) → ArePieces s parts pieces → length pieces ≡ length parts
pieces_count s [] [] are = refl
pieces_count s [] (piece ∷ pieces) are = absurd are
pieces_count s (part ∷ parts) [] are = absurd are
pieces_count s (part ∷ parts) (piece ∷ pieces) are = omega (arith, pieces_count s parts pieces are.1)

pub aligned : (g : Grant) (vs : List (Vec ℕ Global)) → HasRebuilt g (lists_of vs) → length vs ≡ length (cut_of g)
aligned g vs has = sym (length-map vs _) ∙ ap length has.rebuilt_is ∙ length-map has.pieces needed ∙ pieces_count g.sealed.value (cut_of g) has.pieces has.are

-- ---- lending
some_left : (xs : List (List ℕ)) (at : ℕ) (x : List ℕ) (rest : List (List ℕ)) → drop at xs ≡ x ∷ rest → at < length xs
some_left xs at x rest e = let n : length xs - at ≡ length (x ∷ rest) = sym (length-drop at xs) ∙ ap length e in omega (arith, n)

dropped : (xs : List LentSlice) (at : ℕ) → drop (at + 1) xs ≡ drop 1 (drop at xs)
dropped xs at = sym (drop-drop 1 at xs)

abbrev pub bytes_in : LentSlice → List ℕ
bytes_in s = s.bytes.now

-- this many pieces were lent to the target, and these spans are ahead
pub record IsLending (pieces rebuilt : List (List ℕ)) (spans : List (Part × Option (List ℕ))) (at : ℕ) (before now : List LentSlice) : Type 0 where
  pub ahead : pieces_of spans (drop at rebuilt) ≡ drop at pieces
  pub left : at + length spans ≡ length rebuilt
  pub long : at ≤ length now
  pub lent : map bytes_in (take at now) ≡ take at pieces
  pub kept : drop at now ≡ drop at before
  pub same : length now ≡ length before

pub at_first : (spans : List (Part × Option (List ℕ))) (rebuilt : List (List ℕ)) (target : List LentSlice) → length spans ≡ length rebuilt → IsLending (pieces_of spans rebuilt) rebuilt spans 0 target target
at_first spans rebuilt target e = record { ahead = refl; left = omega (arith, e); long = omega arith; lent = refl; kept = refl; same = refl }

pub one_lent : (pieces rebuilt : List (List ℕ)) (span : Part × Option (List ℕ)) (spans : List (Part × Option (List ℕ))) (at : ℕ) (before now : List LentSlice) (slice : LentSlice) → IsLending pieces rebuilt (span ∷ spans) at before now
    → at < length now → bytes_in slice ≡ chosen span (get_or rebuilt at []) → IsLending pieces rebuilt spans (at + 1) before (set now at slice)
one_lent pieces rebuilt span spans at before now slice is inside bytes_are =
    let within : at < length rebuilt = omega (arith, is.left) in
    let head : drop at rebuilt ≡ get_or rebuilt at [] ∷ drop (at + 1) rebuilt = at_drop_more (λ (xs : List (List ℕ)). xs) rebuilt at [] within in
    let split : chosen span (get_or rebuilt at []) ∷ pieces_of spans (drop (at + 1) rebuilt) ≡ drop at pieces = sym (ap (pieces_of (span ∷ spans)) head) ∙ is.ahead in
    let some : at < length pieces = some_left pieces at (chosen span (get_or rebuilt at [])) (pieces_of spans (drop (at + 1) rebuilt)) (sym split) in
    let next : get_or pieces at [] ∷ drop (at + 1) pieces ≡ chosen span (get_or rebuilt at []) ∷ pieces_of spans (drop (at + 1) rebuilt) = sym (at_drop_more (λ (xs : List (List ℕ)). xs) pieces at [] some) ∙ sym split in
    let first : get_or pieces at [] ≡ chosen span (get_or rebuilt at []) = ap (λ (xs : List (List ℕ)). get_or xs 0 []) next in
    record {
      ahead = sym (ap (drop 1) next);
      left = omega (arith, is.left);
      long = omega (arith, length-set now at slice);
      lent = ap (map bytes_in) (take_more_set now at slice inside) ∙ map-append bytes_in (take at now) (slice ∷ [])
          ∙ (λ i. is.lent i ++ (bytes_are ∙ sym first) i ∷ []) ∙ sym (take_more pieces at [] some);
      kept = drop-set-lt (at + 1) now at slice (omega arith) ∙ dropped now at ∙ ap (drop 1) is.kept ∙ sym (dropped before at);
      same = length-set now at slice ∙ is.same;
    }

-- no span is ahead: each piece was lent
pub all_lent : (pieces rebuilt : List (List ℕ)) (at : ℕ) (before now : List LentSlice) → IsLending pieces rebuilt [] at before now → length pieces ≡ length rebuilt → (at ≡ min (length before) (length pieces)) × (take at pieces ≡ pieces)
all_lent pieces rebuilt at before now is e = let at_is : at ≡ length pieces = omega (arith, is.left, e) in (omega (arith, at_is, is.long, is.same), ap (λ (n : ℕ). take n pieces) at_is ∙ take_all (length pieces) pieces (omega arith))
