-- A granted range that lies in memory as one run.
use Rattle.std.proofs.Common.{◌≡◌, ◌+◌, ◌-◌, ◌*◌, ◌/◌, ◌<◌, ◌≤◌, ℕ, zero, suc, true, false, List, [], ◌∷◌, ◌++◌, Option, None, Some, map, length, max, refl, sym, ap, ap₂, ◌∙◌, subst, arith, length-append}
use Rattle.std.specs.Prelude.{slice_index_or, slice_range, is_none}
use Rattle.std.specs.List.{range_with_len}
use Rattle.std.proofs.lemmas.List.{map-append}
use Rattle.lrc_code.specs.Code.{data_count}
use Rattle.sealed.specs.declared.value.Sealed.{Sealed}
use Rattle.sealed.specs.Blob.{Lost}
use Rattle.sealed.specs.Layout.{stripe_count}
use Rattle.sealed.specs.Range.{cut_end}
use Rattle.sealed.specs.Runs.{is_absent_at}
use Rattle.sealed.specs.Sealed.{StandsFor, absent_in}
use Rattle.sealed.specs.Stripes.{fragment_at}
use Rattle.sealed.proofs.Counting.{some_data}
use Rattle.sealed.proofs.Places.{stripe_below}
use Rattle.sealed.proofs.Readable.{Meets}
use Rattle.lent.specs.declared.grant.Grant.{Grant}
use Rattle.lent.specs.declared.part.Part.{Part}
use Rattle.lent.specs.declared.piece.Piece.{Piece}
use Rattle.lent.specs.declared.piece.Piece.TheVariants.{Lent}
use Rattle.lent.specs.Cut.{cut_part, numbers_of, all_numbers}
use Rattle.lent.specs.Granted.{cut_of, range_of}
use Rattle.lent.specs.Pieces.{IsPieceBy, IsPieceOf, joined}
use Rattle.lent.specs.Walk.{ArePieces}
use Rattle.lent.proofs.Joining.{cut_bytes}
use Rattle.lent.proofs.Running.{absent_from, from_below}
use Rattle.session.specs.CopyOf.{lent_of, built_of, IsCopy}
use Rattle.session.proofs.Running.{piece_bytes}

-- ---- the piece of a part whose fragment is present
abbrev content : Option (List ℕ) → List ℕ
content None = []
content (Some x) = x

abbrev piece_of : Sealed → Part → Piece
piece_of s part = Lent (record { ref_ptr = (0, 0); now = slice_range (content (fragment_at s.stripes part.stripe part.fragment)) part.from part.to })

piece_by : (s : Sealed) (part : Part) (found : Option (List ℕ)) → is_none found ≡ false → IsPieceBy s part found (Lent (record { ref_ptr = (0, 0); now = slice_range (content found) part.from part.to }))
piece_by s part None there = absurd (let no : true ≡ false = there in cc)
piece_by s part (Some x) there = refl

-- the part lies in a data fragment of the blob, and that is present
record IsThere (s : Sealed) (part : Part) : Type 0 where
  below : part.stripe < stripe_count s.code s.width s.len
  is_data : part.fragment < data_count s.code
  inside : part.to ≤ s.width
  present : absent_in s part.stripe part.fragment ≡ false

is_piece : (s : Sealed) (part : Part) → IsThere s part → IsPieceOf s part (piece_of s part)
is_piece s part there = piece_by s part (fragment_at s.stripes part.stripe part.fragment) there.present

are_pieces : (s : Sealed) (f : ℕ → Part) (a n : ℕ) → ((k : ℕ) → a ≤ k → k < a + n → IsThere s (f k)) → ArePieces s (map f (range_with_len a n)) (map (piece_of s) (map f (range_with_len a n)))
are_pieces s f a zero there = tt
are_pieces s f a (suc n) there = (is_piece s (f a) (there a (omega arith) (omega arith)), are_pieces s f (a + 1) n (λ k low high. there k (omega (arith, low)) (omega (arith, high))))

joined_are : (s : Sealed) (f : ℕ → Part) (a n : ℕ) (b : List ℕ) (lost : Lost) → StandsFor s b lost → ((k : ℕ) → a ≤ k → k < a + n → IsThere s (f k))
    → joined (map (piece_of s) (map f (range_with_len a n))) ≡ map (λ i. slice_index_or b i 0) (all_numbers s.code s.width (map f (range_with_len a n)))
joined_are s f a zero b lost stands there = refl
joined_are s f a (suc n) b lost stands there =
    let h = there a (omega arith) (omega arith) in
    let g : ℕ → ℕ = λ i. slice_index_or b i 0 in
    ap₂ (λ (xs ys : List ℕ). xs ++ ys) (piece_bytes s (f a) (piece_of s (f a)) b lost stands h.below h.is_data h.inside (is_piece s (f a) h))
    (joined_are s f (a + 1) n b lost stands (λ k low high. there k (omega (arith, low)) (omega (arith, high))))
    ∙ sym (map-append g (numbers_of s.code s.width (f a)) (all_numbers s.code s.width (map f (range_with_len (a + 1) n))))

all_lent : (s : Sealed) (parts : List Part) → lent_of (map (piece_of s) parts) ≡ length (joined (map (piece_of s) parts))
all_lent s [] = refl
all_lent s (part ∷ parts) =
    let x = slice_range (content (fragment_at s.stripes part.stripe part.fragment)) part.from part.to in
    omega (arith, all_lent s parts, length-append x (joined (map (piece_of s) parts)))

none_built : (s : Sealed) (parts : List Part) → built_of (map (piece_of s) parts) ≡ 0
none_built s [] = refl
none_built s (part ∷ parts) = none_built s parts

-- ---- the parts of the range
meets : (w start len k : ℕ) → start / w ≤ k → k < start / w + (cut_end w start len - start / w) → Meets w start len k
meets w start len k low high = record { first = low; last = omega (arith, low, high) }

module _ (g : Grant) (run : List ℕ) (long : length run ≡ g.len) (present : (i : ℕ) → i < length run → is_absent_at g.sealed.value (g.start + i) ≡ false) where
  abbrev s : Sealed
  s = g.sealed.value

  abbrev cut_at : ℕ → Part
  cut_at = cut_part s.code s.width g.start (g.start + g.len)

  abbrev first : ℕ
  first = g.start / s.width

  abbrev count : ℕ
  count = cut_end s.width g.start g.len - first

  there : (k : ℕ) → first ≤ k → k < first + count → IsThere s (cut_at k)
  there k low high =
      let met : Meets s.width g.start g.len k = meets s.width g.start g.len k low high in
      let from = max g.start (k * s.width) in
      let below : from < g.start + g.len = from_below s.code s.width g.start g.len k s.shaped.wide met in
      let at : g.start + (from - g.start) ≡ from = omega arith in
      let here : is_absent_at s from ≡ false = subst (λ i. is_absent_at s i ≡ false) at (present (from - g.start) (omega (arith, below, long))) in
      record {
        below = stripe_below s.code s.width s.shaped.wide k s.len (omega (arith, below, g.inside));
        is_data = (let some = some_data s.code in omega (arith, some));
        inside = omega arith;
        present = sym (absent_from s g.start g.len k met) ∙ here;
      }

  pub is_copy : (b : List ℕ) (lost : Lost) → StandsFor s b lost → ((b' : List ℕ) (lost' : Lost) → StandsFor s b' lost' → run ≡ slice_range b' g.start (g.start + length run)) → IsCopy g run g.len 0
  is_copy b lost stands bytes =
      let parts = cut_of g in
      let range : (b' : List ℕ) (lost' : Lost) → StandsFor s b' lost' → run ≡ range_of g b' = λ b' lost' stands'. bytes b' lost' stands' ∙ ap (λ n. slice_range b' g.start (g.start + n)) long in
      let all : joined (map (piece_of s) parts) ≡ range_of g b =
      joined_are s cut_at first count b lost stands there ∙ cut_bytes s.code s.width g.start g.len b s.shaped.wide (omega (arith, g.inside, stands.length_is)) in
      let is : run ≡ joined (map (piece_of s) parts) = range b lost stands ∙ sym all in
      record {
        pieces = map (piece_of s) parts;
        are = are_pieces s cut_at first count there;
        bytes_are = is;
        lent_is = sym long ∙ ap length is ∙ sym (all_lent s parts);
        built_is = sym (none_built s parts);
        range_is = range;
      }
