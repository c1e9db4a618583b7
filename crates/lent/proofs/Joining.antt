-- The bytes of the parts of a range, joined.
use Rattle.std.proofs.Common.{◌≡◌, ℕ, ◌+◌, ◌-◌, ◌<◌, ◌≤◌, Bool, true, false, List, ◌∷◌, ◌++◌, Option, map, length, get_or, None, Some, cond, refl, sym, ap, ap₂, ◌∙◌, subst, arith, suc}
use Rattle.std.specs.Prelude.{slice_index_or, slice_range}
use Rattle.std.specs.List.{range_with_len}
use Rattle.std.proofs.lemmas.List.{map-append, ext_get_or}
use Rattle.std.proofs.lemmas.List.FromFn.{length-map-range_with_len, get_or-map-range_with_len}
use Rattle.lrc_code.specs.declared.Code.{Code}
use Rattle.lrc_code.specs.Code.{data_count}
use Rattle.lrc_code.specs.Column.{column}
use Rattle.lrc_code.proofs.Columns.{column_data}
use Rattle.sealed.specs.declared.value.Sealed.{Sealed}
use Rattle.sealed.specs.Layout.{byte_of, stripe_count}
use Rattle.sealed.specs.Blob.{Lost, lost_in, data_at, fragment}
use Rattle.sealed.specs.Stripes.{fragment_at}
use Rattle.sealed.specs.Sealed.{StandsFor}
use Rattle.sealed.proofs.Counting.{data_is_counted}
use Rattle.sealed.proofs.Ranges.{length_of_range, item_of_range}
use Rattle.lent.specs.declared.part.Part.{Part}
use Rattle.lent.specs.declared.piece.Piece.{Piece}
use Rattle.lent.specs.declared.piece.Piece.TheVariants.{Lent, Built}
use Rattle.lent.specs.Ahead.{Ahead}
use Rattle.lent.specs.Cut.{IsCut, cut_part, numbers_of, all_numbers, cut}
use Rattle.lent.proofs.Cutting.{cut_is}
use Rattle.lent.specs.Pieces.{IsPieceBy, IsPieceOf, bytes_in_piece}
use Rattle.lent.specs.Walk.{Gives, IsAbsent, Joins}
use Rattle.lent.specs.Spans.{span_of, spans_of}

pub fill_from : (g : ℕ → ℕ) (xs : List ℕ) (a n : ℕ) → length xs ≡ n → ((k : ℕ) → k < n → get_or xs k 0 ≡ g (a + k)) → xs ≡ map g (range_with_len a n)
fill_from g xs a n long at =
    ext_get_or 0 xs (map g (range_with_len a n)) (long ∙ sym (length-map-range_with_len g a n))
    (λ k l. at k (omega arith) ∙ sym (get_or-map-range_with_len g a n k (a + k) 0 (omega arith) refl))

-- ---- parts of a blob's fragments
-- a part of a data fragment has the bytes that it numbers
part_bytes : (code : Code) (w : ℕ) (b : List ℕ) (j f from to : ℕ) → f < data_count code → to ≤ w
    → slice_range (fragment code w b j f) from to ≡ map (λ i. slice_index_or b i 0) (range_with_len (byte_of code w j f from) (to - from))
part_bytes code w b j f from to is_data inside =
    let whole : List ℕ = fragment code w b j f in
    let long : length whole ≡ w = length-map-range_with_len (λ p. column code (data_at code w b j p) f) 0 w in
    let at : (k : ℕ) → k < to - from → get_or (slice_range whole from to) k 0 ≡ slice_index_or b (byte_of code w j f from + k) 0 =
    λ k l.
    item_of_range whole from to k (omega arith) l
    ∙ get_or-map-range_with_len (λ p. column code (data_at code w b j p) f) 0 w (from + k) (from + k) 0 (omega arith) (omega arith)
    ∙ column_data code (data_at code w b j (from + k)) f is_data
    ∙ ap (λ i. get_or b i 0) (let e : byte_of code w j f (from + k) ≡ byte_of code w j f from + k = omega arith in e) in
    fill_from (λ i. slice_index_or b i 0) (slice_range whole from to) (byte_of code w j f from) (to - from) (length_of_range whole from to (omega arith)) at

piece_by : (s : Sealed) (part : Part) (b : List ℕ) (lost : Lost) (gone : Bool) (y : List ℕ) (piece : Piece) → StandsFor s b lost → y ≡ fragment s.code s.width b part.stripe part.fragment
    → IsPieceBy s part (cond gone None (Some y)) piece → bytes_in_piece piece ≡ slice_range (fragment s.code s.width b part.stripe part.fragment) part.from part.to
piece_by s part b lost true y (Lent r) stands e is = absurd is
piece_by s part b lost true y (Built v) stands e is = is b lost stands
piece_by s part b lost false y (Lent r) stands e is = is ∙ ap (λ x. slice_range x part.from part.to) e
piece_by s part b lost false y (Built v) stands e is = absurd is

-- a piece has the bytes that its part numbers
piece_bytes : (s : Sealed) (part : Part) (b : List ℕ) (lost : Lost) (piece : Piece) → StandsFor s b lost → part.stripe < stripe_count s.code s.width s.len → part.fragment < data_count s.code
    → part.to ≤ s.width → IsPieceOf s part piece → bytes_in_piece piece ≡ map (λ i. slice_index_or b i 0) (numbers_of s.code s.width part)
piece_bytes s part b lost piece stands below is_data inside is =
    let own = fragment s.code s.width b part.stripe part.fragment in
    let found : fragment_at s.stripes part.stripe part.fragment ≡ cond (lost_in lost part.stripe part.fragment) None (Some own) =
    stands.fragments part.stripe part.fragment below (let counted = data_is_counted s.code in omega arith) in
    piece_by s part b lost (lost_in lost part.stripe part.fragment) own piece stands refl (subst (λ o. IsPieceBy s part o piece) found is)
    ∙ part_bytes s.code s.width b part.stripe part.fragment part.from part.to is_data inside

-- ---- a walk
-- the step's piece, joined to what lies ahead, is what lay ahead
pub joins : (old new : Ahead) (piece : Piece) (gives : Gives old new piece) → gives.part.stripe < stripe_count old.sealed.code old.sealed.width old.sealed.len
    → gives.part.fragment < data_count old.sealed.code → gives.part.to ≤ old.sealed.width → Joins old new piece
joins old new piece gives below is_data inside b lost stands =
    let s = old.sealed in
    let g : ℕ → ℕ = λ i. slice_index_or b i 0 in
    let part = gives.part in
    ap (λ parts. map g (all_numbers s.code s.width parts)) gives.next
    ∙ map-append g (numbers_of s.code s.width part) (all_numbers s.code s.width new.parts)
    ∙ ap₂ (λ (xs ys : List ℕ). xs ++ ys) (sym (piece_bytes s part b lost piece stands below is_data inside gives.is))
    (ap (λ (t : Sealed). map g (all_numbers t.code t.width new.parts)) (sym gives.same))

-- the bytes of a cut are those of its range
pub cut_bytes : (code : Code) (w start len : ℕ) (b : List ℕ) → 1 ≤ w → start + len ≤ length b
    → map (λ i. slice_index_or b i 0) (all_numbers code w (cut code w start len)) ≡ slice_range b start (start + len)
cut_bytes code w start len b wide inside =
    ap (map (λ i. slice_index_or b i 0)) (IsCut.covers (cut_is code w start len wide))
    ∙ sym (fill_from (λ i. slice_index_or b i 0) (slice_range b start (start + len)) start len (let e = length_of_range b start (start + len) inside in omega arith)
    (λ k l. item_of_range b start (start + len) k inside (omega arith)))

-- the parts ahead of a walk at the data fragment k, if n is behind the last one
abbrev pub ahead_at : Sealed → ℕ → ℕ → ℕ → ℕ → Ahead
ahead_at s start end n k = record { sealed = s; parts = map (cut_part s.code s.width start end) (range_with_len k (n - k)) }

-- of the parts from the k-th data fragment on, the first is the k-th one's
next_parts : (s : Sealed) (start end n k : ℕ) → k < n → (part : Part) → part ≡ cut_part s.code s.width start end k → (ahead_at s start end n k).parts ≡ part ∷ (ahead_at s start end n (k + 1)).parts
next_parts s start end n k l part at =
    let parts_at : ℕ → List Part = λ m. map (cut_part s.code s.width start end) (range_with_len m (n - m)) in
    ap (λ m. map (cut_part s.code s.width start end) (range_with_len k m)) (let e : n - k ≡ suc (n - (k + 1)) = omega arith in e) ∙ ap (λ p. p ∷ parts_at (k + 1)) (sym at)

-- the same of the spans
pub step_spans : (s : Sealed) (start end n k : ℕ) → k < n → (part : Part) → part ≡ cut_part s.code s.width start end k → (span : Part × Option (List ℕ)) → span ≡ span_of s part
    → spans_of s (ahead_at s start end n k).parts ≡ span ∷ spans_of s (ahead_at s start end n (k + 1)).parts
step_spans s start end n k l part at span is =
    ap (spans_of s) (next_parts s start end n k l part at) ∙ ap (λ x. x ∷ spans_of s (ahead_at s start end n (k + 1)).parts) (sym is)

-- where the next part's fragment is absent, a walk that is seen as the value `old` has an absent part first
pub step_absent : (s : Sealed) (start end n k : ℕ) → k < n → (part : Part) → part ≡ cut_part s.code s.width start end k → (old : Ahead) → ahead_at s start end n k ≡ old
    → fragment_at s.stripes part.stripe part.fragment ≡ None → IsAbsent old.sealed old.parts
step_absent s start end n k l part at old seen gone = subst (λ (o : Ahead). IsAbsent o.sealed o.parts) seen (subst (IsAbsent s) (sym (next_parts s start end n k l part at)) gone)

module _ (s : Sealed) (start end n k : ℕ) (l : k < n) (part : Part) (at : part ≡ cut_part s.code s.width start end k) (piece : Piece) (is : IsPieceOf s part piece) where
  gives : Gives (ahead_at s start end n k) (ahead_at s start end n (k + 1)) piece
  gives =
      record {
        part = part;
        next = next_parts s start end n k l part at;
        is = is;
        same = refl;
      }

  -- the step of a walk, seen as the value `old`
  pub step_gives : (old : Ahead) → ahead_at s start end n k ≡ old → Gives old (ahead_at s start end n (k + 1)) piece
  step_gives old seen = subst (λ o. Gives o (ahead_at s start end n (k + 1)) piece) seen gives

  pub step_joins : (old : Ahead) → ahead_at s start end n k ≡ old → part.stripe < stripe_count s.code s.width s.len → part.fragment < data_count s.code → part.to ≤ s.width
      → Joins old (ahead_at s start end n (k + 1)) piece
  unfolding gives
  step_joins old seen below is_data inside =
      subst (λ o. Joins o (ahead_at s start end n (k + 1)) piece) seen (joins (ahead_at s start end n k) (ahead_at s start end n (k + 1)) piece gives below is_data inside)
