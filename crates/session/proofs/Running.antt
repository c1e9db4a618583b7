-- Runs of a range that is lent.
use Rattle.std.proofs.Common.{◌≡◌, ℕ, zero, suc, ◌+◌, ◌-◌, ◌*◌, ◌/◌, ◌%◌, ◌<◌, ◌≤◌, true, false, List, [], ◌∷◌, ◌++◌, All, Option, None, Some, map, length, take, drop, set, min, max, refl, sym, ap, ap₂, ◌∙◌, subst, arith, append_assoc, append-nil}
use Rattle.std.specs.Prelude.{slice_index_or, slice_range, is_none}
use Rattle.std.specs.List.{concat, range_with_len}
use Rattle.std.proofs.lemmas.List.{length-map, length-set, length-take-le, take_more_set, drop-set-lt, drop-drop, drop_all, drop-take, take-take, take-append-drop, map-append}
use Rattle.std.proofs.lemmas.List.Elements.{All-nil, All-push}
use Rattle.std.proofs.lemmas.List.Folds.{concat-append}
use Rattle.std.proofs.lemmas.List.FromFn.{length-map-range_with_len}
use Rattle.lrc_code.specs.Code.{data_count}
use Rattle.sealed.specs.declared.value.Sealed.{Sealed}
use Rattle.sealed.specs.Blob.{Lost}
use Rattle.sealed.specs.Layout.{stripe_of, fragment_of, place_of, byte_of, stripe_count}
use Rattle.sealed.specs.Stripes.{fragment_at}
use Rattle.sealed.specs.Sealed.{StandsFor, absent_in}
use Rattle.sealed.specs.Runs.{is_absent_at}
use Rattle.sealed.proofs.Counting.{div_mono}
use Rattle.sealed.proofs.Places.{stripe_by_count, fragment_by_count, fragment_inside, stripe_inside, byte_back}
use Rattle.sealed.proofs.Ranges.{length_of_range, item_of_range}
use Rattle.lent.specs.declared.grant.Grant.{Grant}
use Rattle.lent.specs.declared.part.Part.{Part}
use Rattle.lent.specs.declared.piece.Piece.{Piece}
use Rattle.lent.specs.declared.piece.Piece.TheVariants.{Lent, Built}
use Rattle.lent.specs.Ahead.{Ahead}
use Rattle.sealed.specs.Range.{cut_end}
use Rattle.lent.specs.Cut.{cut_part, numbers_of}
use Rattle.lent.specs.Granted.{cut_of, range_of}
use Rattle.lent.specs.Pieces.{IsPieceBy, IsPieceOf, bytes_in_piece}
use Rattle.lent.specs.Spans.{spans_of}
use Rattle.lent.specs.Walk.{ArePieces, Gives}
use Rattle.lent.proofs.Joining.{fill_from, joins}
use Rattle.session.specs.declared.lending.LentSlice.{LentSlice}
use Rattle.session.specs.LentFrom.{HasRebuilt, needed, pieces_of}
use Rattle.session.specs.Runs.{AreRunsFrom, IsRunFrom, bytes_of_runs}
use Rattle.session.proofs.Lendings.{lent_from, pieces_count}

-- ---- ranges of ranges
numbered : (b : List ℕ) (from to : ℕ) → to ≤ length b → slice_range b from to ≡ map (λ i. slice_index_or b i 0) (range_with_len from (to - from))
numbered b from to inside =
    fill_from (λ i. slice_index_or b i 0) (slice_range b from to) from (to - from) (length_of_range b from to inside) (λ i l. item_of_range b from to i inside l)

-- the rest of a range
rest_of : (b : List ℕ) (from mid to : ℕ) → from ≤ mid → mid ≤ to → drop (mid - from) (slice_range b from to) ≡ slice_range b mid to
rest_of b from mid to low high =
    let d = mid - from in
    ap (λ n. drop d (take n (drop from b))) (let e : to - from ≡ d + (to - mid) = omega arith in e)
    ∙ drop-take d (to - mid) (drop from b)
    ∙ ap (take (to - mid)) (drop-drop d from b ∙ ap (λ n. drop n b) (let e : from + d ≡ mid = omega arith in e))

split : (b : List ℕ) (from mid to : ℕ) → from ≤ mid → mid ≤ to → slice_range b from to ≡ slice_range b from mid ++ slice_range b mid to
split b from mid to low high =
    let d = mid - from in
    let xs : List ℕ = slice_range b from to in
    sym (take-append-drop d xs)
    ∙ ap₂ (λ (ys zs : List ℕ). ys ++ zs) (take-take d (to - from) (drop from b) (omega arith)) (rest_of b from mid to low high)

-- ---- the rebuilt bytes of a piece
piece_at : (s : Sealed) (f : ℕ → Part) (a n k : ℕ) (pieces : List Piece) → ArePieces s (map f (range_with_len a n)) pieces → k < n
    → (piece : Piece) × IsPieceOf s (f (a + k)) piece × (slice_index_or (map needed pieces) k [] ≡ needed piece)
piece_at s f a zero k pieces are low = absurd (let no : k < 0 = low in omega arith)
piece_at s f a (suc n) k [] are low = absurd are
piece_at s f a (suc n) zero (piece ∷ pieces) are low =
    (piece, subst (λ m. IsPieceOf s (f m) piece) (let e : a ≡ a + 0 = omega arith in e) are.0, refl)
piece_at s f a (suc n) (suc k) (piece ∷ pieces) are low =
    let r = piece_at s f (a + 1) n k pieces are.1 (omega arith) in
    (r.0, subst (λ m. IsPieceOf s (f m) r.0) (let e : a + 1 + k ≡ a + suc k = omega arith in e) r.1, r.2)

-- the piece of a lost fragment was built
built_by : (s : Sealed) (part : Part) (found : Option (List ℕ)) (piece : Piece) → is_none found ≡ true → IsPieceBy s part found piece → needed piece ≡ bytes_in_piece piece
built_by s part (Some x) piece gone is = absurd (let no : false ≡ true = gone in cc)
built_by s part None (Lent r) gone is = absurd is
built_by s part None (Built v) gone is = refl

-- a piece has the bytes that its part numbers
pub piece_bytes : (s : Sealed) (part : Part) (piece : Piece) (b : List ℕ) (lost : Lost) → StandsFor s b lost → part.stripe < stripe_count s.code s.width s.len → part.fragment < data_count s.code → part.to ≤ s.width
    → IsPieceOf s part piece → bytes_in_piece piece ≡ map (λ i. slice_index_or b i 0) (numbers_of s.code s.width part)
piece_bytes s part piece b lost stands below is_data inside is =
    let g : ℕ → ℕ = λ i. slice_index_or b i 0 in
    let old : Ahead = record { sealed = s; parts = part ∷ [] } in
    let new : Ahead = record { sealed = s; parts = [] } in
    let gives : Gives old new piece = record { part = part; next = refl; is = is; same = refl } in
    sym (append-nil (bytes_in_piece piece)) ∙ sym (joins old new piece gives below is_data inside b lost stands) ∙ ap (map g) (append-nil (numbers_of s.code s.width part))

cut_end_is : (w start len : ℕ) → 0 < len → cut_end w start len ≡ (start + len - 1) / w + 1
cut_end_is w start len some = grind arith

module _ (g : Grant) (from : ℕ) (inside : from < g.len) where
  abbrev s : Sealed
  s = g.sealed.value

  abbrev at : ℕ
  at = g.start + from

  -- the number of the data fragment, in the blob and in the range, and where its part begins and ends
  abbrev number : ℕ
  number = at / s.width

  abbrev pub index : ℕ
  index = number - g.start / s.width

  abbrev pub begin : ℕ
  begin = max g.start (number * s.width)

  abbrev pub end : ℕ
  end = min (number * s.width + s.width) (g.start + g.len)

  abbrev part : Part
  part = cut_part s.code s.width g.start (g.start + g.len) number

  first : g.start / s.width ≤ number
  first = div_mono s.width g.start at s.shaped.wide (omega arith)

  last : number < cut_end s.width g.start g.len
  last =
      let some : 0 < g.len = omega arith in
      let end_is : cut_end s.width g.start g.len ≡ (g.start + g.len - 1) / s.width + 1 = cut_end_is s.width g.start g.len some in
      let rises : number ≤ (g.start + g.len - 1) / s.width = div_mono s.width at (g.start + g.len - 1) s.shaped.wide (omega arith) in
      omega arith

  pub index_inside : index < cut_end s.width g.start g.len - g.start / s.width
  index_inside = omega (arith, first, last)

  pub has_index : (rebuilt : List (List ℕ)) → HasRebuilt g rebuilt → index < length rebuilt
  has_index rebuilt has =
      let c = g.start / s.width in
      let n = cut_end s.width g.start g.len - c in
      let parts : length (cut_of g) ≡ n = length-map-range_with_len (cut_part s.code s.width g.start (g.start + g.len)) c n in
      let pieces = pieces_count s (cut_of g) has.pieces has.are in
      omega (arith, ap length has.rebuilt_is, length-map has.pieces needed, pieces, parts, index_inside)

  pub around : (g.start / s.width ≤ number) × (begin ≤ at) × (at < end) × (end ≤ s.len)
  around =
      let whole : s.width * number + at % s.width ≡ at = omega arith in
      let under : at % s.width < s.width = let wide = s.shaped.wide in omega arith in
      let turned : number * s.width ≡ s.width * number = omega arith in
      (first, omega arith, omega arith, omega (arith, g.inside))

  -- the numbers of the part's bytes
  numbers_are : numbers_of s.code s.width part ≡ range_with_len begin (end - begin)
  numbers_are =
      let j = stripe_of s.code s.width at in
      let f = fragment_of s.code s.width at in
      let wide = s.shaped.wide in
      let back : byte_of s.code s.width j f (place_of s.width at) ≡ at = byte_back s.code s.width wide at in
      let whole : s.width * number + at % s.width ≡ at = omega arith in
      let turned : number * s.width ≡ s.width * number = omega arith in
      let stripe : number / data_count s.code ≡ j = sym (stripe_by_count s.code s.width wide at) in
      let fragment : number % data_count s.code ≡ f = sym (fragment_by_count s.code s.width wide at) in
      let a = around in
      let first : byte_of s.code s.width j f part.from ≡ begin = omega (arith, back) in
      let long : part.to - part.from ≡ end - begin = omega (arith, a.1, a.2) in
      ap₂ (λ x y. range_with_len (byte_of s.code s.width x y part.from) (part.to - part.from)) stripe fragment ∙ ap₂ range_with_len first long

  -- the rebuilt bytes of the piece
  pub rebuilt_is : (rebuilt : List (List ℕ)) → HasRebuilt g rebuilt → is_absent_at s at ≡ true → (b : List ℕ) (lost : Lost) → StandsFor s b lost → slice_index_or rebuilt index [] ≡ slice_range b begin end
  rebuilt_is rebuilt has gone b lost stands =
      let wide = s.shaped.wide in
      let a = around in
      let c = g.start / s.width in
      let found = piece_at s (cut_part s.code s.width g.start (g.start + g.len)) c (cut_end s.width g.start g.len - c) index has.pieces has.are index_inside in
      let piece = found.0 in
      let is : IsPieceOf s part piece = subst (λ m. IsPieceOf s (cut_part s.code s.width g.start (g.start + g.len) m) piece) (let e : c + index ≡ number = omega (arith, a.0) in e) found.1 in
      let stripe : number / data_count s.code ≡ stripe_of s.code s.width at = sym (stripe_by_count s.code s.width wide at) in
      let fragment : number % data_count s.code ≡ fragment_of s.code s.width at = sym (fragment_by_count s.code s.width wide at) in
      let absent : is_none (fragment_at s.stripes part.stripe part.fragment) ≡ true = ap₂ (absent_in s) stripe fragment ∙ gone in
      let below : part.stripe < stripe_count s.code s.width s.len = subst (λ j. j < stripe_count s.code s.width s.len) (sym stripe) (stripe_inside s.code s.width wide at s.len (omega (arith, g.inside))) in
      let is_data : part.fragment < data_count s.code = subst (λ f. f < data_count s.code) (sym fragment) (fragment_inside s.code s.width wide at) in
      ap (λ (xs : List (List ℕ)). slice_index_or xs index []) has.rebuilt_is
      ∙ found.2
      ∙ built_by s part (fragment_at s.stripes part.stripe part.fragment) piece absent is
      ∙ piece_bytes s part piece b lost stands below is_data (omega arith) is
      ∙ ap (map (λ i. slice_index_or b i 0)) numbers_are
      ∙ sym (numbered b begin end (omega (arith, a.3, stands.length_is)))

  -- from that byte on they are a run
  pub is_rebuilt_run : (rebuilt : List (List ℕ)) → HasRebuilt g rebuilt → is_absent_at s at ≡ true → (b : List ℕ) (lost : Lost) → StandsFor s b lost
      → (at - begin ≤ length (slice_index_or rebuilt index [])) × IsRunFrom g from (drop (at - begin) (slice_index_or rebuilt index []))
  is_rebuilt_run rebuilt has gone b lost stands =
      let a = around in
      let bytes : List ℕ = drop (at - begin) (slice_index_or rebuilt index []) in
      let of_blob : (b' : List ℕ) (lost' : Lost) → StandsFor s b' lost' → bytes ≡ slice_range b' at end =
      λ b' lost' stands'. ap (drop (at - begin)) (rebuilt_is rebuilt has gone b' lost' stands') ∙ rest_of b' begin at end a.1 (omega (arith, a.2)) in
      let long : length bytes ≡ end - at = ap length (of_blob b lost stands) ∙ length_of_range b at end (omega (arith, a.3, stands.length_is)) in
      let all : length (slice_index_or rebuilt index []) ≡ end - begin = ap length (rebuilt_is rebuilt has gone b lost stands) ∙ length_of_range b begin end (omega (arith, a.3, stands.length_is)) in (
        omega (arith, all, a.1, a.2),
        record {
          some = omega (arith, long, a.2);
          inside = omega (arith, long, a.2);
          bytes_are = λ b' lost' stands'. of_blob b' lost' stands' ∙ ap (slice_range b' at) (let e : end ≡ at + length bytes = omega (arith, long, a.2) in e);
        },
      )

-- ---- the runs of a range
-- a run, with the bytes behind it
run_of : (g : Grant) (b : List ℕ) (lost : Lost) (from : ℕ) (bytes : List ℕ) → StandsFor g.sealed.value b lost → IsRunFrom g from bytes → drop from (range_of g b) ≡ bytes ++ drop (from + length bytes) (range_of g b)
run_of g b lost from bytes stands run =
    let end = g.start + g.len in
    let n = length bytes in
    let m = g.start + from in
    let size : g.start + from - g.start ≡ from = omega arith in
    let next : g.start + (from + n) - g.start ≡ from + n = omega arith in
    let place : g.start + (from + n) ≡ m + n = omega arith in
    let up = run.inside in
    ap (λ d. drop d (range_of g b)) (sym size)
    ∙ rest_of b g.start m end (omega arith) (omega arith)
    ∙ split b m (m + n) end (omega arith) (omega arith)
    ∙ ap₂ (λ (xs ys : List ℕ). xs ++ ys) (sym (run.bytes_are b lost stands))
    (ap (λ k. slice_range b k end) (sym place) ∙ sym (rest_of b g.start (g.start + (from + n)) end (omega arith) (omega arith)) ∙ ap (λ d. drop d (range_of g b)) next)

-- the first `count` slices of the target are runs of the range from the byte `first` on, and end
-- before the byte `behind`
pub record IsLendingRuns (whole : List ℕ) (first behind count : ℕ) (before now : List LentSlice) : Type 0 where
  pub long : count ≤ length now
  pub kept : drop count now ≡ drop count before
  pub same : length now ≡ length before
  pub some : All (λ s. 0 < length s.bytes.now) (take count now)
  pub bytes_are : drop first whole ≡ bytes_of_runs (take count now) ++ drop behind whole

pub begun : (whole : List ℕ) (first : ℕ) (target : List LentSlice) → IsLendingRuns whole first first 0 target target
begun whole first target = record { long = omega arith; kept = refl; same = refl; some = All-nil (λ s. 0 < length s.bytes.now); bytes_are = refl }

joined_more : (runs : List LentSlice) (run : LentSlice) → bytes_of_runs (runs ++ run ∷ []) ≡ bytes_of_runs runs ++ run.bytes.now
joined_more runs run =
    ap concat (map-append (λ s. s.bytes.now) runs (run ∷ [])) ∙ concat-append (map (λ s. s.bytes.now) runs) (run.bytes.now ∷ [])
    ∙ ap (λ ys. bytes_of_runs runs ++ ys) (append-nil run.bytes.now)

pub one_more : (g : Grant) (b : List ℕ) (lost : Lost) (whole : List ℕ) (first behind count : ℕ) (before now : List LentSlice) (slice : LentSlice) → StandsFor g.sealed.value b lost → whole ≡ range_of g b
    → IsLendingRuns whole first behind count before now → count < length now → IsRunFrom g behind slice.bytes.now → IsLendingRuns whole first (behind + length slice.bytes.now) (count + 1) before (set now count slice)
one_more g b lost whole first behind count before now slice stands whole_is is room run =
    let n = length slice.bytes.now in
    let taken : take (count + 1) (set now count slice) ≡ take count now ++ slice ∷ [] = take_more_set now count slice room in
    let next : drop behind whole ≡ slice.bytes.now ++ drop (behind + n) whole =
    ap (drop behind) whole_is ∙ run_of g b lost behind slice.bytes.now stands run ∙ ap (λ xs. slice.bytes.now ++ drop (behind + n) xs) (sym whole_is) in
    record {
      long = omega (arith, length-set now count slice);
      kept =
          drop-set-lt (count + 1) now count slice (omega arith) ∙ sym (drop-drop 1 count now) ∙ ap (drop 1) is.kept ∙ drop-drop 1 count before;
      same = length-set now count slice ∙ is.same;
      some = subst (All (λ s. 0 < length s.bytes.now)) (sym taken) (All-push (λ s. 0 < length s.bytes.now) (take count now) slice is.some run.some);
      bytes_are =
          is.bytes_are ∙ ap (λ ys. bytes_of_runs (take count now) ++ ys) next
          ∙ sym (append_assoc (bytes_of_runs (take count now)) slice.bytes.now (drop (behind + n) whole))
          ∙ ap (λ xs. xs ++ drop (behind + n) whole) (sym (ap bytes_of_runs taken ∙ joined_more (take count now) slice));
    }

-- the slices at the end
pub finished : (lent : List (List ℕ)) (first behind count : ℕ) (before now : List LentSlice) → IsLendingRuns (concat lent) first behind count before now → (count < length before → length (concat lent) ≤ behind)
    → AreRunsFrom lent first (length before) (take count now)
finished lent first behind count before now is end =
    let runs = take count now in
    let number : length runs ≡ count = length-take-le count now is.long in
    record {
      some = is.some;
      rest = drop behind (concat lent);
      bytes_are = is.bytes_are;
      all = λ room. is.bytes_are ∙ ap (λ ys. bytes_of_runs runs ++ ys) (drop_all behind (concat lent) (end (omega (arith, number)))) ∙ append-nil (bytes_of_runs runs);
    }

-- the pieces of a lending are those of the range
pub whole_is : (g : Grant) (rebuilt : List (List ℕ)) → HasRebuilt g rebuilt → (b : List ℕ) (lost : Lost) → StandsFor g.sealed.value b lost
    → (concat (pieces_of (spans_of g.sealed.value (cut_of g)) rebuilt) ≡ range_of g b) × (length (concat (pieces_of (spans_of g.sealed.value (cut_of g)) rebuilt)) ≡ g.len)
whole_is g rebuilt has b lost stands =
    let e = (lent_from g rebuilt has).range_is b lost stands in
    (e, ap length e ∙ length_of_range b g.start (g.start + g.len) (omega (arith, g.inside, stands.length_is)) ∙ (let size : g.start + g.len - g.start ≡ g.len = omega arith in size))
