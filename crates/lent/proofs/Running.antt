-- Runs of a range: they join the parts from one data fragment to another.
use Rattle.std.proofs.Common.{◌≡◌, ℕ, suc, ◌+◌, ◌-◌, ◌*◌, ◌/◌, ◌%◌, ◌<◌, ◌≤◌, ◌⊎◌, true, false, List, [], ◌∷◌, ◌++◌, Option, None, Some, Bor, map, length, max, refl, sym, ap, ap₂, ◌∙◌, subst, arith, inl, inr}
use Rattle.std.specs.Prelude.{slice_index_or, slice_range, is_none}
use Rattle.std.specs.List.{range_with_len}
use Rattle.std.proofs.lemmas.Bool.{cases_lt}
use Rattle.std.proofs.lemmas.List.{map-append}
use Rattle.std.proofs.lemmas.Nat.{div-mul-add, le-div}
use Rattle.std.proofs.Math.Nat.{mul-le-mul_right}
use Rattle.lrc_code.specs.declared.Code.{Code}
use Rattle.lrc_code.specs.Code.{data_count}
use Rattle.sealed.specs.declared.value.Sealed.{Sealed}
use Rattle.sealed.specs.Layout.{place_of}
use Rattle.sealed.specs.Blob.{Lost}
use Rattle.sealed.specs.Stripes.{fragment_at}
use Rattle.sealed.specs.Sealed.{StandsFor, absent_in}
use Rattle.sealed.specs.Runs.{is_absent_at}
use Rattle.sealed.proofs.Counting.{div_mono}
use Rattle.sealed.proofs.Places.{stripe_by_count, fragment_by_count}
use Rattle.sealed.proofs.Ranges.{length_of_range, item_of_range}
use Rattle.lent.specs.declared.part.Part.{Part}
use Rattle.lent.specs.declared.piece.Piece.{Piece}
use Rattle.lent.specs.declared.piece.Piece.TheVariants.{Lent, Built}
use Rattle.lent.specs.Ahead.{Ahead}
use Rattle.sealed.specs.Range.{cut_end}
use Rattle.lent.specs.Cut.{cut_part, all_numbers}
use Rattle.lent.specs.Pieces.{IsPieceBy}
use Rattle.lent.specs.Runs.{IsRunBy, GivesRun, IsRunStep, begin_at}
use Rattle.lent.specs.Walk.{IsStep, Joins, bytes_ahead}
use Rattle.lent.proofs.Cutting.{range_split, covers}
use Rattle.lent.proofs.Joining.{fill_from, ahead_at}
use Rattle.sealed.proofs.Readable.{Meets, some_met, begins_below}

-- ---- where a run begins and ends
end_is : (w start len : ℕ) → 0 < len → cut_end w start len ≡ (start + len - 1) / w + 1
end_is w start len some = grind arith

-- the last part ends where the range ends, and begins before
ends_behind : (w start len : ℕ) → 1 ≤ w → 0 < len → (start + len ≤ cut_end w start len * w) × ((cut_end w start len - 1) * w < start + len)
ends_behind w start len wide some =
    let q = (start + len - 1) / w in
    let n = cut_end w start len in
    let is : n ≡ q + 1 = end_is w start len some in
    let whole : w * q + (start + len - 1) % w ≡ start + len - 1 = omega arith in
    let under : (start + len - 1) % w < w = omega arith in
    let last : n * w ≡ w * q + w = ap (λ m. m * w) is ∙ (let e : (q + 1) * w ≡ w * q + w = omega arith in e) in
    let before : (n - 1) * w ≡ w * q = ap (λ m. m * w) (let e : n - 1 ≡ q = omega arith in e) ∙ (let e : q * w ≡ w * q = omega arith in e) in
    (omega arith, omega arith)

-- and nothing lies behind it
behind_last : (w start len k : ℕ) → 1 ≤ w → k ≡ cut_end w start len → begin_at w start (start + len) k ≡ start + len
behind_last w start len k wide is =
    elim (cases_lt 0 len) [
      | inl some ↦
          (let past = (ends_behind w start len wide some).0 in
          let scaled : k * w ≡ cut_end w start len * w = ap (λ m. m * w) is in
          omega arith)
      | inr none ↦ omega arith
    ]

start_below : (w start k : ℕ) → 1 ≤ w → start / w ≤ k → start < (k + 1) * w
start_below w start k wide first =
    let whole : w * (start / w) + start % w ≡ start = omega arith in
    let under : start % w < w = omega arith in
    let scaled : start / w * w ≤ k * w = mul-le-mul_right w first in
    let turned : start / w * w ≡ w * (start / w) = omega arith in
    let e : (k + 1) * w ≡ k * w + w = omega arith in
    omega arith

module _ (code : Code) (w start len k : ℕ) (wide : 1 ≤ w) (met : Meets w start len k) where
  abbrev pub from : ℕ
  from = max start (k * w)

  pub from_below : from < start + len
  from_below = let below = begins_below code w wide start len k met in let some = (some_met w start len k met).0 in omega arith

  -- the part of the k-th data fragment begins in it
  from_number : from / w ≡ k
  from_number =
      let below = start_below w start k wide met.first in
      let e : (k + 1) * w ≡ k * w + w = omega arith in
      let at : from ≡ k * w + (from - k * w) = omega arith in
      ap (λ n. n / w) at ∙ div-mul-add k w (from - k * w) (omega arith)

  pub from_begins : begin_at w start (start + len) k ≡ from
  from_begins = let below = from_below in omega arith

  -- a run's end: at the end of the range, or where a fragment ends
  module _ (size : ℕ) (some : 0 < size) (inside : from + size ≤ start + len) where
    abbrev pub behind : ℕ
    behind = (from + size + w - 1) / w

    pub behind_above : k < behind
    behind_above =
        let e : (k + 1) * w ≡ k * w + w = omega arith in
        let up : k + 1 ≤ behind = le-div (k + 1) (from + size + w - 1) w wide (omega arith) in
        omega arith

    last_number : (start + len + w - 1) / w ≡ cut_end w start len
    last_number =
        let any : 0 < len = (some_met w start len k met).0 in
        let q = (start + len - 1) / w in
        let r = (start + len - 1) % w in
        let whole : w * q + r ≡ start + len - 1 = omega arith in
        let under : r < w = omega arith in
        let at : start + len + w - 1 ≡ (q + 1) * w + r = (let e : (q + 1) * w ≡ w * q + w = omega arith in omega arith) in
        ap (λ n. n / w) at ∙ div-mul-add (q + 1) w r under ∙ sym (end_is w start len any)

    pub behind_inside : behind ≤ cut_end w start len
    behind_inside = let rises = div_mono w (from + size + w - 1) (start + len + w - 1) wide (omega arith) in let last = last_number in omega arith

    pub behind_begins : (from + size ≡ start + len) ⊎ (place_of w (from + size) ≡ 0) → begin_at w start (start + len) behind ≡ from + size
    behind_begins ends =
        elim ends [
          | inl all ↦
              (let same : behind ≡ cut_end w start len = ap (λ n. (n + w - 1) / w) all ∙ last_number in
              let past = (ends_behind w start len wide (some_met w start len k met).0).0 in
              let scaled : behind * w ≡ cut_end w start len * w = ap (λ n. n * w) same in
              omega arith)
          | inr here ↦
              (let j = (from + size) / w in
              let whole : w * j + (from + size) % w ≡ from + size = omega arith in
              let at : from + size + w - 1 ≡ j * w + (w - 1) = (let e : j * w ≡ w * j = omega arith in omega arith) in
              let same : behind ≡ j = ap (λ n. n / w) at ∙ div-mul-add j w (w - 1) (omega arith) in
              let scaled : behind * w ≡ j * w = ap (λ n. n * w) same in
              let turned : j * w ≡ w * j = omega arith in
              omega arith)
        ]

-- the byte where the part begins is in the k-th data fragment
pub absent_from : (s : Sealed) (start len k : ℕ) → Meets s.width start len k
    → is_absent_at s (max start (k * s.width)) ≡ absent_in s (k / data_count s.code) (k % data_count s.code)
absent_from s start len k met =
    let from = max start (k * s.width) in
    let number = from_number s.code s.width start len k s.shaped.wide met in
    ap₂ (absent_in s) (stripe_by_count s.code s.width s.shaped.wide from ∙ ap (λ n. n / data_count s.code) number)
    (fragment_by_count s.code s.width s.shaped.wide from ∙ ap (λ n. n % data_count s.code) number)

-- ---- the bytes ahead
numbered : (b : List ℕ) (from to : ℕ) → to ≤ length b → slice_range b from to ≡ map (λ i. slice_index_or b i 0) (range_with_len from (to - from))
numbered b from to inside =
    fill_from (λ i. slice_index_or b i 0) (slice_range b from to) from (to - from) (length_of_range b from to inside) (λ i l. item_of_range b from to i inside l)

split : (b : List ℕ) (from mid to : ℕ) → from ≤ mid → mid ≤ to → to ≤ length b → slice_range b from to ≡ slice_range b from mid ++ slice_range b mid to
split b from mid to low high inside =
    let g : ℕ → ℕ = λ i. slice_index_or b i 0 in
    numbered b from to inside
    ∙ ap (λ n. map g (range_with_len from n)) (let e : to - from ≡ mid - from + (to - mid) = omega arith in e)
    ∙ ap (map g) (range_split from (mid - from) (to - mid))
    ∙ map-append g (range_with_len from (mid - from)) (range_with_len (from + (mid - from)) (to - mid))
    ∙ ap (λ n. map g (range_with_len from (mid - from)) ++ map g (range_with_len n (to - mid))) (let e : from + (mid - from) ≡ mid = omega arith in e)
    ∙ sym (ap₂ (λ (xs ys : List ℕ). xs ++ ys) (numbered b from mid (omega arith)) (numbered b mid to inside))

-- the bytes from a part on, up to the range's end
ahead_bytes : (s : Sealed) (start len n k : ℕ) → n ≡ cut_end s.width start len → start / s.width ≤ k → k ≤ n → (b : List ℕ) → start + len ≤ length b
    → bytes_ahead (ahead_at s start (start + len) n k) b ≡ slice_range b (begin_at s.width start (start + len) k) (start + len)
ahead_bytes s start len n k last first inside b fits =
    let w = s.width in
    let wide = s.shaped.wide in
    let end = start + len in
    let g : ℕ → ℕ = λ i. slice_index_or b i 0 in
    elim (cases_lt k n) [
      | inl below ↦
          (let met : Meets w start len k = record { first = first; last = omega arith } in
          let some = (some_met w start len k met).0 in
          let ends = ends_behind w start len wide some in
          let a = k * w + (start - k * w) in
          let numbers = covers s.code w start end k (n - k) (omega arith) (start_below w start k wide first)
          (subst (λ m. end ≤ m * w) (let e : cut_end w start len ≡ k + (n - k) = omega arith in e) ends.0)
          (λ m e. subst (λ x. x * w < end) (let same : cut_end w start len - 1 ≡ k + m = omega arith in same) ends.1) in
          ap (map g) numbers ∙ sym (numbered b a end fits)
          ∙ ap (λ x. slice_range b x end) (let under = begins_below s.code w wide start len k met in let e : a ≡ begin_at w start end k = omega arith in e))
      | inr past ↦
          (let none : n - k ≡ 0 = omega arith in
          let begins : begin_at w start end k ≡ end = behind_last w start len k wide (omega arith) in
          ap (λ m. map g (all_numbers s.code w (map (cut_part s.code w start end) (range_with_len k m)))) none
          ∙ ap (λ m. map g (range_with_len end m)) (let e : 0 ≡ end - end = omega arith in e) ∙ sym (numbered b end end fits) ∙ ap (λ x. slice_range b x end) (sym begins))
    ]

-- ---- the step of a walk
lent_by : (found : Option (List ℕ)) (more : List Part) (run : Bor (List ℕ)) → is_none found ≡ false → IsRunBy found more (Lent run)
lent_by None more run there = absurd (let no : true ≡ false = there in cc)
lent_by (Some x) more run there = tt

module _ (s : Sealed) (start len n k m : ℕ) (more : k < m) (inside : m ≤ n) (run : Bor (List ℕ)) (old : Ahead) (seen : ahead_at s start (start + len) n k ≡ old) where
  pub run_gives : absent_in s (k / data_count s.code) (k % data_count s.code) ≡ false → GivesRun old (ahead_at s start (start + len) n m) (Lent run)
  run_gives there =
      let f = cut_part s.code s.width start (start + len) in
      let rest = m - (k + 1) in
      subst (λ o. GivesRun o (ahead_at s start (start + len) n m) (Lent run)) seen
      (record {
        first = f k;
        more = map f (range_with_len (k + 1) rest);
        next =
            ap (λ c. map f (range_with_len k c)) (let e : n - k ≡ suc (rest + (n - m)) = omega arith in e)
            ∙ ap (λ ps. f k ∷ ps)
            (ap (map f) (range_split (k + 1) rest (n - m) ∙ ap (λ c. range_with_len (k + 1) rest ++ range_with_len c (n - m)) (let e : k + 1 + rest ≡ m = omega arith in e))
            ∙ map-append f (range_with_len (k + 1) rest) (range_with_len m (n - m)));
        is = lent_by (fragment_at s.stripes (k / data_count s.code) (k % data_count s.code)) (map f (range_with_len (k + 1) rest)) run there;
        same = refl;
      })

  pub run_joins : n ≡ cut_end s.width start len → start / s.width ≤ k → start + len ≤ s.len
      → ((b : List ℕ) (lost : Lost) → StandsFor s b lost → run.now ≡ slice_range b (begin_at s.width start (start + len) k) (begin_at s.width start (start + len) m))
      → Joins old (ahead_at s start (start + len) n m) (Lent run)
  run_joins last first fits bytes =
      let w = s.width in
      let end = start + len in
      subst (λ o. Joins o (ahead_at s start end n m) (Lent run)) seen
      (λ b lost stands.
      let room : end ≤ length b = omega (arith, stands.length_is) in
      let rises : k * w ≤ m * w = mul-le-mul_right w (omega arith) in
      ahead_bytes s start len n k last first (omega arith) b room
      ∙ split b (begin_at w start end k) (begin_at w start end m) end (omega arith) (omega arith) room
      ∙ sym (ap₂ (λ (xs ys : List ℕ). xs ++ ys) (bytes b lost stands) (ahead_bytes s start len n m last (omega arith) inside b room)))

-- a single piece is a run
alone_by : (s : Sealed) (part : Part) (found : Option (List ℕ)) (piece : Piece) → IsPieceBy s part found piece → IsRunBy found [] piece
alone_by s part (Some x) (Lent r) is = tt
alone_by s part None (Built v) is = refl
alone_by s part (Some x) (Built v) is = absurd is
alone_by s part None (Lent r) is = absurd is

pub alone : (old new : Ahead) (found : Option Piece) → IsStep old new found → IsRunStep old new found
alone old new None is = is
alone old new (Some piece) gives =
    record {
      first = gives.part;
      more = [];
      next = gives.next;
      is = alone_by old.sealed gives.part (fragment_at old.sealed.stripes gives.part.stripe gives.part.fragment) piece gives.is;
      same = gives.same;
    }
