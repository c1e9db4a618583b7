-- Bytes of the stripes that lie one behind another are those of the blob.
use Rattle.std.proofs.Common.{◌≡◌, ℕ, ◌+◌, ◌-◌, ◌*◌, ◌/◌, ◌%◌, ◌<◌, ◌≤◌, Bool, true, false, List, [], ◌∷◌, length, get_or, Option, None, Some, cond, min, refl, sym, ap, ap₂, ◌∙◌, subst, arith, inl, inr, ◌⊎◌}
use Rattle.std.specs.Prelude.{slice_range, is_none}
use Rattle.std.specs.Option.{option_map}
use Rattle.std.proofs.lemmas.List.{ext_get_or}
use Rattle.std.proofs.lemmas.Bool.{cases_lt, false≢true}
use Rattle.std.proofs.lemmas.Grind.{common_steps}
use Rattle.std.proofs.lemmas.Nat.{div-mul-add, div_below}
use Rattle.std.proofs.Math.Nat.{mul-le-mul_right}
use Rattle.lrc_code.specs.declared.Code.{Code}
use Rattle.lrc_code.specs.Code.{data_count}
use Rattle.sealed.specs.declared.value.Sealed.{Sealed}
use Rattle.sealed.specs.Layout.{stripe_size, stripe_of, fragment_of, place_of, byte_of}
use Rattle.sealed.specs.Blob.{Lost, lost_in, data_at, fragment}
use Rattle.sealed.specs.Stripes.{Stripes, fragment_at}
use Rattle.sealed.specs.Packed.{held_by, packed, ArePacked}
use Rattle.sealed.specs.Sealed.{StandsFor}
use Rattle.sealed.specs.Runs.{byte_in, IsDataFrom, is_absent_at, rest_at}
use Rattle.sealed.proofs.Counting.{data_is_counted}
use Rattle.sealed.proofs.Fragments.{fragments_are}
use Rattle.sealed.proofs.Packing.{first_seen, part_inside, held_long}
use Rattle.sealed.proofs.Places.{rest_of, byte_back, place_back, fragment_inside, place_inside, stripe_inside}
use Rattle.sealed.proofs.Ranges.{length_of_range, item_of_range}

-- ---- bytes by their stripe and their place in it, if a stripe holds `size` bytes
abbrev pub held_at : List ℕ → List ℕ → ℕ → ℕ → ℕ
held_at blob last size k = get_or (held_by size blob last (k / size)) (k % size) 0

module _ (blob last : List ℕ) (size start : ℕ) (some : 1 ≤ size) where
  -- a full stripe ends inside the blob
  full_inside : (k : ℕ) → k < length blob - length blob % size → size * (k / size) + size ≤ length blob
  full_inside k below =
      let q = length blob / size in
      let all : size * q + length blob % size ≡ length blob = omega arith in
      let turned : q * size ≡ size * q = omega arith in
      let less : k / size < q = div_below k size q some (omega arith) in
      let scaled : (k / size + 1) * size ≤ q * size = mul-le-mul_right size (omega arith) in
      let e : (k / size + 1) * size ≡ size * (k / size) + size = omega arith in
      omega arith

  held_full : (j : ℕ) → size * j + size ≤ length blob → held_by size blob last j ≡ slice_range blob (size * j) (size * j + size)
  held_full j ends = grind (arith, common_steps)

  -- a byte of a full stripe is the blob's
  pub full_byte : (stop i : ℕ) → stop ≤ length blob - length blob % size → i < length (slice_range blob start stop) → get_or (slice_range blob start stop) i 0 ≡ held_at blob last size (start + i)
  full_byte stop i high low =
      let k = start + i in
      let j = k / size in
      let p = k % size in
      let long : length (slice_range blob start stop) ≡ stop - start = length_of_range blob start stop (omega arith) in
      let whole : size * j + p ≡ k = omega arith in
      let under : p < size = omega arith in
      let ends : size * j + size ≤ length blob = full_inside k (omega arith) in
      item_of_range blob start stop i (omega arith) (omega arith)
      ∙ ap (λ n. get_or blob n 0) (sym whole)
      ∙ sym (item_of_range blob (size * j) (size * j + size) p ends (omega arith))
      ∙ ap (λ (xs : List ℕ). get_or xs p 0) (sym (held_full j ends))

  -- the stripe behind the full ones is the last
  held_last : length blob - length blob % size ≤ start → held_by size blob last (start / size) ≡ last
  held_last past =
      let q = length blob / size in
      let j = start / size in
      let all : size * q + length blob % size ≡ length blob = omega arith in
      let own : size * j + start % size ≡ start = omega arith in
      let few : length blob % size < size = omega arith in
      let under : start % size < size = omega arith in
      let behind : q ≤ j = elim (cases_lt j q) [
        | inl less ↦ (let scaled : (j + 1) * size ≤ q * size = mul-le-mul_right size (omega arith) in
            let e : (j + 1) * size ≡ size * j + size = omega arith in
            let t : q * size ≡ size * q = omega arith in absurd (omega arith))
        | inr fine ↦ fine
      ] in
      let scaled : q * size ≤ j * size = mul-le-mul_right size behind in
      let e : q * size ≡ size * q = omega arith in
      let t : j * size ≡ size * j = omega arith in
      let short : length blob < size * j + size = omega arith in
      grind (arith, common_steps)

  module _ (past : length blob - length blob % size ≤ start) (hold : length (held_by size blob last (start / size)) ≡ size) where
    pub last_long : length last ≡ size
    last_long = sym (ap length (held_last past)) ∙ hold

    pub last_byte : (stop i : ℕ) → stop ≤ size → i < length (slice_range last (start - (start - start % size)) stop)
        → get_or (slice_range last (start - (start - start % size)) stop) i 0 ≡ held_at blob last size (start + i)
    last_byte stop i high low =
        let j = start / size in
        let r = start % size in
        let own : size * j + r ≡ start = omega arith in
        let from : start - (start - r) ≡ r = omega arith in
        let all : length last ≡ size = last_long in
        let long : length (slice_range last (start - (start - r)) stop) ≡ stop - (start - (start - r)) = length_of_range last (start - (start - r)) stop (omega arith) in
        let at : start + i ≡ j * size + (r + i) = (let t : j * size ≡ size * j = omega arith in omega arith) in
        let stripe : (start + i) / size ≡ j = ap (λ n. n / size) at ∙ div-mul-add j size (r + i) (omega arith) in
        let place : (start + i) % size ≡ r + i = rest_of (start + i) size j (r + i) at stripe in
        item_of_range last (start - (start - r)) stop i (omega arith) (omega arith)
        ∙ ap (λ n. get_or last (n + i) 0) from
        ∙ ap₂ (λ (xs : List ℕ) (p : ℕ). get_or xs p 0) (sym (ap (held_by size blob last) stripe ∙ held_last past)) (sym place)

  -- a run ends with the range or with a stripe
  pub full_ends : (end stop : ℕ) → stop ≡ min end (length blob - length blob % size) → start < length blob - length blob % size → start < end
      → (start + length (slice_range blob start stop) ≡ end) ⊎ ((start + length (slice_range blob start stop)) % size ≡ 0)
  full_ends end stop is begin inside =
      let full = length blob - length blob % size in
      let q = length blob / size in
      let all : size * q + length blob % size ≡ length blob = omega arith in
      let long : length (slice_range blob start stop) ≡ stop - start = length_of_range blob start stop (omega arith) in
      elim (cases_lt end full) [
        | inl before ↦ inl (omega arith)
        | inr past ↦ inr (let at : start + length (slice_range blob start stop) ≡ q * size + 0 = (let t : q * size ≡ size * q = omega arith in omega arith) in
            rest_of (start + length (slice_range blob start stop)) size q 0 at (ap (λ n. n / size) at ∙ div-mul-add q size 0 (omega arith)))
      ]

  pub last_ends : (end stop : ℕ) → length last ≡ size → stop ≡ min size (end - (start - start % size)) → start < end
      → (start + length (slice_range last (start - (start - start % size)) stop) ≡ end) ⊎ ((start + length (slice_range last (start - (start - start % size)) stop)) % size ≡ 0)
  last_ends end stop whole is inside =
      let r = start % size in
      let j = start / size in
      let xs : List ℕ = slice_range last (start - (start - r)) stop in
      let own : size * j + r ≡ start = omega arith in
      let under : r < size = omega arith in
      let long : length xs ≡ stop - (start - (start - r)) = length_of_range last (start - (start - r)) stop (omega arith) in
      elim (cases_lt (end - (start - r)) size) [
        | inl before ↦ inl (omega arith)
        | inr past ↦ inr (let at : start + length xs ≡ (j + 1) * size + 0 = (let t : (j + 1) * size ≡ size * j + size = omega arith in omega arith) in
            rest_of (start + length xs) size (j + 1) 0 at (ap (λ n. n / size) at ∙ div-mul-add (j + 1) size 0 (omega arith)))
      ]

-- a byte lies in the fragment that has it
module _ (code : Code) (w : ℕ) (blob last parities : List ℕ) (count : ℕ) (are : ArePacked code w blob last parities count) (stripes : Stripes)
    (seen : packed code w blob last parities count ≡ stripes) (v d : ℕ) (wide : v ≡ w) (counted : d ≡ data_count code) where
  pub packed_long : (j : ℕ) → j < length stripes → length (held_by (d * v) blob last j) ≡ d * v
  packed_long j below = held_long code w blob last parities count are stripes seen j below v d wide counted ∙ sym (ap (λ n. n * v) counted)

  -- the byte at index k % v of fragment k % (d * v) / v is the one at k % (d * v) of its stripe
  pub packed_byte : 1 ≤ v → 1 ≤ d * v → (k : ℕ) → k / (d * v) < length stripes
      → option_map (λ x. get_or x (k % v) 0) (fragment_at stripes (k / (d * v)) ((k % (d * v)) / v)) ≡ Some (held_at blob last (d * v) k)
  packed_byte some any k below =
      let j = k / (d * v) in
      let r = k % (d * v) in
      let f = r / v in
      let p = r % v in
      let outer : (d * v) * j + r ≡ k = omega arith in
      let inner : v * f + p ≡ r = omega arith in
      let under : p < v = omega arith in
      let short : r < d * v = omega arith in
      let is_data : f < d = div_below r v d some short in
      let at : k ≡ (d * j + f) * v + p = omega arith in
      let place : k % v ≡ p = rest_of k v (d * j + f) p at (ap (λ n. n / v) at ∙ div-mul-add (d * j + f) v p under) in
      let held : List ℕ = held_by (d * v) blob last j in
      let found : fragment_at stripes j f ≡ Some (slice_range held (v * f) (v * f + v)) = first_seen code w blob last parities count are stripes seen j below v d wide counted f is_data in
      ap (option_map (λ x. get_or x (k % v) 0)) found
      ∙ ap (λ n. Some (get_or (slice_range held (v * f) (v * f + v)) n 0)) place
      ∙ ap (λ n. Some n) (item_of_range held (v * f) (v * f + v) p (part_inside code w blob last parities count are stripes seen j below v d wide counted f is_data) (omega arith) ∙ ap (λ n. get_or held n 0) inner)

-- ---- the value
there : {A B : Type 0} (f : A → B) (found : Option A) (y : B) → option_map f found ≡ Some y → is_none found ≡ false
there f None y e = absurd (let no : None ≡ Some y = e in cc)
there f (Some x) y e = refl

own_byte : (gone : Bool) (x : List ℕ) (p y : ℕ) → option_map (λ r. get_or r p 0) (cond gone None (Some x)) ≡ Some y → get_or x p 0 ≡ y
own_byte true x p y e = absurd (let no : None ≡ Some y = e in cc)
own_byte false x p y e = let same : Some (get_or x p 0) ≡ Some y = e in cc

pub are_present : (s : Sealed) (start : ℕ) (bytes : List ℕ) → IsDataFrom s.code s.width s.stripes start bytes → (i : ℕ) → i < length bytes → is_absent_at s (start + i) ≡ false
are_present s start bytes are i low = there (λ x. get_or x (place_of s.width (start + i)) 0) _ (get_or bytes i 0) (are i low)

-- the bytes of a run are the blob's
pub are_blob : (s : Sealed) (start : ℕ) (bytes : List ℕ) → start + length bytes ≤ s.len → IsDataFrom s.code s.width s.stripes start bytes
    → (b : List ℕ) (lost : Lost) → StandsFor s b lost → bytes ≡ slice_range b start (start + length bytes)
are_blob s start bytes inside are b lost stands =
    let end = start + length bytes in
    let fits : end ≤ length b = omega (arith, stands.length_is) in
    let long : length (slice_range b start end) ≡ end - start = length_of_range b start end fits in
    ext_get_or 0 bytes (slice_range b start end) (omega arith)
    (λ i low.
    let k = start + i in
    let j = stripe_of s.code s.width k in
    let f = fragment_of s.code s.width k in
    let p = place_of s.width k in
    let wide = s.shaped.wide in
    let is_data : f < data_count s.code = fragment_inside s.code s.width wide k in
    let found = stands.fragments j f (stripe_inside s.code s.width wide k s.len (omega arith)) (let counted = data_is_counted s.code in omega arith) in
    let x : List ℕ = fragment s.code s.width b j f in
    let own : get_or x p 0 ≡ get_or bytes i 0 = own_byte (lost_in lost j f) x p (get_or bytes i 0) (ap (option_map (λ r. get_or r p 0)) (sym found) ∙ are i low) in
    let holds : get_or x p 0 ≡ data_at s.code s.width b j p f = (fragments_are s.code s.width b j stands.bytes).holds f p is_data (place_inside s.code s.width wide k) in
    sym own ∙ holds ∙ ap (λ n. get_or b n 0) (byte_back s.code s.width wide k)
    ∙ sym (item_of_range b start end i fits (omega arith)))

-- the rest of a fragment is a run
module _ (code : Code) (w : ℕ) (some : 1 ≤ w) (stripes : Stripes) (start : ℕ) (x : List ℕ) (found : fragment_at stripes (stripe_of code w start) (fragment_of code w start) ≡ Some x) (whole : length x ≡ w) where
  pub rest_bytes : (stop : ℕ) → stop ≤ w → IsDataFrom code w stripes start (slice_range x (place_of w start) stop)
  rest_bytes stop high i low =
      let j = stripe_of code w start in
      let f = fragment_of code w start in
      let p = place_of w start in
      let long : length (slice_range x p stop) ≡ stop - p = length_of_range x p stop (omega arith) in
      let at : start + i ≡ byte_of code w j f (p + i) = (let back = byte_back code w some start in omega arith) in
      let back = place_back code w some j f (p + i) (fragment_inside code w some start) (omega arith) in
      ap (byte_in code w stripes) at
      ∙ ap₂ (λ (n m : ℕ). option_map (λ y. get_or y (place_of w (byte_of code w j f (p + i))) 0) (fragment_at stripes n m)) back.0 back.1
      ∙ ap (option_map (λ y. get_or y (place_of w (byte_of code w j f (p + i))) 0)) found
      ∙ ap (λ n. Some (get_or x n 0)) back.2
      ∙ ap (λ n. Some n) (sym (item_of_range x p stop i (omega arith) (omega arith)))

-- where a run ends
pub reached : (w start n len : ℕ) → 1 ≤ w → 1 ≤ n → (n ≡ len) ⊎ (place_of w (start + n) ≡ 0) → min len (rest_at w start) ≤ n
reached w start n len some any ends =
    elim ends [
      | inl all ↦ omega arith
      | inr here ↦ elim (cases_lt n (rest_at w start)) [
        | inr past ↦ omega arith
        | inl short ↦
            (let own : w * (start / w) + start % w ≡ start = omega arith in
            let at : start + n ≡ (start / w) * w + (start % w + n) = (let t : (start / w) * w ≡ w * (start / w) = omega arith in omega arith) in
            let place : (start + n) % w ≡ start % w + n = rest_of (start + n) w (start / w) (start % w + n) at (ap (λ m. m / w) at ∙ div-mul-add (start / w) w (start % w + n) (omega arith)) in
            absurd (omega arith))
      ]
    ]

-- a stripe ends where a fragment ends
pub stripe_ends : (code : Code) (w i : ℕ) → 1 ≤ w → i % stripe_size code w ≡ 0 → place_of w i ≡ 0
stripe_ends code w i some ends =
    let S = stripe_size code w in
    let q = i / S in
    let whole : S * q + i % S ≡ i = omega arith in
    let at : i ≡ (data_count code * q) * w + 0 = omega arith in
    rest_of i w (data_count code * q) 0 at (ap (λ n. n / w) at ∙ div-mul-add (data_count code * q) w 0 some)

-- a fragment ends there
pub rest_ends : (w start n len : ℕ) → 1 ≤ w → n ≡ min len (rest_at w start) → (n ≡ len) ⊎ (place_of w (start + n) ≡ 0)
rest_ends w start n len some is =
    elim (cases_lt len (rest_at w start)) [
      | inl less ↦ inl (omega arith)
      | inr more ↦ inr (let own : w * (start / w) + start % w ≡ start = omega arith in
          let at : start + n ≡ (start / w + 1) * w + 0 = (let t : (start / w + 1) * w ≡ w * (start / w) + w = omega arith in omega arith) in
          rest_of (start + n) w (start / w + 1) 0 at (ap (λ m. m / w) at ∙ div-mul-add (start / w + 1) w 0 some))
    ]

-- a run that a stripe with handles of its own cuts off ends where a stripe ends
pub cut_ends : (size start n end behind : ℕ) → 1 ≤ size → start + n ≡ min end (size * behind) → (start + n ≡ end) ⊎ ((start + n) % size ≡ 0)
cut_ends size start n end behind some is =
    elim (cases_lt end (size * behind)) [
      | inl all ↦ inl (omega arith)
      | inr cut ↦ inr (let at : start + n ≡ behind * size + 0 = (let t : behind * size ≡ size * behind = omega arith in omega arith) in
          rest_of (start + n) size behind 0 at (ap (λ m. m / size) at ∙ div-mul-add behind size 0 some))
    ]

-- a run from a byte of an absent fragment on is empty
pub none_at : (s : Sealed) (start : ℕ) (bytes : List ℕ) → IsDataFrom s.code s.width s.stripes start bytes → is_absent_at s start ≡ true → bytes ≡ []
none_at s start [] are gone = refl
none_at s start (x ∷ bytes) are gone =
    absurd (false≢true (sym (are_present s start (x ∷ bytes) are 0 (omega arith)) ∙ ap (is_absent_at s) (let e : start + 0 ≡ start = omega arith in e) ∙ gone))

-- the rest of a fragment ends with the range or with the fragment
ends_by : (s : Sealed) (start len : ℕ) (bytes : List ℕ) → IsDataFrom s.code s.width s.stripes start bytes → (is_absent_at s start ≡ false → length bytes ≡ min len (rest_at s.width start))
    → (gone : Bool) → is_absent_at s start ≡ gone → (bytes ≡ []) ⊎ ((length bytes ≡ len) ⊎ (place_of s.width (start + length bytes) ≡ 0))
ends_by s start len bytes are long true gone = inl (none_at s start bytes are gone)
ends_by s start len bytes are long false here = inr (rest_ends s.width start (length bytes) len s.shaped.wide (long here))

pub run_ends : (s : Sealed) (start len : ℕ) (bytes : List ℕ) → IsDataFrom s.code s.width s.stripes start bytes → (is_absent_at s start ≡ false → length bytes ≡ min len (rest_at s.width start))
    → (bytes ≡ []) ⊎ ((length bytes ≡ len) ⊎ (place_of s.width (start + length bytes) ≡ 0))
run_ends s start len bytes are long = ends_by s start len bytes are long (is_absent_at s start) refl

-- a run over stripes ends with the range or where a fragment ends
pub stripes_end : (s : Sealed) (start len : ℕ) (bytes : List ℕ)
    → (bytes ≡ []) ⊎ ((start + length bytes ≡ start + len) ⊎ ((start + length bytes) % stripe_size s.code s.width ≡ 0))
    → (bytes ≡ []) ⊎ ((length bytes ≡ len) ⊎ (place_of s.width (start + length bytes) ≡ 0))
stripes_end s start len bytes ends =
    elim ends [
      | inl none ↦ inl none
      | inr some ↦ inr (elim some [
        | inl all ↦ inl (omega arith)
        | inr whole ↦ inr (stripe_ends s.code s.width (start + length bytes) s.shaped.wide whole)
      ])
    ]

-- and reaches the end of the first fragment, if it has a byte
pub stripes_reach : (w start len : ℕ) (bytes : List ℕ) → 1 ≤ w → (length bytes ≡ 0 → ⊥) → (bytes ≡ []) ⊎ ((length bytes ≡ len) ⊎ (place_of w (start + length bytes) ≡ 0))
    → min len (rest_at w start) ≤ length bytes
stripes_reach w start len bytes wide some ends =
    elim ends [
      | inl none ↦ absurd (some (ap length none))
      | inr here ↦ reached w start (length bytes) len wide (grind (arith, some)) here
    ]

-- the last byte of a run lies in one of n stripes
pub last_below : (size m end n count : ℕ) → 1 ≤ size → 0 < end → size ≡ m → n ≡ count → end ≤ m * n → (end - 1) / size < count
last_below size m end n count some any same long inside =
    let fits : end ≤ size * count = subst (λ k. end ≤ size * k) long (subst (λ k. end ≤ k * n) (sym same) inside) in
    let turned : count * size ≡ size * count = omega arith in
    div_below (end - 1) size count some (omega arith)
