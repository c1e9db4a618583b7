-- Stripes as they are sealed, and those that stand in the place of some.
use Rattle.std.proofs.Common.{◌≡◌, ℕ, ◌+◌, ◌-◌, ◌*◌, ◌<◌, ◌≤◌, [], List, length, get_or, Option, None, Some, Result, Ok, Err, OnErr, refl, sym, ap, ap₂, ◌∙◌, subst, arith, inl, inr}
use Rattle.std.specs.Option.{option_map}
use Rattle.std.specs.Prelude.{slice_range}
use Rattle.std.proofs.Math.Nat.{mul-le-mul_right}
use Rattle.std.proofs.lemmas.Bool.{cases_lt}
use Rattle.std.proofs.lemmas.Grind.{common_steps}
use Rattle.std.proofs.lemmas.List.{ext_get_or, get_or_past}
use Rattle.std.proofs.lemmas.List.FromFn.{length-map-range_with_len, get_or-map-range_with_len}
use Rattle.lrc_code.specs.declared.Code.{Code}
use Rattle.lrc_code.specs.declared.Code.TheVariants.{Wide, Small}
use Rattle.lrc_code.specs.Code.{data_count, fragment_count}
use Rattle.sealed.specs.Layout.{stripe_size}
use Rattle.sealed.specs.Stripes.{Stripes, fragment_at}
use Rattle.sealed.specs.declared.packed.Parts.{Parts}
use Rattle.sealed.specs.declared.packed.Packed.TheInside.{Inside as Packed}
use Rattle.sealed.specs.Packed.{data_bytes, last_bytes, parity_bytes, held_by, parities_by, part_of, parts_of, packed, ArePacked}
use Rattle.sealed.proofs.Counting.{few_fragments, parity_count}
use Rattle.sealed.proofs.Ranges.{length_of_range}

-- ---- the slots of a stripe
pub part_data : (code : Code) (w : ℕ) (held parities : List ℕ) (f : ℕ) → f < data_count code → part_of code w held parities f ≡ Some (slice_range held (w * f) (w * f + w))
part_data code w held parities f l = grind (arith, common_steps)

pub part_parity : (code : Code) (w : ℕ) (held parities : List ℕ) (f k : ℕ) → f ≡ data_count code + k → k < 4
    → part_of code w held parities f ≡ Some (slice_range parities (w * k) (w * k + w))
part_parity Wide w held parities f k at l =
    let part : ℕ → Option (List ℕ) = λ i. Some (slice_range parities (w * i) (w * i + w)) in
    let e : part_of Wide w held parities f ≡ part (f - 12) = grind (arith, common_steps) in
    e ∙ ap part (let e : f - 12 ≡ k = omega arith in e)
part_parity Small w held parities f k at l =
    let part : ℕ → Option (List ℕ) = λ i. Some (slice_range parities (w * i) (w * i + w)) in
    let e : part_of Small w held parities f ≡ part (f - 6) = grind (arith, common_steps) in
    e ∙ ap part (let e : f - 6 ≡ k = omega arith in e)

pub part_none : (code : Code) (w : ℕ) (held parities : List ℕ) (f : ℕ) → fragment_count code ≤ f → part_of code w held parities f ≡ None
part_none Wide w held parities f l = grind (arith, common_steps)
part_none Small w held parities f l = grind (arith, common_steps)

pub part_at : (code : Code) (w : ℕ) (held parities : List ℕ) (f : ℕ) → get_or (parts_of code w held parities) f None ≡ part_of code w held parities f
part_at code w held parities f =
    elim (cases_lt f 16) [
      | inl below ↦ get_or-map-range_with_len (part_of code w held parities) 0 16 f f None below (omega arith)
      | inr past ↦
          get_or_past (parts_of code w held parities) f None (let e = length-map-range_with_len (part_of code w held parities) 0 16 in omega arith)
          ∙ sym (part_none code w held parities f (let few = few_fragments code in omega arith))
    ]

-- sixteen slots that are those of a stripe
pub all_parts : (code : Code) (w : ℕ) (held parities : List ℕ) (slots : List (Option (List ℕ))) → length slots ≡ 16
    → ((f : ℕ) → get_or slots f None ≡ part_of code w held parities f) → slots ≡ parts_of code w held parities
all_parts code w held parities slots long at =
    ext_get_or None slots (parts_of code w held parities) (long ∙ sym (length-map-range_with_len (part_of code w held parities) 0 16))
    (λ f l. at f ∙ sym (part_at code w held parities f))

-- a data fragment ends inside the bytes that the stripe holds
pub slice_inside : (code : Code) (w f : ℕ) → f < data_count code → w * f + w ≤ stripe_size code w
slice_inside code w f l =
    let most : (f + 1) * w ≤ data_count code * w = mul-le-mul_right w (omega arith) in
    let e : (f + 1) * w ≡ w * f + w = omega arith in
    omega arith

-- ---- the first stripes
-- the n-th of equal parts ends where the next one begins
pub part_ends : (size j n : ℕ) → j < n → size * j + size ≤ size * n
part_ends size j n l =
    let more : (j + 1) * size ≤ n * size = mul-le-mul_right size (omega arith) in
    let e : (j + 1) * size ≡ size * j + size = omega arith in
    let s : n * size ≡ size * n = omega arith in
    omega arith

pub parts_fit : (w j : ℕ) → w ≤ 65536 → j < 4096 → 4 * w * j + 4 * w ≤ 1073741824
parts_fit w j narrow few = let ends : 4 * w * j + 4 * w ≤ 4 * w * 4096 = part_ends (4 * w) j 4096 few in omega arith

module _ (code : Code) (w : ℕ) (blob last parities : List ℕ) (count : ℕ) where
  pub packed_count : length (packed code w blob last parities count) ≡ count
  unfolding packed
  packed_count = length-map-range_with_len (λ j. parts_of code w (held_by (stripe_size code w) blob last j) (parities_by w parities j)) 0 count

  pub packed_row : (j : ℕ) → j < count → get_or (packed code w blob last parities count) j [] ≡ parts_of code w (held_by (stripe_size code w) blob last j) (parities_by w parities j)
  unfolding packed
  packed_row j l =
      get_or-map-range_with_len (λ j. parts_of code w (held_by (stripe_size code w) blob last j) (parities_by w parities j)) 0 count j j [] l (omega arith)

  pub packed_at : (j f : ℕ) → j < count
      → fragment_at (packed code w blob last parities count) j f ≡ part_of code w (held_by (stripe_size code w) blob last j) (parities_by w parities j) f
  packed_at j f l =
      ap (λ (row : List (Option (List ℕ))). get_or row f None) (packed_row j l)
      ∙ part_at code w (held_by (stripe_size code w) blob last j) (parities_by w parities j) f

-- equal lists are equal stripes
pub packed_alike : (code : Code) (w count : ℕ) {blob blob' last last' parities parities' : List ℕ} → blob ≡ blob' → last ≡ last' → parities ≡ parities'
    → packed code w blob last parities count ≡ packed code w blob' last' parities' count
packed_alike code w count {blob} {blob'} {last} {last'} {parities} {parities'} one two three =
    ap₂ (λ (xs ys : List ℕ). packed code w xs ys parities count) one two ∙ ap (λ (zs : List ℕ). packed code w blob' last' zs count) three

-- what holds, holds of each error
pub on_err : {A E : Type 0} (r : Result A E) {P : Type 0} → P → OnErr r P
on_err (Ok a) p = tt
on_err (Err e) p = p

-- ---- where a value has its lists
abbrev pub blob_at : Packed → List ℕ
blob_at p = data_bytes (λ a. a.value) p.parts p.joined.items (stripe_size p.code p.width)

abbrev pub last_at : Packed → List ℕ
last_at p = last_bytes (λ a. a.value) p.parts

abbrev pub parities_at : Packed → List ℕ
parities_at p = parity_bytes (λ a. a.value) p.parts p.joined.items (stripe_size p.code p.width)

pub stripe_holds : (p : Packed) (d v : ℕ) → v ≡ p.width → d ≡ data_count p.code → d * v ≡ stripe_size p.code p.width
stripe_holds p d v wide counted = ap₂ (λ a b. a * b) counted wide

pub blob_here : (p : Packed) (joined : List ℕ) (size : ℕ) → joined ≡ p.joined.items → size ≡ stripe_size p.code p.width → data_bytes (λ a. a.value) p.parts joined size ≡ blob_at p
blob_here p joined size same is = ap₂ (λ (xs : List ℕ) (n : ℕ). data_bytes (λ a. a.value) p.parts xs n) same is

pub parities_here_at : (p : Packed) (joined : List ℕ) (size : ℕ) → joined ≡ p.joined.items → size ≡ stripe_size p.code p.width
    → parity_bytes (λ a. a.value) p.parts joined size ≡ parities_at p
parities_here_at p joined size same is = ap₂ (λ (xs : List ℕ) (n : ℕ). parity_bytes (λ a. a.value) p.parts xs n) same is

module _ {A : Type 0} (inner : A → Parts) where
  -- equal parts have equal lists
  pub blob_alike : (a b : Option A) (joined : List ℕ) (size : ℕ) → option_map inner a ≡ option_map inner b → data_bytes inner a joined size ≡ data_bytes inner b joined size
  blob_alike None None joined size e = refl
  blob_alike None (Some b) joined size e = absurd (let no : None ≡ Some (inner b) = e in cc)
  blob_alike (Some a) None joined size e = absurd (let no : Some (inner a) ≡ None = e in cc)
  blob_alike (Some a) (Some b) joined size e = let same : Some (inner a) ≡ Some (inner b) = e in let is : inner a ≡ inner b = cc in ap (λ (p : Parts). p.blob) is

  pub last_alike : (a b : Option A) → option_map inner a ≡ option_map inner b → last_bytes inner a ≡ last_bytes inner b
  last_alike None None e = refl
  last_alike None (Some b) e = absurd (let no : None ≡ Some (inner b) = e in cc)
  last_alike (Some a) None e = absurd (let no : Some (inner a) ≡ None = e in cc)
  last_alike (Some a) (Some b) e = let same : Some (inner a) ≡ Some (inner b) = e in let is : inner a ≡ inner b = cc in ap (λ (p : Parts). p.last) is

  pub parities_alike : (a b : Option A) (joined : List ℕ) (size : ℕ) → option_map inner a ≡ option_map inner b → parity_bytes inner a joined size ≡ parity_bytes inner b joined size
  parities_alike None None joined size e = refl
  parities_alike None (Some b) joined size e = absurd (let no : None ≡ Some (inner b) = e in cc)
  parities_alike (Some a) None joined size e = absurd (let no : Some (inner a) ≡ None = e in cc)
  parities_alike (Some a) (Some b) joined size e = let same : Some (inner a) ≡ Some (inner b) = e in let is : inner a ≡ inner b = cc in ap (λ (p : Parts). p.parities) is

-- the slots of stripe j, by its number
module _ (code : Code) (w : ℕ) (blob last parities : List ℕ) (count : ℕ) (are : ArePacked code w blob last parities count) (stripes : Stripes)
    (seen : packed code w blob last parities count ≡ stripes) (j : ℕ) (below : j < length stripes) (v d : ℕ) (wide : v ≡ w) (counted : d ≡ data_count code) where
  inside : j < count
  inside = let long = packed_count code w blob last parities count in let same = ap length seen in omega arith

  pub few : j < 4096
  few = let few = are.few in let l = inside in omega arith

  abbrev pub held_here : List ℕ
  held_here = held_by (d * v) blob last j

  abbrev pub parities_here : List ℕ
  parities_here = parities_by v parities j

  size : d * v ≡ stripe_size code w
  size = ap₂ (λ a b. a * b) counted wide

  pub begins_inside : d * v * j ≤ length blob
  begins_inside = let l = are.begin j inside in let same : d * v * j ≡ stripe_size code w * j = ap (λ n. n * j) size in omega arith

  pub parities_inside : 4 * v * j + 4 * v ≤ length parities
  parities_inside =
      let ends : 4 * w * j + 4 * w ≤ 4 * w * count = part_ends (4 * w) j count inside in
      let long : length parities ≡ 4 * w * count = are.complete in
      subst (λ n. 4 * n * j + 4 * n ≤ length parities) (sym wide) (omega arith)

  pub held_long : length held_here ≡ stripe_size code v
  held_long = ap (λ n. length (held_by n blob last j)) size ∙ are.hold j inside ∙ ap (stripe_size code) (sym wide)

  pub part_inside : (f : ℕ) → f < d → v * f + v ≤ length held_here
  part_inside f l = let ends : v * f + v ≤ stripe_size code v = slice_inside code v f (omega arith) in let long = held_long in omega arith

  pub parities_long : length parities_here ≡ 4 * v
  parities_long =
      length_of_range parities (4 * v * j) (4 * v * j + 4 * v) parities_inside ∙ (let e : 4 * v * j + 4 * v - 4 * v * j ≡ 4 * v = omega arith in e)

  pub row_seen : get_or stripes j [] ≡ parts_of code v held_here parities_here
  row_seen =
      sym (ap (λ (t : Stripes). get_or t j []) seen) ∙ packed_row code w blob last parities count j inside
      ∙ ap₂ (λ (n m : ℕ). parts_of code n (held_by m blob last j) (parities_by n parities j)) (sym wide) (sym size)

  pub part_seen : (f : ℕ) → fragment_at stripes j f ≡ part_of code v held_here parities_here f
  part_seen f = ap (λ (row : List (Option (List ℕ))). get_or row f None) row_seen ∙ part_at code v held_here parities_here f

  pub first_seen : (f : ℕ) → f < d → fragment_at stripes j f ≡ Some (slice_range held_here (v * f) (v * f + v))
  first_seen f l = part_seen f ∙ part_data code v held_here parities_here f (omega arith)

  pub second_seen : (f : ℕ) → d ≤ f → f - d < 4 → fragment_at stripes j f ≡ Some (slice_range parities_here (v * (f - d)) (v * (f - d) + v))
  second_seen f from l = part_seen f ∙ part_parity code v held_here parities_here f (f - d) (omega arith) l

  pub none_seen : (f : ℕ) → d ≤ f → 4 ≤ f - d → fragment_at stripes j f ≡ None
  none_seen f from past = part_seen f ∙ part_none code v held_here parities_here f (let four = parity_count code in omega arith)
