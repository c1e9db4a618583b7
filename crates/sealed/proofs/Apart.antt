-- One fragment that is written in parts: in the blob's bytes, in those of the last stripe, or in the parities.
use Rattle.std.proofs.Common.{◌≡◌, ◌≢◌, ℕ, ◌+◌, ◌-◌, ◌*◌, ◌<◌, ◌≤◌, ◌&&◌, ◌==◌, Bool, true, false, [], List, length, get_or, take, Option, None, Some, cond, sym, ap, ◌∙◌, subst, arith, inl, inr}
use Rattle.std.specs.Prelude.{slice_range}
use Rattle.std.specs.Bool.{OnTrue, OnFalse}
use Rattle.std.proofs.lemmas.Bool.{cases_lt, cases_eq}
use Rattle.std.proofs.lemmas.Grind.{common_steps}
use Rattle.std.proofs.lemmas.List.{get_or_past}
use Rattle.std.proofs.lemmas.Slice.{between_is}
use Rattle.lrc_code.specs.declared.Code.{Code}
use Rattle.lrc_code.specs.declared.Code.TheVariants.{Wide, Small}
use Rattle.lrc_code.specs.Code.{data_count, fragment_count}
use Rattle.sealed.specs.Layout.{stripe_size}
use Rattle.sealed.specs.Packed.{data_bytes, last_bytes, parity_bytes, held_by, parities_by, part_of, slot_in, packed, ArePacked, IsWritten}
use Rattle.sealed.specs.Stripes.{Stripes, fragment_at}
use Rattle.sealed.specs.declared.packed.Parts.{Parts}
use Rattle.sealed.proofs.Changing.{off_slot, off_row}
use Rattle.sealed.proofs.Counting.{parity_count}
use Rattle.sealed.proofs.Joined.{take_inside, drop_behind}
use Rattle.sealed.proofs.Packing.{packed_count, packed_at, part_ends, part_data, part_parity, part_none, slice_inside}
use Rattle.sealed.proofs.Ranges.{length_of_range}

range_of_range : (xs : List ℕ) (a b c d : ℕ) → a + d ≤ b → slice_range (slice_range xs a b) c d ≡ slice_range xs (a + c) (a + d)
range_of_range xs a b c d l =
    ap (λ (ys : List ℕ). slice_range ys c d) (between_is xs a b)
    ∙ drop_behind a c d (take b xs)
    ∙ take_inside b (a + c) (a + d) xs l

-- ---- the numbers of parts
data_number : (code : Code) (w i g : ℕ) → stripe_size code w * i + w * g ≡ w * (data_count code * i + g)
data_number Wide w i g = omega arith
data_number Small w i g = omega arith

one_number : (code : Code) (i g j f : ℕ) → g < data_count code → f < data_count code → data_count code * i + g ≡ data_count code * j + f → i ≡ j
one_number Wide i g j f l k e = omega arith
one_number Small i g j f l k e = omega arith

pub parity_number : (w i k : ℕ) → 4 * w * i + w * k ≡ w * (4 * i + k)
parity_number w i k = omega arith

one_parity : (i k j m : ℕ) → k < 4 → m < 4 → 4 * i + k ≡ 4 * j + m → i ≡ j
one_parity i k j m l h e = omega arith

here_is : (i j g f : ℕ) → i ≡ j → g ≡ f → ((i == j) && (g == f)) ≡ true
here_is i j g f a b = grind (arith, common_steps)

-- ---- the bytes that a stripe holds
held_full : (size : ℕ) (blob last : List ℕ) (i : ℕ) → size * i + size ≤ length blob → held_by size blob last i ≡ slice_range blob (size * i) (size * i + size)
held_full size blob last i l = grind (arith, common_steps)

held_last : (size : ℕ) (blob last : List ℕ) (i : ℕ) → length blob < size * i + size → held_by size blob last i ≡ last
held_last size blob last i l = grind (arith, common_steps)

-- a slot of another part of its stripe
data_alone : (code : Code) (w : ℕ) (held one two : List ℕ) (g : ℕ) → g < data_count code → part_of code w held one g ≡ part_of code w held two g
data_alone code w held one two g l = part_data code w held one g l ∙ sym (part_data code w held two g l)

parity_alone : (code : Code) (w : ℕ) (one two parities : List ℕ) (g : ℕ) → data_count code ≤ g → part_of code w one parities g ≡ part_of code w two parities g
parity_alone code w one two parities g l = elim (cases_lt g (fragment_count code)) [
  | inl low ↦
      let k : ℕ = g - data_count code in
      let four = parity_count code in
      let at : g ≡ data_count code + k = omega arith in
      let few : k < 4 = omega arith in
      part_parity code w one parities g k at few ∙ sym (part_parity code w two parities g k at few)
  | inr past ↦ part_none code w one parities g past ∙ sym (part_none code w two parities g past)
]

module _ (code : Code) (w : ℕ) where
  abbrev pub size : ℕ
  size = stripe_size code w

  -- a slot that is a part of the blob
  data_slot : (blob last parities : List ℕ) (i g : ℕ) → size * i + size ≤ length blob → g < data_count code
      → part_of code w (held_by size blob last i) parities g ≡ Some (slice_range blob (w * (data_count code * i + g)) (w * (data_count code * i + g) + w))
  data_slot blob last parities i g full low =
      let ends : w * g + w ≤ size = slice_inside code w g low in
      let at : size * i + w * g ≡ w * (data_count code * i + g) = data_number code w i g in
      part_data code w (held_by size blob last i) parities g low
      ∙ ap (λ (ys : List ℕ). Some (slice_range ys (w * g) (w * g + w))) (held_full size blob last i full)
      ∙ ap (λ (ys : List ℕ). Some ys) (range_of_range blob (size * i) (size * i + size) (w * g) (w * g + w) (omega arith))
      ∙ ap (λ n. Some (slice_range blob (size * i + w * g) n)) (let e : size * i + (w * g + w) ≡ size * i + w * g + w = omega arith in e)
      ∙ ap (λ n. Some (slice_range blob n (n + w))) at

  -- a slot that is one of the parities
  parity_slot : (held parities : List ℕ) (i g k : ℕ) → g ≡ data_count code + k → k < 4
      → part_of code w held (parities_by w parities i) g ≡ Some (slice_range parities (w * (4 * i + k)) (w * (4 * i + k) + w))
  parity_slot held parities i g k is few =
      let ends : w * k + w ≤ w * 4 = part_ends w k 4 few in
      part_parity code w held (parities_by w parities i) g k is few
      ∙ ap (λ (ys : List ℕ). Some ys) (range_of_range parities (4 * w * i) (4 * w * i + 4 * w) (w * k) (w * k + w) (omega arith))
      ∙ ap (λ n. Some (slice_range parities (4 * w * i + w * k) n)) (let e : 4 * w * i + (w * k + w) ≡ 4 * w * i + w * k + w = omega arith in e)
      ∙ ap (λ n. Some (slice_range parities n (n + w))) (parity_number w i k)

  module _ (old : Parts) (j f : ℕ) (bytes : List ℕ) where
    abbrev pub Slots : ℕ → Parts → Type 0
    Slots count new = (i g : ℕ) → i < count → slot_in code w new i g ≡ cond ((i == j) && (g == f)) (Some bytes) (slot_in code w old i g)

    here : (i g : ℕ) (x : Option (List ℕ)) → i ≡ j → g ≡ f → Some bytes ≡ cond ((i == j) && (g == f)) (Some bytes) x
    here i g x a b = sym (ap (λ (t : Bool). cond t (Some bytes) x) (here_is i j g f a b))

    not_row : (i g : ℕ) (x : Option (List ℕ)) → i ≢ j → x ≡ cond ((i == j) && (g == f)) (Some bytes) x
    not_row i g x ne = sym (ap (λ (t : Bool). cond t (Some bytes) x) (off_row i j g f ne))

    not_slot : (i g : ℕ) (x : Option (List ℕ)) → g ≢ f → x ≡ cond ((i == j) && (g == f)) (Some bytes) x
    not_slot i g x ne = sym (ap (λ (t : Bool). cond t (Some bytes) x) (off_slot i j g f ne))

    -- in the blob
    module _ (blob : List ℕ) (long : length blob ≡ length old.blob) (full : size * j + size ≤ length old.blob) (low : f < data_count code)
        (wrote : slice_range blob (w * (data_count code * j + f)) (w * (data_count code * j + f) + w) ≡ bytes)
        (others : (m : ℕ) → m ≢ data_count code * j + f → slice_range blob (w * m) (w * m + w) ≡ slice_range old.blob (w * m) (w * m + w)) where
      abbrev pub with_blob : Parts
      with_blob = record { blob = blob; last = old.last; parities = old.parities }

      blob_slot : (i g : ℕ) → size * i + size ≤ length old.blob → g < data_count code
          → slot_in code w with_blob i g ≡ cond ((i == j) && (g == f)) (Some bytes) (slot_in code w old i g)
      blob_slot i g holds below =
          let holds_new : size * i + size ≤ length blob = omega arith in
          let new = data_slot blob old.last (parities_by w old.parities i) i g holds_new below in
          let was = data_slot old.blob old.last (parities_by w old.parities i) i g holds below in
          elim (cases_eq i j) [
            | inl row ↦ elim (cases_eq g f) [
              | inl slot ↦
                  let at : data_count code * i + g ≡ data_count code * j + f = ap (λ n. data_count code * n + g) row ∙ ap (λ n. data_count code * j + n) slot in
                  new ∙ ap (λ n. Some (slice_range blob (w * n) (w * n + w))) at ∙ ap (λ (ys : List ℕ). Some ys) wrote ∙ here i g (slot_in code w old i g) row slot
              | inr ne ↦
                  let off : data_count code * i + g ≢ data_count code * j + f = λ e. ne (let same : data_count code * i ≡ data_count code * j = ap (λ n. data_count code * n) row in omega arith) in
                  new ∙ ap (λ (ys : List ℕ). Some ys) (others (data_count code * i + g) off) ∙ sym was ∙ not_slot i g (slot_in code w old i g) ne
            ]
            | inr ne ↦
                let off : data_count code * i + g ≢ data_count code * j + f = λ e. ne (one_number code i g j f below low e) in
                new ∙ ap (λ (ys : List ℕ). Some ys) (others (data_count code * i + g) off) ∙ sym was ∙ not_row i g (slot_in code w old i g) ne
          ]

      blob_slots : (count : ℕ) → Slots count with_blob
      blob_slots count i g l = elim (cases_lt g (data_count code)) [
        | inl below ↦ elim (cases_lt (length old.blob) (size * i + size)) [
          | inl partial ↦
              let partial_new : length blob < size * i + size = omega arith in
              let off : i ≢ j = λ e. absurd (let same : size * i ≡ size * j = ap (λ n. size * n) e in omega arith) in
              ap (λ (h : List ℕ). part_of code w h (parities_by w old.parities i) g)
              (held_last size blob old.last i partial_new ∙ sym (held_last size old.blob old.last i partial))
              ∙ not_row i g (slot_in code w old i g) off
          | inr holds ↦ blob_slot i g holds below
        ]
        | inr from ↦
            parity_alone code w (held_by size blob old.last i) (held_by size old.blob old.last i) (parities_by w old.parities i) g from
            ∙ not_slot i g (slot_in code w old i g) (λ e. absurd (let no : f < f = omega arith in omega arith))
      ]

      pub blob_written : (count : ℕ) → IsWritten code w count j f bytes old with_blob
      blob_written count = record {
        still = λ are. record {
          few = are.few;
          begin = λ i l. subst (λ n. size * i < n) (sym long) (are.begin i l);
          hold = λ i l. elim (cases_lt (length old.blob) (size * i + size)) [
            | inl partial ↦
                let partial_new : length blob < size * i + size = omega arith in
                ap length (held_last size blob old.last i partial_new ∙ sym (held_last size old.blob old.last i partial)) ∙ are.hold i l
            | inr holds ↦
                let holds_new : size * i + size ≤ length blob = omega arith in
                ap length (held_full size blob old.last i holds_new) ∙ length_of_range blob (size * i) (size * i + size) holds_new ∙ (let e : size * i + size - size * i ≡ size = omega arith in e)
          ];
          complete = are.complete;
        };
        slots = λ are. blob_slots count;
      }

    -- in the last, partial stripe
    module _ (last : List ℕ) (long : length last ≡ length old.last) (partial : length old.blob < size * j + size) (low : f < data_count code)
        (wrote : slice_range last (w * f) (w * f + w) ≡ bytes) (others : (m : ℕ) → m ≢ f → slice_range last (w * m) (w * m + w) ≡ slice_range old.last (w * m) (w * m + w)) where
      abbrev pub with_last : Parts
      with_last = record { blob = old.blob; last = last; parities = old.parities }

      -- no other stripe is partial
      holds : (count i : ℕ) → ArePacked code w old.blob old.last old.parities count → j < count → i < count → i ≢ j → size * i + size ≤ length old.blob
      holds count i are below l ne = elim (cases_lt i j) [
        | inl less ↦ let ends : size * i + size ≤ size * j = part_ends size i j less in let begin = are.begin j below in omega arith
        | inr from ↦
            let more : j < i = elim (cases_lt j i) [ inl more ↦ more | inr upto ↦ absurd (ne (let e : i ≡ j = omega arith in e)) ] in
            let ends : size * j + size ≤ size * i = part_ends size j i more in
            let begin = are.begin i l in
            absurd (let no : length old.blob < length old.blob = omega arith in omega arith)
      ]

      last_slot : (i g : ℕ) → i ≡ j → g < data_count code → slot_in code w with_last i g ≡ cond ((i == j) && (g == f)) (Some bytes) (slot_in code w old i g)
      last_slot i g row low =
          let part : length old.blob < size * i + size = let same : size * i ≡ size * j = ap (λ n. size * n) row in omega arith in
          let new = part_data code w (held_by size old.blob last i) (parities_by w old.parities i) g low ∙ ap (λ (ys : List ℕ). Some (slice_range ys (w * g) (w * g + w))) (held_last size old.blob last i part) in
          let was = part_data code w (held_by size old.blob old.last i) (parities_by w old.parities i) g low ∙ ap (λ (ys : List ℕ). Some (slice_range ys (w * g) (w * g + w))) (held_last size old.blob old.last i part) in
          elim (cases_eq g f) [
            | inl slot ↦ new ∙ ap (λ n. Some (slice_range last (w * n) (w * n + w))) slot ∙ ap (λ (ys : List ℕ). Some ys) wrote ∙ here i g (slot_in code w old i g) row slot
            | inr ne ↦ new ∙ ap (λ (ys : List ℕ). Some ys) (others g ne) ∙ sym was ∙ not_slot i g (slot_in code w old i g) ne
          ]

      last_slots : (count : ℕ) → j < count → ArePacked code w old.blob old.last old.parities count → Slots count with_last
      last_slots count below are i g l = elim (cases_lt g (data_count code)) [
        | inl low ↦ elim (cases_eq i j) [
          | inl row ↦ last_slot i g row low
          | inr ne ↦
              let full = holds count i are below l ne in
              ap (λ (h : List ℕ). part_of code w h (parities_by w old.parities i) g) (held_full size old.blob last i full ∙ sym (held_full size old.blob old.last i full))
              ∙ not_row i g (slot_in code w old i g) ne
        ]
        | inr from ↦
            parity_alone code w (held_by size old.blob last i) (held_by size old.blob old.last i) (parities_by w old.parities i) g from
            ∙ not_slot i g (slot_in code w old i g) (λ e. absurd (let no : f < f = omega arith in omega arith))
      ]

      pub last_written : (count : ℕ) → j < count → IsWritten code w count j f bytes old with_last
      last_written count below = record {
        still = λ are. record {
          few = are.few;
          begin = are.begin;
          hold = λ i l. elim (cases_lt (length old.blob) (size * i + size)) [
            | inl part ↦
                ap length (held_last size old.blob last i part) ∙ long ∙ sym (ap length (held_last size old.blob old.last i part)) ∙ are.hold i l
            | inr full ↦
                ap length (held_full size old.blob last i full ∙ sym (held_full size old.blob old.last i full)) ∙ are.hold i l
          ];
          complete = are.complete;
        };
        slots = last_slots count below;
      }

    -- in the parities
    module _ (parities : List ℕ) (long : length parities ≡ length old.parities) (k : ℕ) (is : f ≡ data_count code + k) (few : k < 4)
        (wrote : slice_range parities (w * (4 * j + k)) (w * (4 * j + k) + w) ≡ bytes)
        (others : (m : ℕ) → m ≢ 4 * j + k → slice_range parities (w * m) (w * m + w) ≡ slice_range old.parities (w * m) (w * m + w)) where
      abbrev pub with_parities : Parts
      with_parities = record { blob = old.blob; last = old.last; parities = parities }

      parity_at : (i g n : ℕ) → g ≡ data_count code + n → n < 4 → slot_in code w with_parities i g ≡ cond ((i == j) && (g == f)) (Some bytes) (slot_in code w old i g)
      parity_at i g n at low =
          let new = parity_slot (held_by size old.blob old.last i) parities i g n at low in
          let was = parity_slot (held_by size old.blob old.last i) old.parities i g n at low in
          elim (cases_eq i j) [
            | inl row ↦ elim (cases_eq g f) [
              | inl slot ↦
                  let same : 4 * i + n ≡ 4 * j + k = omega arith in
                  new ∙ ap (λ m. Some (slice_range parities (w * m) (w * m + w))) same ∙ ap (λ (ys : List ℕ). Some ys) wrote ∙ here i g (slot_in code w old i g) row slot
              | inr ne ↦
                  let off : 4 * i + n ≢ 4 * j + k = λ e. ne (omega arith) in
                  new ∙ ap (λ (ys : List ℕ). Some ys) (others (4 * i + n) off) ∙ sym was ∙ not_slot i g (slot_in code w old i g) ne
            ]
            | inr ne ↦
                let off : 4 * i + n ≢ 4 * j + k = λ e. ne (one_parity i n j k low few e) in
                new ∙ ap (λ (ys : List ℕ). Some ys) (others (4 * i + n) off) ∙ sym was ∙ not_row i g (slot_in code w old i g) ne
          ]

      parity_slots : (count : ℕ) → Slots count with_parities
      parity_slots count i g l = elim (cases_lt g (data_count code)) [
        | inl low ↦
            data_alone code w (held_by size old.blob old.last i) (parities_by w parities i) (parities_by w old.parities i) g low
            ∙ not_slot i g (slot_in code w old i g) (λ e. absurd (let no : f < f = omega arith in omega arith))
        | inr from ↦ elim (cases_lt g (fragment_count code)) [
          | inl low ↦
              let four = parity_count code in
              parity_at i g (g - data_count code) (omega arith) (omega arith)
          | inr past ↦
              let four = parity_count code in
              part_none code w (held_by size old.blob old.last i) (parities_by w parities i) g past
              ∙ sym (part_none code w (held_by size old.blob old.last i) (parities_by w old.parities i) g past)
              ∙ not_slot i g (slot_in code w old i g) (λ e. absurd (let no : f < f = omega arith in omega arith))
        ]
      ]

      pub parities_written : (count : ℕ) → IsWritten code w count j f bytes old with_parities
      parities_written count = record {
        still = λ are. record { few = are.few; begin = are.begin; hold = are.hold; complete = long ∙ are.complete };
        slots = λ are. parity_slots count;
      }

-- ---- as a value has them
pub either : (b : Bool) {P Q R : Type 0} → OnTrue b P → OnFalse b Q → (P → R) → (Q → R) → R
either true p q f g = f p
either false p q f g = g q

module _ {A : Type 0} (inner : A → Parts) (parts : Option A) (a : A) (is : parts ≡ Some a) (code : Code) (w count : ℕ) (joined : List ℕ) (size : ℕ) where
  pub apart_view : packed code w (data_bytes inner parts joined size) (last_bytes inner parts) (parity_bytes inner parts joined size) count
      ≡ packed code w (inner a).blob (inner a).last (inner a).parities count
  apart_view = ap (λ (o : Option A). packed code w (data_bytes inner o joined size) (last_bytes inner o) (parity_bytes inner o joined size) count) is

  pub are_apart : ArePacked code w (data_bytes inner parts joined size) (last_bytes inner parts) (parity_bytes inner parts joined size) count
      → ArePacked code w (inner a).blob (inner a).last (inner a).parities count
  are_apart are = subst (λ (o : Option A). ArePacked code w (data_bytes inner o joined size) (last_bytes inner o) (parity_bytes inner o joined size) count) is are

module _ (code : Code) (w count : ℕ) where
  abbrev pub stripes_of : Parts → Stripes
  stripes_of p = packed code w p.blob p.last p.parities count

  slot_past : (p : Parts) (i g : ℕ) → count ≤ i → fragment_at (stripes_of p) i g ≡ None
  slot_past p i g past =
      ap (λ (row : List (Option (List ℕ))). get_or row g None) (get_or_past (stripes_of p) i [] (let e = packed_count code w p.blob p.last p.parities count in omega arith))

  pub all_slots : (j f : ℕ) (bytes : List ℕ) (old new : Parts) → j < count → ArePacked code w old.blob old.last old.parities count → IsWritten code w count j f bytes old new
      → (i g : ℕ) → fragment_at (stripes_of new) i g ≡ cond ((i == j) && (g == f)) (Some bytes) (fragment_at (stripes_of old) i g)
  all_slots j f bytes old new below are written i g = elim (cases_lt i count) [
    | inl l ↦
        packed_at code w new.blob new.last new.parities count i g l
        ∙ written.slots are i g l
        ∙ ap (λ (x : Option (List ℕ)). cond ((i == j) && (g == f)) (Some bytes) x) (sym (packed_at code w old.blob old.last old.parities count i g l))
    | inr past ↦
        slot_past new i g past
        ∙ sym (slot_past old i g past)
        ∙ sym (ap (λ (t : Bool). cond t (Some bytes) (fragment_at (stripes_of old) i g)) (off_row i j g f (λ e. absurd (let no : j < j = omega arith in omega arith))))
  ]
