-- A single stripe whose fragments lie one behind another in one list.
use Rattle.std.proofs.Common.{◌≡◌, ◌≢◌, ℕ, ◌+◌, ◌-◌, ◌*◌, ◌<◌, ◌≤◌, ◌&&◌, ◌==◌, Bool, true, false, [], List, length, get_or, take, Option, None, Some, cond, refl, sym, ap, ap₂, ◌∙◌, subst, arith, inl, inr}
use Rattle.std.specs.Prelude.{slice_range, is_some}
use Rattle.std.proofs.Math.ListN.{drop}
use Rattle.std.proofs.lemmas.Bool.{cases_lt, cases_eq}
use Rattle.std.proofs.lemmas.Grind.{common_steps}
use Rattle.std.proofs.lemmas.Slice.{between_is}
use Rattle.std.proofs.lemmas.List.{get_or_past}
use lib.ListN.{length-drop}
use lib.Seq.{take-take, drop-drop, length-take-le}
use Rattle.lrc_code.specs.declared.Code.{Code}
use Rattle.lrc_code.specs.Code.{data_count, fragment_count}
use Rattle.sealed.specs.Layout.{stripe_size}
use Rattle.sealed.specs.Stripes.{Stripes, fragment_at}
use Rattle.sealed.specs.Packed.{held_by, parities_by, part_of, packed, ArePacked, data_bytes, last_bytes, parity_bytes}
use Rattle.sealed.specs.declared.packed.Parts.{Parts}
use Rattle.sealed.proofs.Changing.{off_slot, off_row}
use Rattle.sealed.proofs.Counting.{parity_count}
use Rattle.sealed.proofs.Packing.{packed_count, packed_at, part_ends, part_data, part_parity, part_none, slice_inside}

pub none_by : {A : Type 0} (o : Option A) → is_some o ≡ false → o ≡ None
none_by None e = refl
none_by (Some a) e = absurd (let no : true ≡ false = e in cc)

pub take_inside : (s a b : ℕ) (xs : List ℕ) → b ≤ s → slice_range (take s xs) a b ≡ slice_range xs a b
take_inside s a b xs l = between_is (take s xs) a b ∙ ap (drop a) (take-take b s xs l) ∙ sym (between_is xs a b)

pub drop_behind : (s a b : ℕ) (xs : List ℕ) → slice_range (drop s xs) a b ≡ slice_range xs (s + a) (s + b)
drop_behind s a b xs =
    ap (take (b - a)) (drop-drop a s xs)
    ∙ ap (λ n. take n (drop (s + a) xs)) (let e : b - a ≡ s + b - (s + a) = omega arith in e)

whole_range : (xs : List ℕ) (n : ℕ) → length xs ≡ n → slice_range xs 0 n ≡ xs
whole_range xs n l = grind (arith, common_steps)

held_all : (s : ℕ) (xs : List ℕ) → length xs ≡ s → held_by s xs [] 0 ≡ xs
held_all s xs l = grind (arith, common_steps)

parities_all : (w : ℕ) (xs : List ℕ) → length xs ≡ 4 * w → parities_by w xs 0 ≡ xs
parities_all w xs l =
    ap₂ (λ (a b : ℕ). slice_range xs a b) (let e : 4 * w * 0 ≡ 0 = omega arith in e) (let e : 4 * w * 0 + 4 * w ≡ 4 * w = omega arith in e)
    ∙ whole_range xs (4 * w) l

module _ (code : Code) (w : ℕ) (some : 1 ≤ w) (count : ℕ) where
  abbrev pub size : ℕ
  size = stripe_size code w

  abbrev pub stripes_in : List ℕ → Stripes
  stripes_in xs = packed code w (take size xs) [] (drop size xs) count

  abbrev pub AreIn : List ℕ → Type 0
  AreIn xs = ArePacked code w (take size xs) [] (drop size xs) count

  module _ (xs : List ℕ) (long : length xs ≡ size + 4 * w) where
    front : length (take size xs) ≡ size
    front = length-take-le size xs (omega arith)

    back : length (drop size xs) ≡ 4 * w
    back = let e = length-drop size xs in omega arith

    -- the fragments lie one behind another
    pub fragment_in : (f : ℕ) → f < fragment_count code
        → part_of code w (held_by size (take size xs) [] 0) (parities_by w (drop size xs) 0) f ≡ Some (slice_range xs (w * f) (w * f + w))
    fragment_in f l = elim (cases_lt f (data_count code)) [
      | inl below ↦
          part_data code w (held_by size (take size xs) [] 0) (parities_by w (drop size xs) 0) f below
          ∙ ap (λ (ys : List ℕ). Some (slice_range ys (w * f) (w * f + w))) (held_all size (take size xs) front)
          ∙ ap (λ (ys : List ℕ). Some ys) (take_inside size (w * f) (w * f + w) xs (slice_inside code w f below))
      | inr from ↦
          let k : ℕ = f - data_count code in
          let four = parity_count code in
          let low : k < 4 = omega arith in
          let is : f ≡ data_count code + k = omega arith in
          let at : size + w * k ≡ w * f = (let e : data_count code * w + w * k ≡ w * (data_count code + k) = omega arith in e ∙ ap (λ n. w * n) (sym is)) in
          part_parity code w (held_by size (take size xs) [] 0) (parities_by w (drop size xs) 0) f k is low
          ∙ ap (λ (ys : List ℕ). Some (slice_range ys (w * k) (w * k + w))) (parities_all w (drop size xs) back)
          ∙ ap (λ (ys : List ℕ). Some ys) (drop_behind size (w * k) (w * k + w) xs)
          ∙ ap₂ (λ (a b : ℕ). Some (slice_range xs a b)) at (let e : size + (w * k + w) ≡ size + w * k + w = omega arith in e ∙ ap (λ n. n + w) at)
    ]

  module _ (xs : List ℕ) (are : AreIn xs) (j : ℕ) (below : j < count) where
    -- there is one stripe
    pub only : (i : ℕ) → i < count → i ≡ 0
    only i l = elim (cases_lt 0 i) [
      | inl more ↦
          let ends : size * 0 + size ≤ size * i = part_ends size 0 i more in
          let begin : size * i < length (take size xs) = are.begin i l in
          let few : length (take size xs) ≤ size = grind (arith, common_steps) in
          absurd (let no : size * i < size * i = omega arith in omega arith)
      | inr none ↦ omega arith
    ]

    first : 0 < count
    first = omega arith

    pub full : length xs ≡ size + 4 * w
    full =
        let hold : length (held_by size (take size xs) [] 0) ≡ size = are.hold 0 first in
        let tail : length (drop size xs) ≡ 4 * w * count = are.complete in
        let one : count ≡ 1 = (elim (cases_lt 1 count) [
          | inl more ↦ absurd (let no : 1 ≡ 0 = only 1 more in omega arith)
          | inr upto ↦ omega arith
        ]) in
        let tail_is : length (drop size xs) ≡ 4 * w * 1 = tail ∙ ap (λ n. 4 * w * n) one in
        let dropped = length-drop size xs in
        omega arith

    -- other bytes of that length are a stripe too
    pub still : (ys : List ℕ) → length ys ≡ length xs → AreIn ys
    still ys same =
        let long : length ys ≡ size + 4 * w = same ∙ full in
        record {
          few = are.few;
          begin = λ i l. subst (λ n. size * i < n) (front xs full ∙ sym (front ys long)) (are.begin i l);
          hold = λ i l. subst (λ k. length (held_by size (take size ys) [] k) ≡ size) (sym (only i l)) (ap length (held_all size (take size ys) (front ys long)) ∙ front ys long);
          complete = back ys long ∙ sym (back xs full) ∙ are.complete;
        }

  pub here_true : (i j g f : ℕ) → i ≡ j → g ≡ f → ((i == j) && (g == f)) ≡ true
  here_true i j g f a b = grind (arith, common_steps)

  module _ (xs : List ℕ) (long : length xs ≡ size + 4 * w) where
    slot_some : (i g : ℕ) → i < count → i ≡ 0 → g < fragment_count code → fragment_at (stripes_in xs) i g ≡ Some (slice_range xs (w * g) (w * g + w))
    slot_some i g l zero inside =
        packed_at code w (take size xs) [] (drop size xs) count i g l
        ∙ ap (λ k. part_of code w (held_by size (take size xs) [] k) (parities_by w (drop size xs) k) g) zero
        ∙ fragment_in xs long g inside

    slot_none : (i g : ℕ) → i < count → fragment_count code ≤ g → fragment_at (stripes_in xs) i g ≡ None
    slot_none i g l past =
        packed_at code w (take size xs) [] (drop size xs) count i g l
        ∙ part_none code w (held_by size (take size xs) [] i) (parities_by w (drop size xs) i) g past

    slot_past : (i g : ℕ) → count ≤ i → fragment_at (stripes_in xs) i g ≡ None
    slot_past i g past = ap (λ (row : List (Option (List ℕ))). get_or row g None) (get_or_past (stripes_in xs) i [] (let e = packed_count code w (take size xs) [] (drop size xs) count in omega arith))

  -- one fragment is written
  pub written : (xs ys : List ℕ) (are : AreIn xs) (j f : ℕ) (bytes : List ℕ) → j < count → f < fragment_count code → length ys ≡ length xs
      → slice_range ys (w * f) (w * f + w) ≡ bytes → ((m : ℕ) → m ≢ f → slice_range ys (w * m) (w * m + w) ≡ slice_range xs (w * m) (w * m + w))
      → (i g : ℕ) → fragment_at (stripes_in ys) i g ≡ cond ((i == j) && (g == f)) (Some bytes) (fragment_at (stripes_in xs) i g)
  written xs ys are j f bytes below inside same here others i g =
      let old : length xs ≡ size + 4 * w = full xs are j below in
      let new : length ys ≡ size + 4 * w = same ∙ old in
      elim (cases_lt i count) [
        | inl l ↦ elim (cases_lt g (fragment_count code)) [
          | inl low ↦
              let zero : i ≡ 0 = only xs are j below i l in
              elim (cases_eq g f) [
                | inl is ↦
                    slot_some ys new i g l zero low
                    ∙ ap (λ (k : ℕ). Some (slice_range ys (w * k) (w * k + w))) is
                    ∙ ap (λ (bs : List ℕ). Some bs) here
                    ∙ sym (ap (λ (b : Bool). cond b (Some bytes) (fragment_at (stripes_in xs) i g)) (here_true i j g f (zero ∙ sym (only xs are j below j below)) is))
                | inr ne ↦
                    slot_some ys new i g l zero low
                    ∙ ap (λ (bs : List ℕ). Some bs) (others g ne)
                    ∙ sym (slot_some xs old i g l zero low)
                    ∙ sym (ap (λ (b : Bool). cond b (Some bytes) (fragment_at (stripes_in xs) i g)) (off_slot i j g f ne))
              ]
          | inr past ↦
              slot_none ys new i g l past
              ∙ sym (slot_none xs old i g l past)
              ∙ sym (ap (λ (b : Bool). cond b (Some bytes) (fragment_at (stripes_in xs) i g)) (off_slot i j g f (λ e. let no : f < f = omega arith in omega arith)))
        ]
        | inr past ↦
            slot_past ys new i g past
            ∙ sym (slot_past xs old i g past)
            ∙ sym (ap (λ (b : Bool). cond b (Some bytes) (fragment_at (stripes_in xs) i g)) (off_row i j g f (λ e. let no : j < j = omega arith in omega arith)))
      ]

  -- as a value has them
  module _ {A : Type 0} (inner : A → Parts) (parts : Option A) (none : parts ≡ None) where
    pub joined_view : (xs : List ℕ) → packed code w (data_bytes inner parts xs size) (last_bytes inner parts) (parity_bytes inner parts xs size) count ≡ stripes_in xs
    joined_view xs = ap (λ (o : Option A). packed code w (data_bytes inner o xs size) (last_bytes inner o) (parity_bytes inner o xs size) count) none

    pub are_joined : (xs : List ℕ) → ArePacked code w (data_bytes inner parts xs size) (last_bytes inner parts) (parity_bytes inner parts xs size) count → AreIn xs
    are_joined xs are = subst (λ (o : Option A). ArePacked code w (data_bytes inner o xs size) (last_bytes inner o) (parity_bytes inner o xs size) count) none are

    pub are_back : (xs : List ℕ) → AreIn xs → ArePacked code w (data_bytes inner parts xs size) (last_bytes inner parts) (parity_bytes inner parts xs size) count
    are_back xs are = subst (λ (o : Option A). ArePacked code w (data_bytes inner o xs size) (last_bytes inner o) (parity_bytes inner o xs size) count) (sym none) are
