-- The fragments that a catalogue lacks are the lost ones of each state with the catalogue's names.
use Rattle.std.proofs.Common.{◌≡◌, ℕ, zero, suc, ◌+◌, ◌*◌, ◌/◌, ◌%◌, ◌<◌, ◌≤◌, Bool, true, false, List, [], ◌∷◌, ◌++◌, Option, None, Some, map, cond, length, refl, sym, ap, ◌∙◌, subst, inl, inr, arith}
use Rattle.std.specs.Prelude.{nat_lt}
use Rattle.std.specs.Option.{option_map}
use Rattle.std.specs.FinMap as finite
use Rattle.std.specs.List.{AllByRecursion, list_any, flat_map}
use Rattle.std.specs.List.Sorted.{IsStrictlySortedBy}
use Rattle.std.specs.Map.{keys_of}
use Rattle.std.specs.BTreeMap.{is_at}
use Rattle.std.specs.declared.cmp.Ordering.TheVariants.{Less}
use Rattle.std.specs.Cmp.Lexicographic.{nat_list_cmp_total}
use Rattle.std.proofs.lemmas.Bool.{cases_eq, or_cases, or_left, or_right, and_parts, false≢true}
use Rattle.std.proofs.lemmas.Grind.{common_steps}
use Rattle.std.proofs.lemmas.List.{map-append, append_assoc}
use Rattle.std.proofs.lemmas.List.Folds.{list_any-append, flat_map-map}
use Rattle.std.proofs.lemmas.Map.Lookups.{exact_bytes}
use Rattle.std.proofs.lemmas.Map.Made.{lookup-map_values, keys_of-map_values}
use Rattle.lrc_code.specs.Code.{fragment_count}
use Rattle.sealed.proofs.Counting.{few_fragments}
use Rattle.sealed.specs.declared.value.Sealed.{Sealed}
use Rattle.sealed.specs.Blob.{pair_cmp}
use Rattle.history.specs.Names.{name_cmp}
use Rattle.history.specs.State.{Blob, IsLostInside}
use Rattle.history.specs.History.{History, state_of}
use Rattle.history.proofs.Inside.{lost_inside}
use Rattle.history.proofs.Keeping.{same_truth, lt_of}
use Rattle.book.specs.Contents.{Contents, sealed_at}
use Rattle.lrc_code.specs.Count.{count_below}
use Rattle.book.specs.Lacking.{lacks, lacked_below}
use Rattle.history.specs.Base.{pairs_of}
use Rattle.book.specs.Plan.{items_for, plan_of, items_lacked}
use Rattle.book.specs.Holds.{HoldsHistory, Represents, Correspond}
use Rattle.book.specs.declared.plan.Item.{Item}
use Rattle.book.proofs.Lacking.{lacks_alike}
use Rattle.history.proofs.Rising.{keys_rise, same_found, pairs_of-has, pairs_rise, same_pairs}
use Rattle.book.proofs.Rising.{all_push, rises_push}

-- ---- the list rises
rising_numbers : (n m : ℕ) → n < m → pair_cmp (n / 16, n % 16) (m / 16, m % 16) ≡ Less
rising_numbers n m l = grind (arith, common_steps)

all_cond : {K : Type 0} (P : K → Type 0) (b : Bool) (xs : List K) (k : K) → AllByRecursion P xs → P k → AllByRecursion P (cond b (xs ++ k ∷ []) xs)
all_cond P true xs k all last = all_push P xs k all last
all_cond P false xs k all last = all

module _ (s : Sealed) where
  below_number : (n m : ℕ) → n ≤ m → AllByRecursion (λ pair. pair_cmp pair (m / 16, m % 16) ≡ Less) (lacked_below s n)
  below_number zero m l = tt
  below_number (suc n) m l =
      all_cond (λ pair. pair_cmp pair (m / 16, m % 16) ≡ Less) (lacks s (n / 16) (n % 16)) (lacked_below s n) (n / 16, n % 16) (below_number n m (omega arith)) (rising_numbers n m (omega arith))

  rises_cond : (b : Bool) (n : ℕ) → IsStrictlySortedBy pair_cmp (lacked_below s n) → IsStrictlySortedBy pair_cmp (cond b (lacked_below s n ++ (n / 16, n % 16) ∷ []) (lacked_below s n))
  rises_cond true n rises = rises_push pair_cmp (lacked_below s n) (n / 16, n % 16) rises (below_number n n (omega arith))
  rises_cond false n rises = rises

  lacked_rises : (n : ℕ) → IsStrictlySortedBy pair_cmp (lacked_below s n)
  unfolding IsStrictlySortedBy
  lacked_rises zero = tt
  lacked_rises (suc n) = rises_cond (lacks s (n / 16) (n % 16)) n (lacked_rises n)

-- ---- and has just what the value lacks
tied_itself : (a b : ℕ) → is_at (pair_cmp (a, b)) (a, b) ≡ true
tied_itself a b = grind (arith, common_steps)

tied_pair : (a b c d : ℕ) → is_at (pair_cmp (a, b)) (c, d) ≡ true → (c ≡ a) × (d ≡ b)
tied_pair a b c d e = (grind (arith, common_steps), grind (arith, common_steps))

any_more : (t : ℕ × ℕ → Bool) (b : Bool) (xs : List (ℕ × ℕ)) (k : ℕ × ℕ) → list_any t xs ≡ true → list_any t (cond b (xs ++ k ∷ []) xs) ≡ true
any_more t true xs k any = list_any-append t xs (k ∷ []) ∙ or_left (list_any t xs) _ any
any_more t false xs k any = any

any_last : (t : ℕ × ℕ → Bool) (b : Bool) (xs : List (ℕ × ℕ)) (k : ℕ × ℕ) → b ≡ true → t k ≡ true → list_any t (cond b (xs ++ k ∷ []) xs) ≡ true
any_last t true xs k is last = list_any-append t xs (k ∷ []) ∙ or_right (list_any t xs) _ (or_left (t k) false last)
any_last t false xs k is last = absurd (false≢true is)

any_back : (t : ℕ × ℕ → Bool) (b : Bool) (xs : List (ℕ × ℕ)) (k : ℕ × ℕ) (P : Type 0) → (list_any t xs ≡ true → P) → (b ≡ true → t k ≡ true → P) → list_any t (cond b (xs ++ k ∷ []) xs) ≡ true → P
any_back t true xs k P before last any =
    elim (or_cases (list_any t xs) (list_any t (k ∷ [])) (sym (list_any-append t xs (k ∷ [])) ∙ any)) [
      | inl old ↦ before old
      | inr new ↦ elim (or_cases (t k) false new) [ inl is ↦ last refl is | inr none ↦ absurd (false≢true none) ]
    ]
any_back t false xs k P before last any = before any

module _ (s : Sealed) where
  has_number : (n k : ℕ) → k < n → lacks s (k / 16) (k % 16) ≡ true → list_any (is_at (pair_cmp (k / 16, k % 16))) (lacked_below s n) ≡ true
  has_number zero k l lacking = absurd (omega arith)
  has_number (suc n) k l lacking =
      elim (cases_eq k n) [
        | inl here ↦
            any_last (is_at (pair_cmp (k / 16, k % 16))) _ (lacked_below s n) _ (subst (λ i. lacks s (i / 16) (i % 16) ≡ true) here lacking)
            (subst (λ i. is_at (pair_cmp (k / 16, k % 16)) (i / 16, i % 16) ≡ true) here (tied_itself (k / 16) (k % 16)))
        | inr before ↦ any_more (is_at (pair_cmp (k / 16, k % 16))) _ (lacked_below s n) _ (has_number n k (omega (arith, before)) lacking)
      ]

  has_only : (n j f : ℕ) → list_any (is_at (pair_cmp (j, f))) (lacked_below s n) ≡ true → lacks s j f ≡ true
  has_only zero j f any = absurd (false≢true any)
  has_only (suc n) j f any =
      any_back (is_at (pair_cmp (j, f))) (lacks s (n / 16) (n % 16)) (lacked_below s n) (n / 16, n % 16) (lacks s j f ≡ true) (has_only n j f)
      (λ lacking tie. let same = tied_pair j f (n / 16) (n % 16) tie in subst (λ a. lacks s a f ≡ true) same.0 (subst (λ b. lacks s (n / 16) b ≡ true) same.1 lacking)) any

  has_lacking : (j f : ℕ) → lacks s j f ≡ true → list_any (is_at (pair_cmp (j, f))) (lacked_below s (16 * length s.stripes)) ≡ true
  has_lacking j f lacking =
      let parts = and_parts (nat_lt j (length s.stripes)) _ lacking in
      let more = and_parts (nat_lt f (fragment_count s.code)) _ parts.1 in
      let few = few_fragments s.code in
      let below : j < length s.stripes = lt_of j _ parts.0 in
      let inside : f < fragment_count s.code = lt_of f _ more.0 in
      let quotient : (16 * j + f) / 16 ≡ j = omega arith in
      let rest : (16 * j + f) % 16 ≡ f = omega arith in
      subst (λ a. list_any (is_at (pair_cmp (a, f))) (lacked_below s (16 * length s.stripes)) ≡ true) quotient
      (subst (λ b. list_any (is_at (pair_cmp ((16 * j + f) / 16, b))) (lacked_below s (16 * length s.stripes)) ≡ true) rest
      (has_number (16 * length s.stripes) (16 * j + f) (omega arith) ((λ i. lacks s (quotient i) (rest i)) ∙ lacking)))

  lacked_has : (q : ℕ × ℕ) → list_any (is_at (pair_cmp q)) (lacked_below s (16 * length s.stripes)) ≡ lacks s q.0 q.1
  lacked_has q = same_truth _ _ (has_only (16 * length s.stripes) q.0 q.1) (has_lacking q.0 q.1)

-- so these are the lost fragments of the blob that the value represents
same_lacked : (w : ℕ) (s : Sealed) (blob : Blob) → Represents w s blob → IsLostInside w blob → lacked_below s (16 * length s.stripes) ≡ pairs_of blob.lost
same_lacked w s blob is inside =
    same_pairs _ (pairs_of blob.lost) (lacked_rises s (16 * length s.stripes)) (pairs_rise blob.lost)
    (λ q. lacked_has s q ∙ sym (lacks_alike w s blob is inside q.0 q.1) ∙ sym (pairs_of-has blob.lost q))

-- ---- the list, made fragment by fragment
module _ (s : Sealed) (j f : ℕ) (few : f < 16) where
  numbered : (b : Bool) → lacks s j f ≡ b → lacked_below s (16 * j + (f + 1)) ≡ cond b (lacked_below s (16 * j + f) ++ (j, f) ∷ []) (lacked_below s (16 * j + f))
  numbered b is =
      let quotient : (16 * j + f) / 16 ≡ j = omega arith in
      let rest : (16 * j + f) % 16 ≡ f = omega arith in
      let next : 16 * j + (f + 1) ≡ suc (16 * j + f) = omega arith in
      ap (lacked_below s) next
      ∙ (λ i. cond (((λ k. lacks s (quotient k) (rest k)) ∙ is) i) (lacked_below s (16 * j + f) ++ (quotient i, rest i) ∷ []) (lacked_below s (16 * j + f)))

  pub one_item : (n : List ℕ) (before items after : List Item) → items ≡ before ++ items_for n s.version (lacked_below s (16 * j + f)) → lacks s j f ≡ true
      → after ≡ items ++ record { name = n; version = s.version; stripe = j; f = f } ∷ [] → after ≡ before ++ items_for n s.version (lacked_below s (16 * j + (f + 1)))
  one_item n before items after is lacking pushed =
      let item : ℕ × ℕ → Item = λ pair. record { name = n; version = s.version; stripe = pair.0; f = pair.1 } in
      pushed
      ∙ ap (λ (xs : List Item). xs ++ item (j, f) ∷ []) is
      ∙ append_assoc before (items_for n s.version (lacked_below s (16 * j + f))) (item (j, f) ∷ [])
      ∙ ap (λ (xs : List Item). before ++ xs) (sym (ap (map item) (numbered true lacking) ∙ map-append item (lacked_below s (16 * j + f)) ((j, f) ∷ [])))

  pub no_item : (n : List ℕ) → lacks s j f ≡ false → items_for n s.version (lacked_below s (16 * j + (f + 1))) ≡ items_for n s.version (lacked_below s (16 * j + f))
  no_item n there = ap (items_for n s.version) (numbered false there)

-- past the code's fragments the value lacks none
module _ (s : Sealed) (j : ℕ) where
  none_past : (f : ℕ) → fragment_count s.code ≤ f → lacks s j f ≡ false
  none_past f past = grind (arith, common_steps)

  pub all_fragments : (d f : ℕ) → f + d ≡ 16 → fragment_count s.code ≤ f → lacked_below s (16 * j + f) ≡ lacked_below s (16 * (j + 1))
  all_fragments zero f e past = ap (lacked_below s) (omega arith)
  all_fragments (suc d) f e past = sym (numbered s j f (omega arith) false (none_past f past)) ∙ all_fragments d (f + 1) (omega arith) (omega arith)

-- ---- nothing is listed of a value that lacks nothing
none_listed : (b : Bool) (c : ℕ) (xs : List (ℕ × ℕ)) (k : ℕ × ℕ) → cond b 1 0 + c ≡ 0 → (c ≡ 0 → xs ≡ []) → cond b (xs ++ k ∷ []) xs ≡ []
none_listed true c xs k e before = absurd (omega arith)
none_listed false c xs k e before = before (omega arith)

pub none_below : (s : Sealed) (n : ℕ) → count_below (λ i. lacks s (i / 16) (i % 16)) n ≡ 0 → lacked_below s n ≡ []
none_below s zero e = refl
none_below s (suc n) e = none_listed (lacks s (n / 16) (n % 16)) _ (lacked_below s n) (n / 16, n % 16) e (none_below s n)

-- ---- all names
abbrev of_value : Sealed → ℕ × List (ℕ × ℕ)
of_value s = (s.version, lacked_below s (16 * length s.stripes))

abbrev of_blob : Blob → ℕ × List (ℕ × ℕ)
of_blob blob = (blob.version, pairs_of blob.lost)

abbrev pub with_values : {X Y : Type 0} → (X → Y) → List (List ℕ × X) → List (List ℕ × Y)
with_values f es = map (λ e. (e.0, f e.1)) es

-- what is the same of each value and of the blob that it represents, is the same by name
module _ {Y : Type 0} (f : Sealed → Y) (g : Blob → Y) (w : ℕ) (alike : (s : Sealed) (blob : Blob) → Represents w s blob → IsLostInside w blob → f s ≡ g blob) where
  same_of : (x : Option Sealed) (y : Option Blob) → Correspond w x y → ((blob : Blob) → y ≡ Some blob → IsLostInside w blob) → option_map f x ≡ option_map g y
  same_of None None same inside = refl
  same_of (Some s) (Some blob) same inside = ap (λ y. Some y) (alike s blob same (inside blob refl))
  same_of None (Some blob) same inside = absurd same
  same_of (Some s) None same inside = absurd same

  pub same_by_name : (book : Contents) (h : History) → book.width ≡ w → IsStrictlySortedBy name_cmp (keys_of book.catalogue) → HoldsHistory book h
      → with_values f book.catalogue ≡ with_values g (finite.entries (state_of h).names)
  same_by_name book h width rises told =
      let names = (state_of h).names in
      same_found nat_list_cmp_total exact_bytes _ _ (subst (IsStrictlySortedBy name_cmp) (sym (keys_of-map_values f book.catalogue)) rises)
      (subst (IsStrictlySortedBy name_cmp) (sym (keys_of-map_values g (finite.entries names))) (keys_rise names))
      (λ q. lookup-map_values f (is_at (name_cmp q)) book.catalogue
      ∙ same_of (sealed_at book q) (finite.get names q) (subst (λ v. Correspond v (sealed_at book q) (finite.get names q)) width (told.catalogue q))
      (λ blob here. subst (λ v. IsLostInside v blob) width (lost_inside book.width h told.legal q blob here))
      ∙ ap (option_map g) (finite.get-entries names q)
      ∙ sym (lookup-map_values g (is_at (name_cmp q)) (finite.entries names)))

pub plan_is : (book : Contents) (h : History) → IsStrictlySortedBy name_cmp (keys_of book.catalogue) → HoldsHistory book h → flat_map items_lacked book.catalogue ≡ plan_of (state_of h)
plan_is book h rises told =
    let same : with_values of_value book.catalogue ≡ with_values of_blob (finite.entries (state_of h).names) =
    same_by_name of_value of_blob book.width (λ s blob is inside. λ i. (is.version i, same_lacked book.width s blob is inside i)) book h refl rises told in
    let items : List ℕ × (ℕ × List (ℕ × ℕ)) → List Item = λ e. items_for e.0 e.1.0 e.1.1 in
    sym (flat_map-map items (λ e. (e.0, of_value e.1)) book.catalogue) ∙ ap (flat_map items) same ∙ flat_map-map items (λ e. (e.0, of_blob e.1)) (finite.entries (state_of h).names)
