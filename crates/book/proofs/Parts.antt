-- Plans in parts.
use Rattle.std.proofs.Common.{◌≡◌, ℕ, zero, suc, ◌+◌, ◌*◌, ◌/◌, ◌%◌, ◌<◌, ◌≤◌, Bool, true, false, ◌&&◌, List, [], ◌∷◌, ◌++◌, Option, None, Some, Result, Ok, Err, IfOk, take, cond, length, refl, sym, ap, ◌∙◌, inl, inr, arith}
use Rattle.std.specs.Prelude.{nat_eq}
use Rattle.std.specs.Cmp.{Equal-is}
use Rattle.std.specs.Cmp.Lexicographic.{pointwise, texts_ties}
use Rattle.std.specs.List.{filter, flat_map, list_any}
use Rattle.std.specs.List.Sorted.{IsStrictlySortedBy}
use Rattle.std.specs.Map.{keys_of}
use Rattle.std.specs.BTreeMap.{is_at}
use Rattle.std.specs.BTreeMap.Range.{range_contains}
use Rattle.std.specs.Ordering.{is_le, is_lt, ordering_then}
use Rattle.std.specs.declared.alloc.AllocError.{AllocError}
use Rattle.std.specs.declared.ops.Bound.TheVariants.{Unbounded}
use Rattle.std.specs.declared.cmp.Ordering.{Ordering}
use Rattle.std.specs.declared.cmp.Ordering.TheVariants.{Equal}
use Rattle.std.proofs.lemmas.Bool.{and_parts, cases_eq, false≢true}
use Rattle.std.proofs.lemmas.Grind.{common_steps}
use Rattle.std.proofs.lemmas.List.{map-append, append-nil, append_assoc, take_all, take-append-le, length-take, length-append}
use Rattle.std.proofs.lemmas.List.Elements.{filter-append}
use Rattle.sealed.specs.declared.value.Sealed.{Sealed}
use Rattle.sealed.specs.Blob.{pair_cmp}
use Rattle.history.specs.Names.{name_cmp}
use Rattle.history.specs.History.{History}
use Rattle.book.specs.Catalogue.{lacks_at, items_from, bound_from}
use Rattle.book.specs.Lacking.{lacks, lacked_below}
use Rattle.book.specs.Losing.{Catalogue, value_at}
use Rattle.book.specs.Plan.{items_for, items_lacked, is_behind, items_after}
use Rattle.book.specs.declared.plan.Item.{Item}
use Rattle.book.specs.declared.plan.Plan.{Plan}
use Rattle.book.proofs.Lacks.{lacking_listed}
use Rattle.book.proofs.Planning.{one_item, no_item}

-- ---- the first elements
module _ {X : Type 0} (m : ℕ) where
  pub take_push : (xs items : List X) (x : X) → items ≡ take m xs → length items < m → items ++ x ∷ [] ≡ take m (xs ++ x ∷ [])
  take_push xs items x is less =
      let fewer : length xs < m = omega (arith, ap length is, length-take m xs, less) in
      ap (λ (l : List X). l ++ x ∷ []) (is ∙ take_all m xs (omega arith)) ∙ sym (take_all m (xs ++ x ∷ []) (omega (arith, length-append xs (x ∷ []))))

  pub take_full : (xs ys items : List X) → items ≡ take m xs → m ≤ length items → items ≡ take m (xs ++ ys)
  take_full xs ys items is full = is ∙ sym (take-append-le m xs ys (omega (arith, ap length is, length-take m xs, full)))

pub take_again : {X : Type 0} (m : ℕ) (xs ys : List X) → take m (take m xs ++ ys) ≡ take m (xs ++ ys)
take_again zero xs ys = refl
take_again (suc m) [] ys = refl
take_again {X} (suc m) (x ∷ xs) ys = ap (λ (l : List X). x ∷ l) (take_again m xs ys)

-- ---- the items of one value, fragment by fragment
module _ (a : Option Item) (n : List ℕ) (s : Sealed) where
  -- those behind the item, of the fragments numbered below k
  abbrev pub behind_below : ℕ → List Item
  behind_below k = items_after a (items_for n s.version (lacked_below s k))

  abbrev item_at : ℕ → ℕ → Item
  item_at j f = record { name = n; version = s.version; stripe = j; f = f }

  one_behind : (b : Bool) (item : Item) (items : List Item) → is_behind a item.name item.stripe item.f ≡ b → items_after a (items ++ item ∷ []) ≡ items_after a items ++ cond b (item ∷ []) []
  one_behind b item items is =
      filter-append (λ (i : Item). is_behind a i.name i.stripe i.f) items (item ∷ []) ∙ ap (λ c. items_after a items ++ cond c (item ∷ []) []) is

  module _ (j f : ℕ) (few : f < 16) where
    next_lost : (b : Bool) → lacks s j f ≡ true → is_behind a n j f ≡ b → behind_below (16 * j + (f + 1)) ≡ behind_below (16 * j + f) ++ cond b (item_at j f ∷ []) []
    next_lost b lacking is =
        let before : List Item = items_for n s.version (lacked_below s (16 * j + f)) in
        ap (items_after a) (sym (one_item s j f few n [] before (before ++ item_at j f ∷ []) refl lacking refl)) ∙ one_behind b (item_at j f) before is

    same_next : (b c : Bool) → lacks s j f ≡ b → is_behind a n j f ≡ c → (b && c) ≡ false → behind_below (16 * j + (f + 1)) ≡ behind_below (16 * j + f)
    same_next false c lacking is none = ap (items_after a) (no_item s j f few n lacking)
    same_next true false lacking is none = next_lost false lacking is ∙ append-nil (behind_below (16 * j + f))
    same_next true true lacking is none = absurd (false≢true (sym none))

    pub pushes : (m : ℕ) (old items new : List Item) → items ≡ take m (old ++ behind_below (16 * j + f)) → length items < m → (lacks s j f && is_behind a n j f) ≡ true
        → new ≡ items ++ item_at j f ∷ [] → new ≡ take m (old ++ behind_below (16 * j + (f + 1)))
    pushes m old items new is less due pushed =
        let parts = and_parts (lacks s j f) (is_behind a n j f) due in
        pushed
        ∙ take_push m (old ++ behind_below (16 * j + f)) items (item_at j f) is less
        ∙ ap (take m) (append_assoc old (behind_below (16 * j + f)) (item_at j f ∷ []) ∙ ap (λ (l : List Item). old ++ l) (sym (next_lost true parts.0 parts.1)))

    pub skips : (m : ℕ) (old items : List Item) → items ≡ take m (old ++ behind_below (16 * j + f)) → (lacks s j f && is_behind a n j f) ≡ false → items ≡ take m (old ++ behind_below (16 * j + (f + 1)))
    skips m old items is none = is ∙ ap (λ (l : List Item). take m (old ++ l)) (sym (same_next (lacks s j f) (is_behind a n j f) refl refl none))

  one_more : (b : Bool) (pairs : List (ℕ × ℕ)) (p : ℕ × ℕ) → (rest : List Item) × (items_after a (items_for n s.version (cond b (pairs ++ p ∷ []) pairs)) ≡ items_after a (items_for n s.version pairs) ++ rest)
  one_more true pairs p =
      let item : ℕ × ℕ → Item = λ pair. item_at pair.0 pair.1 in
      (items_after a (item p ∷ []), ap (items_after a) (map-append item pairs (p ∷ [])) ∙ filter-append (λ (i : Item). is_behind a i.name i.stripe i.f) (items_for n s.version pairs) (item p ∷ []))
  one_more false pairs p = ([], sym (append-nil (items_after a (items_for n s.version pairs))))

  more_below : (k l : ℕ) → k ≤ l → (rest : List Item) × (behind_below l ≡ behind_below k ++ rest)
  more_below k zero le = (let none : 0 ≡ k = omega (arith, le) in ([], ap behind_below none ∙ sym (append-nil (behind_below k))))
  more_below k (suc l) le =
      elim (cases_eq k (suc l)) [
        | inl same ↦ ([], ap behind_below (sym same) ∙ sym (append-nil (behind_below k)))
        | inr less ↦
            let last = one_more (lacks s (l / 16) (l % 16)) (lacked_below s l) (l / 16, l % 16) in
            let before = more_below k l (omega (arith, le, less)) in
            (before.0 ++ last.0, last.1 ∙ ap (λ (items : List Item). items ++ last.0) before.1 ∙ append_assoc (behind_below k) before.0 last.0)
      ]

  -- once there are m items, the others change nothing
  pub full_below : (m k l : ℕ) (old items : List Item) → k ≤ l → items ≡ take m (old ++ behind_below k) → m ≤ length items → items ≡ take m (old ++ behind_below l)
  full_below m k l old items le is full =
      let more = more_below k l le in
      take_full m (old ++ behind_below k) more.0 items is full
      ∙ ap (take m) (append_assoc old (behind_below k) more.0 ∙ ap (λ (items : List Item). old ++ items) (sym more.1))

  -- nothing is listed of the stripes before the item's
  one_none : (b : Bool) (pairs : List (ℕ × ℕ)) (p : ℕ × ℕ) → is_behind a n p.0 p.1 ≡ false → items_after a (items_for n s.version pairs) ≡ [] → items_after a (items_for n s.version (cond b (pairs ++ p ∷ []) pairs)) ≡ []
  one_none true pairs p is none =
      ap (items_after a) (map-append (λ (pair : ℕ × ℕ). item_at pair.0 pair.1) pairs (p ∷ []))
      ∙ one_behind false (item_at p.0 p.1) (items_for n s.version pairs) is
      ∙ append-nil (items_after a (items_for n s.version pairs))
      ∙ none
  one_none false pairs p is none = none

  module _ (first : ℕ) (none : (j f : ℕ) → j < first → is_behind a n j f ≡ false) where
    none_before : (k : ℕ) → k ≤ 16 * first → behind_below k ≡ []
    none_before zero le = refl
    none_before (suc k) le =
        one_none (lacks s (k / 16) (k % 16)) (lacked_below s k) (k / 16, k % 16) (none (k / 16) (k % 16) (omega arith)) (none_before k (omega arith))

    pub starts_at : (m k : ℕ) (old : List Item) → k ≤ 16 * first → length old ≤ m → old ≡ take m (old ++ behind_below k)
    starts_at m k old le few =
        sym (ap (λ (l : List Item). take m (old ++ l)) (none_before k le) ∙ ap (take m) (append-nil old) ∙ take_all m old few)

-- ---- the stripes from which on a value's fragments can come behind the item
pub none_earlier : (item : Item) (n : List ℕ) (j f : ℕ) → (pointwise nat_eq item.name n) ≡ true → j < item.stripe → is_behind (Some item) n j f ≡ false
none_earlier item n j f same less =
    let tied : name_cmp item.name n ≡ Equal = (Equal-is (name_cmp item.name n)).0 (sym (texts_ties item.name n) ∙ same) in
    ap (λ o. is_lt (ordering_then o (pair_cmp (item.stripe, item.f) (j, f)))) tied ∙ not_behind item.stripe item.f j f less
  where
    not_behind : (s g j f : ℕ) → j < s → is_lt (ordering_then Equal (pair_cmp (s, g) (j, f))) ≡ false
    not_behind s g j f less = grind (arith, common_steps)

-- ---- all names
pub take_more : {X : Type 0} (m : ℕ) (items more rest new : List X) → new ≡ take m (items ++ more) → take m (new ++ rest) ≡ take m (items ++ (more ++ rest))
take_more {X} m items more rest new is = ap (λ (l : List X). take m (l ++ rest)) is ∙ take_again m (items ++ more) rest ∙ ap (take m) (append_assoc items more rest)

pub few_taken : {X : Type 0} (m : ℕ) (xs new : List X) → new ≡ take m xs → length new ≤ m
few_taken m xs new is = omega (arith, ap length is, length-take m xs)

after_all : {X : Type 0} (a : Option Item) (f : X → List Item) (xs : List X) → items_after a (flat_map f xs) ≡ flat_map (λ x. items_after a (f x)) xs
after_all a f [] = refl
after_all a f (x ∷ xs) = filter-append (λ (i : Item). is_behind a i.name i.stripe i.f) (f x) (flat_map f xs) ∙ ap (λ (l : List Item). items_after a (f x) ++ l) (after_all a f xs)

one_left : {X : Type 0} (b : Bool) (g : X → List Item) (x : X) (xs all : List X) → (b ≡ false → g x ≡ []) → flat_map g xs ≡ flat_map g all → flat_map g (cond b (x ∷ xs) xs) ≡ g x ++ flat_map g all
one_left true g x xs all none same = ap (λ (l : List Item). g x ++ l) same
one_left false g x xs all none same = same ∙ ap (λ (l : List Item). l ++ flat_map g all) (sym (none refl))

left : {X : Type 0} (p : X → Bool) (g : X → List Item) → ((x : X) → p x ≡ false → g x ≡ []) → (xs : List X) → flat_map g (filter p xs) ≡ flat_map g xs
left p g none [] = refl
left p g none (x ∷ xs) = one_left (p x) g x (filter p xs) xs (none x) (left p g none xs)

-- nothing is listed of the names before the item's
abbrev in_part : Option Item → List ℕ → Bool
in_part a n = range_contains name_cmp (bound_from a) Unbounded n

above_none : (o p : Ordering) → (is_le o && true) ≡ false → is_lt (ordering_then o p) ≡ false
above_none o p above = grind (arith, common_steps)

earlier_name : (a : Option Item) (n : List ℕ) (j f : ℕ) → in_part a n ≡ false → is_behind a n j f ≡ false
earlier_name None n j f out = absurd (false≢true (sym out))
earlier_name (Some item) n j f out = above_none (name_cmp item.name n) (pair_cmp (item.stripe, item.f) (j, f)) out

one_out : (b : Bool) (item : Item) (items : List Item) → b ≡ false → items ≡ [] → cond b (item ∷ items) items ≡ []
one_out true item items is none = absurd (false≢true (sym is))
one_out false item items is none = none

no_pairs : (a : Option Item) (n : List ℕ) (version : ℕ) → in_part a n ≡ false → (pairs : List (ℕ × ℕ)) → items_after a (items_for n version pairs) ≡ []
no_pairs a n version out [] = refl
no_pairs a n version out (p ∷ pairs) = one_out (is_behind a n p.0 p.1) _ (items_after a (items_for n version pairs)) (earlier_name a n p.0 p.1 out) (no_pairs a n version out pairs)

no_items : (a : Option Item) (n : List ℕ) (x : Option Sealed) → in_part a n ≡ false → items_after a (items_from (n, x)) ≡ []
no_items a n None out = refl
no_items a n (Some s) out = no_pairs a n s.version out (lacked_below s (16 * length s.stripes))

-- the items behind the item, of the value of a name
abbrev pub behind_at : Option Item → Catalogue → List ℕ → List Item
behind_at a es n = items_after a (items_from (n, value_at es n))

pub part_listed : (a : Option Item) (es : Catalogue) (names part : List (List ℕ)) → IsStrictlySortedBy name_cmp (keys_of es) → IsStrictlySortedBy name_cmp names
    → ((q : List ℕ) → list_any (is_at (name_cmp q)) names ≡ lacks_at es q) → part ≡ filter (range_contains name_cmp (bound_from a) Unbounded) names
    → flat_map (behind_at a es) part ≡ items_after a (flat_map items_lacked es)
part_listed a es names part rises rising agree is =
    ap (flat_map (behind_at a es)) is
    ∙ left (in_part a) (behind_at a es) (λ n. no_items a n (value_at es n)) names
    ∙ sym (after_all a (λ n. items_from (n, value_at es n)) names)
    ∙ ap (items_after a) (lacking_listed es names rises rising agree)

-- ---- a part without a border, of as many items as a list can have, is the plan
all_behind : (items : List Item) → items_after None items ≡ items
all_behind [] = refl
all_behind (item ∷ items) = ap (λ (l : List Item). item ∷ l) (all_behind items)

pub whole_part : (m : ℕ) (whole items : List Item) → items ≡ take m (items_after None whole) → length items < m → items ≡ whole
whole_part m whole items is few =
    let fewer : length (items_after None whole) < m = omega (arith, ap length is, length-take m (items_after None whole), few) in
    is ∙ take_all m (items_after None whole) (omega arith) ∙ all_behind whole

pub whole_plan : (r : Result Plan AllocError) (P : History → Type 0) (items_of : History → List Item) → IfOk r (λ p. (h : History) → P h → p.items.items ≡ take 18446744073709551615 (items_after None (items_of h)))
    → IfOk r (λ p. (h : History) → P h → p.items.items ≡ items_of h)
whole_plan (Err e) P items_of part = tt
whole_plan (Ok p) P items_of part = λ h holds. whole_part 18446744073709551615 (items_of h) p.items.items (part h holds) (omega (arith, p.items.ok, p.items.small))
