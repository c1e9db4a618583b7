-- A blob's metadata determines which fragments are unrecoverable.
use Rattle.std.proofs.Common.{◌≡◌, ℕ, ◌+◌, ◌-◌, ◌*◌, ◌/◌, ◌%◌, ◌<◌, ◌≤◌, Bool, true, false, ◌&&◌, List, [], ◌∷◌, cond, refl, sym, ap, ◌∙◌, subst, arith, inl, inr}
use Rattle.std.specs.Prelude.{nat_le, nat_lt, IsTrue, ◌↔◌, ◌||◌, ◌==◌, not}
use Rattle.std.specs.List.{list_any, list_all, filter}
use Rattle.std.specs.BTreeMap.{is_at}
use Rattle.std.specs.BTreeMap.Range.{IsLeBy, range_contains}
use Rattle.std.specs.BTreeSet.{keys_between}
use Rattle.std.specs.declared.ops.Bound.TheVariants.{Included}
use Rattle.std.proofs.lemmas.Nat.{le-div, div-mul-add}
use Rattle.std.proofs.lemmas.Bool.{or_cases, or_left, or_right, or_parts, and_parts, cases_Bool, not-true, false≢true}
use Rattle.std.proofs.lemmas.Grind.{common_steps}
use Rattle.std.proofs.lemmas.Map.Views.{any-filter_same, range_contains-from_IsInRange, IsInRange-from_range_contains}
use Rattle.lrc_code.specs.declared.Code.{Code}
use Rattle.lrc_code.specs.Code.{fragment_count, data_count, Open}
use Rattle.lrc_code.proofs.Recoverable.{exact, not_open_left}
use Rattle.lrc_code.proofs.Stripes.{open_same}
use Rattle.sealed.specs.Layout.{HasFragment, stripe_count, stripe_of, fragment_of}
use Rattle.sealed.specs.Blob.{pair_cmp}
use Rattle.sealed.proofs.Counting.{some_data, data_is_counted, few_fragments, div_mono}
use Rattle.sealed.proofs.Places.{fragment_inside, stripe_by_count, fragment_by_count}
use Rattle.sealed.specs.Range.{HasUnrecoverableByte}
use Rattle.sealed.proofs.Readable.{Meets, has_open}
use Rattle.history.specs.Views.{open_test, open_in_range}
use Rattle.history.specs.Metadata.{lost_of, is_open_between}
use Rattle.history.specs.declared.metadata.BlobMetadata.{BlobMetadata}
use Rattle.history.proofs.Replies.{below_of, open_found}
use Rattle.sealed.proofs.Changing.{pairs_total}

pub same_truth : (a b : Bool) → (a ≡ true → b ≡ true) → (b ≡ true → a ≡ true) → a ≡ b
same_truth true b forth back = sym (forth refl)
same_truth false true forth back = back refl
same_truth false false forth back = refl

-- a set of lost fragments determines which are unrecoverable
pub open_known : (code : Code) (known lost : ℕ → Bool) (f : ℕ) (r : Bool) → f < fragment_count code → IsTrue r ↔ Open code known f
    → ((g : ℕ) → g < 16 → known g ≡ lost g) → r ≡ open_test code lost f
open_known code known lost f r l is same =
    let few = few_fragments code in
    same_truth r (open_test code lost f)
    (λ t. (exact code lost f l).1 (open_same code known lost f (λ i h. same i (omega arith)) (is.0 t)))
    (λ t. is.1 (open_same code lost known f (λ i h. sym (same i (omega arith))) ((exact code lost f l).0 t)))

-- ---- lists of pairs
same_pair : (j f a b : ℕ) → is_at (pair_cmp (j, f)) (a, b) ≡ true → (j ≡ a) × (f ≡ b)
same_pair j f a b e = (grind (arith, common_steps), grind (arith, common_steps))

any_at : (test : ℕ × ℕ → Bool) (j f : ℕ) (pairs : List (ℕ × ℕ)) → list_any (is_at (pair_cmp (j, f))) pairs ≡ true → test (j, f) ≡ true → list_any test pairs ≡ true
any_at test j f [] h t = h
any_at test j f ((a, b) ∷ pairs) h t =
    elim (or_cases (is_at (pair_cmp (j, f)) (a, b)) _ h) [
      | inl here ↦ let same = same_pair j f a b here in or_left (test (a, b)) _ (subst (λ x. test (a, x) ≡ true) same.1 (subst (λ x. test (x, f) ≡ true) same.0 t))
      | inr later ↦ or_right (test (a, b)) _ (any_at test j f pairs later t)
    ]

some_pair : (test : ℕ × ℕ → Bool) (pairs : List (ℕ × ℕ)) → list_any test pairs ≡ true → (p : ℕ × ℕ) × (test p ≡ true)
some_pair test [] h = absurd (false≢true h)
some_pair test (p ∷ pairs) h = elim (or_cases (test p) _ h) [ inl here ↦ (p, here) | inr later ↦ some_pair test pairs later ]

-- ---- open data fragments
pub le_of : (a b : ℕ) → nat_le a b ≡ true → a ≤ b
le_of a b h = grind (arith, common_steps)

pub lt_of : (a b : ℕ) → nat_lt a b ≡ true → a < b
lt_of a b h = grind (arith, common_steps)

pub is_le : (a b : ℕ) → a ≤ b → nat_le a b ≡ true
is_le a b h = grind (arith, common_steps)

pub is_lt : (a b : ℕ) → a < b → nat_lt a b ≡ true
is_lt a b h = grind (arith, common_steps)

pub both : (a b : Bool) → a ≡ true → b ≡ true → (a && b) ≡ true
both a b h k = grind (arith, common_steps)

-- the test for a fragment that the blob lacks
pub by_fragment : (code : Code) (w len j f : ℕ) (r : Bool) → IsTrue r ↔ HasFragment code w len j f → not r ≡ (nat_le (stripe_count code w len) j || nat_le (fragment_count code) f)
by_fragment code w len j f r is =
    same_truth _ _
    (λ no. elim (cases_Bool (nat_le (stripe_count code w len) j || nat_le (fragment_count code) f)) [
      | inl gone ↦ gone
      | inr there ↦
          let parts = or_parts (nat_le (stripe_count code w len) j) _ there in
          absurd (false≢true (sym (not-true r no) ∙ is.1 (below_of _ j parts.0, below_of _ f parts.1)))
    ])
    (λ gone. elim (cases_Bool r) [
      | inl there ↦
          elim (or_cases (nat_le (stripe_count code w len) j) (nat_le (fragment_count code) f) gone) [
            | inl past ↦ (let a = le_of _ _ past in let b = (is.0 there).0 in absurd (omega arith))
            | inr past ↦ (let a = le_of _ _ past in let b = (is.0 there).1 in absurd (omega arith))
          ]
      | inr none ↦ ap not none
    ])

module _ (k : BlobMetadata) (w start len : ℕ) (some : 1 ≤ w) (bytes : 0 < len) where
  meets : (n : ℕ) → start / w ≤ n → n ≤ (start + len - 1) / w → Meets w start len n
  meets n low high = record { first = low; last = grind arith }

  -- the number of a pair's fragment determines the pair
  stripe_back : (j f : ℕ) → f < data_count k.code → (data_count k.code * j + f) / data_count k.code ≡ j
  stripe_back j f l = ap (λ n. n / data_count k.code) (let e : data_count k.code * j + f ≡ j * data_count k.code + f = omega arith in e) ∙ div-mul-add j (data_count k.code) f l

  fragment_back : (j f : ℕ) → f < data_count k.code → (data_count k.code * j + f) % data_count k.code ≡ f
  fragment_back j f l =
      let q : (data_count k.code * j + f) / data_count k.code ≡ j = stripe_back j f l in
      let n = data_count k.code * j + f in
      let whole : data_count k.code * (n / data_count k.code) + n % data_count k.code ≡ n = (let s = some_data k.code in omega arith) in
      let whole' : data_count k.code * j + n % data_count k.code ≡ n = subst (λ (x : ℕ). data_count k.code * x + n % data_count k.code ≡ n) q whole in
      omega arith

  has_one : list_any (is_open_between k (start / w) ((start + len - 1) / w)) k.lost.keys ≡ true → HasUnrecoverableByte k.code w (lost_of k) start len
  has_one h =
      let found = some_pair (is_open_between k (start / w) ((start + len - 1) / w)) k.lost.keys h in
      let j = found.0.0 in
      let f = found.0.1 in
      let n = data_count k.code * j + f in
      let parts = and_parts (nat_lt f (data_count k.code) && (nat_le (start / w) n && nat_le n ((start + len - 1) / w))) _ found.1 in
      let inner = and_parts (nat_lt f (data_count k.code)) _ parts.0 in
      let ends = and_parts (nat_le (start / w) n) _ inner.1 in
      let l : f < data_count k.code = lt_of f (data_count k.code) inner.0 in
      let more = data_is_counted k.code in
      let opened : Open k.code (lost_of k j) f = (exact k.code (lost_of k j) f (omega arith)).0 parts.1 in
      has_open k.code w some start len (lost_of k) n (meets n (le_of (start / w) n ends.0) (le_of n ((start + len - 1) / w) ends.1))
      (subst (λ x. Open k.code (lost_of k x) (n % data_count k.code)) (sym (stripe_back j f l)) (subst (λ x. Open k.code (lost_of k j) x) (sym (fragment_back j f l)) opened))

  is_one : HasUnrecoverableByte k.code w (lost_of k) start len → list_any (is_open_between k (start / w) ((start + len - 1) / w)) k.lost.keys ≡ true
  is_one o =
      let i = o.0 in
      let j = stripe_of k.code w i in
      let f = fragment_of k.code w i in
      let l : f < data_count k.code = fragment_inside k.code w some i in
      let more = data_is_counted k.code in
      let inside : f < fragment_count k.code = omega arith in
      let number : data_count k.code * j + f ≡ i / w =
      (λ t. data_count k.code * stripe_by_count k.code w some i t + fragment_by_count k.code w some i t) ∙ (let s = some_data k.code in omega arith) in
      let low : start / w ≤ i / w = div_mono w start i some o.1 in
      let high : i / w ≤ (start + len - 1) / w = div_mono w i (start + len - 1) some (let h = o.2 in omega arith) in
      let lost : lost_of k j f ≡ true = elim (cases_Bool (lost_of k j f)) [ inl t ↦ t | inr t ↦ absurd (not_open_left k.code (lost_of k j) f inside t o.3) ] in
      any_at (is_open_between k (start / w) ((start + len - 1) / w)) j f k.lost.keys lost
      (both _ _ (both _ _ (is_lt f (data_count k.code) l) (both _ _ (is_le (start / w) (data_count k.code * j + f) (omega arith)) (is_le (data_count k.code * j + f) ((start + len - 1) / w) (omega arith))))
      ((exact k.code (lost_of k j) f inside).1 o.3))

  pub open_between : list_any (is_open_between k (start / w) ((start + len - 1) / w)) k.lost.keys ≡ open_in_range k.code w (lost_of k) start len
  open_between =
      let range = open_found k.code w (lost_of k) start len in
      same_truth _ _ (λ t. range.1 (has_one t)) (λ t. is_one (range.0 t))

-- ---- the pairs of one stripe
either : (seen other here : Bool) → (seen || (here || other)) ≡ ((here || seen) || other)
either true other true = refl
either true other false = refl
either false other true = refl
either false other false = refl

one_kept : {A : Type 0} (test : A → Bool) (x : A) (xs : List A) (b : Bool) → test x ≡ b → list_all test xs ≡ true → list_all test (cond b (x ∷ xs) xs) ≡ true
one_kept test x xs true e all = both (test x) (list_all test xs) e all
one_kept test x xs false e all = all

all_kept : {A : Type 0} (test : A → Bool) (xs : List A) → list_all test (filter test xs) ≡ true
all_kept test [] = refl
all_kept test (x ∷ xs) = one_kept test x (filter test xs) (test x) refl (all_kept test xs)

le_pair : (a b f g : ℕ) → a ≤ b → f ≤ g → IsLeBy pair_cmp (a, f) (b, g)
le_pair a b f g l m = grind (arith, common_steps)

module _ (j : ℕ) where
  abbrev pub is_of : ℕ × ℕ → Bool
  is_of = range_contains pair_cmp (Included (j, 0)) (Included (j, 15))

  pub of_stripe : (p : ℕ × ℕ) → is_of p ≡ true → (p.0 ≡ j) × (p.1 < 16)
  of_stripe (i, f) e =
      let h = IsInRange-from_range_contains pairs_total (Included (j, 0)) (Included (j, 15)) (i, f) e in
      (grind (arith, common_steps, h), grind (arith, common_steps, h))

  is_own : (g : ℕ) → g < 16 → (p : ℕ × ℕ) → is_at (pair_cmp (j, g)) p ≡ true → is_of p ≡ true
  is_own g few (i, f) e =
      let same = same_pair j g i f e in
      range_contains-from_IsInRange pairs_total (Included (j, 0)) (Included (j, 15)) (i, f) (le_pair j i 0 f (omega (arith, same.0)) (omega arith), le_pair i j f 15 (omega (arith, same.0)) (omega (arith, same.1)))

  pub any_own : (g : ℕ) → g < 16 → (pairs : List (ℕ × ℕ)) → list_any (is_at (pair_cmp (j, g))) (filter is_of pairs) ≡ list_any (is_at (pair_cmp (j, g))) pairs
  any_own g few pairs = any-filter_same (is_at (pair_cmp (j, g))) is_of true (is_own g few) pairs

  pub all_own : (pairs : List (ℕ × ℕ)) → list_all is_of (filter is_of pairs) ≡ true
  all_own pairs = all_kept is_of pairs

  at_own : (g i f : ℕ) → i ≡ j → is_at (pair_cmp (j, g)) (i, f) ≡ (g == f)
  at_own g i f e = grind (arith, common_steps)

  -- one pair more is seen
  pub one_seen : (g i f : ℕ) (rest : List (ℕ × ℕ)) (seen now : Bool) → is_of (i, f) ≡ true → now ≡ ((g == f) || seen)
      → (seen || list_any (is_at (pair_cmp (j, g))) ((i, f) ∷ rest)) ≡ (now || list_any (is_at (pair_cmp (j, g))) rest)
  one_seen g i f rest seen now e is =
      ap (λ (here : Bool). seen || (here || list_any (is_at (pair_cmp (j, g))) rest)) (at_own g i f (of_stripe (i, f) e).0)
      ∙ either seen (list_any (is_at (pair_cmp (j, g))) rest) (g == f)
      ∙ ap (λ (b : Bool). b || list_any (is_at (pair_cmp (j, g))) rest) (sym is)

-- ---- the pairs of the stripes that the fragments from first to last are in
module _ (k : BlobMetadata) (first last : ℕ) where
  abbrev pub low_pair : ℕ × ℕ
  low_pair = (first / data_count k.code, 0)

  abbrev pub high_pair : ℕ × ℕ
  high_pair = (last / data_count k.code, 255)

  in_stripes : (p : ℕ × ℕ) → is_open_between k first last p ≡ true → range_contains pair_cmp (Included low_pair) (Included high_pair) p ≡ true
  in_stripes (j, f) h =
      let c = data_count k.code in
      let some = some_data k.code in
      let n = c * j + f in
      let parts = and_parts (nat_lt f c && (nat_le first n && nat_le n last)) _ h in
      let inner = and_parts (nat_lt f c) _ parts.0 in
      let ends = and_parts (nat_le first n) _ inner.1 in
      let l : f < c = lt_of f c inner.0 in
      let from : first ≤ n = le_of first n ends.0 in
      let to : n ≤ last = le_of n last ends.1 in
      let few = few_fragments k.code in
      let more = data_is_counted k.code in
      let back : n / c ≡ j = ap (λ m. m / c) (let e : c * j + f ≡ j * c + f = omega arith in e) ∙ div-mul-add j c f l in
      let low : first / c ≤ j = subst (λ m. first / c ≤ m) back (div_mono c first n some from) in
      let high : j ≤ last / c = le-div j last c some (let e : c * j ≡ j * c = omega arith in omega arith) in
      range_contains-from_IsInRange pairs_total (Included low_pair) (Included high_pair) (j, f) (le_pair (first / c) j 0 f low (omega arith), le_pair j (last / c) f 255 high (omega arith))

  pub any_in_stripes : list_any (is_open_between k first last) (keys_between pair_cmp (Included low_pair) (Included high_pair) k.lost) ≡ list_any (is_open_between k first last) k.lost.keys
  any_in_stripes = any-filter_same (is_open_between k first last) (range_contains pair_cmp (Included low_pair) (Included high_pair)) true in_stripes k.lost.keys
