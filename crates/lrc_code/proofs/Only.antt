-- The only lost fragment of a group: by the bits, by a count, and by the others that remain.
use Rattle.lrc_code.specs.declared.Code.{Code}
use Rattle.lrc_code.specs.declared.Code.TheVariants.{Wide, Small}
use Rattle.std.proofs.Common.{◌≡◌, ◌≢◌, ◌↔◌, ℕ, ◌+◌, ◌*◌, ◌%◌, ◌^◌, ◌<◌, ◌≤◌, Bool, true, false, cond, not, eqb, nat_eq, ◌&&◌, List, [], ◌∷◌, min, bit_and, refl, sym, ap, ap₂, ◌∙◌, subst, arith, inl, inr, eqb-true}
use Rattle.std.specs.Prelude.{◌==◌, count_by}
use Rattle.std.specs.List.{AllByRecursion, list_any}
use Rattle.std.specs.Int.{bit_at}
use Rattle.std.proofs.lemmas.Bool.{cases_eq, cases_Bool, or_cases, and_parts, and_from, eq-eqb, ne_eqb, false≢true}
use Rattle.std.proofs.Math.Bool.{and-true}
use Rattle.std.specs.Cmp.{both_ways}
use Rattle.std.proofs.lemmas.List.Sums.{sum_by-cons}
use Rattle.std.proofs.lemmas.Nat.{and_le_l}
use Rattle.std.proofs.lemmas.Nat.Bits.{bit_at_and, bit_at-lt, bit_at-pow_same, bit_at-pow_other, same_from_bits_below}
use Rattle.lrc_code.specs.Code.{is_lost, is_only_lost_of, first_group, second_group}
use Rattle.lrc_code.proofs.Computed.{test_below, passes_below}

-- ---- bits
two : (P : ℕ → Type 0) → P 0 → P 1 → (n : ℕ) → n < 2 → P n
two P a b n l = elim (cases_eq n 0) [ inl e ↦ subst P (sym e) a | inr d ↦ (let e : n ≡ 1 = omega arith in subst P (sym e) b) ]

lesser : (a b : ℕ) → a < 2 → b < 2 → (min a b == 1) ≡ ((a == 1) && (b == 1))
lesser a b l m =
    two (λ a. (min a b == 1) ≡ ((a == 1) && (b == 1)))
    (two (λ b. (min 0 b == 1) ≡ ((0 == 1) && (b == 1))) refl refl b m)
    (two (λ b. (min 1 b == 1) ≡ ((1 == 1) && (b == 1))) refl refl b m) a l

pub lost_of_both : (a b i : ℕ) → is_lost (bit_and a b) i ≡ (is_lost a i && is_lost b i)
lost_of_both a b i = ap (λ n. n == 1) (bit_at_and a b i) ∙ lesser (bit_at a i) (bit_at b i) (bit_at-lt a i) (bit_at-lt b i)

powers : test_below (λ f. eqb (1 * 2 ^ f % 65536) (2 ^ f)) 16 ≡ true
powers = refl

pub lost_of_one : (f i : ℕ) → f < 16 → is_lost (1 * 2 ^ f % 65536) i ≡ (i == f)
lost_of_one f i l =
    let power : 1 * 2 ^ f % 65536 ≡ 2 ^ f = eqb-true _ _ (passes_below (λ f. eqb (1 * 2 ^ f % 65536) (2 ^ f)) 16 powers f l) in
    ap (λ n. bit_at n i == 1) power ∙ elim (cases_eq i f) [
      | inl same ↦ rw (eq-eqb i f same) (ap (λ j. bit_at (2 ^ f) j == 1) same ∙ ap (λ b. b == 1) (bit_at-pow_same f))
      | inr differ ↦ rw (ne_eqb i f differ) (ap (λ b. b == 1) (bit_at-pow_other f i differ))
    ]

same_bit : (a b : ℕ) → a < 2 → b < 2 → (a == 1) ≡ (b == 1) → a ≡ b
same_bit a b l m =
    two (λ a. (a == 1) ≡ (b == 1) → a ≡ b)
    (two (λ b. (0 == 1) ≡ (b == 1) → 0 ≡ b) (λ e. refl) (λ e. absurd (false≢true e)) b m)
    (two (λ b. (1 == 1) ≡ (b == 1) → 1 ≡ b) (λ e. absurd (false≢true (sym e))) (λ e. refl) b m) a l

pub same_by_lost : (a b : ℕ) → a < 65536 → b < 65536 → ((i : ℕ) → i < 16 → is_lost a i ≡ is_lost b i) → a ≡ b
same_by_lost a b l m same = same_from_bits_below 16 a b l m (λ i il. same_bit (bit_at a i) (bit_at b i) (bit_at-lt a i) (bit_at-lt b i) (same i il))

pub only_told : (n m group f : ℕ) → n ≡ m → n < 65536 → f < 16 → (nat_eq (bit_and n group) (1 * 2 ^ f % 65536) ≡ true) ↔ ((i : ℕ) → i < 16 → (is_lost m i && is_lost group i) ≡ (i == f))
only_told n m group f e small l = (
  λ h i il.
      ap (λ k. is_lost k i && is_lost group i) (sym e) ∙ sym (lost_of_both n group i) ∙ ap (λ k. is_lost k i) (eqb-true (bit_and n group) (1 * 2 ^ f % 65536) h) ∙ lost_of_one f i l,
  λ h. eq-eqb (bit_and n group) (1 * 2 ^ f % 65536) (same_by_lost (bit_and n group) (1 * 2 ^ f % 65536) (let le = and_le_l n group in omega arith) (omega arith)
      (λ i il. lost_of_both n group i ∙ ap (λ k. is_lost k i && is_lost group i) e ∙ h i il ∙ sym (lost_of_one f i l))),
)

-- ---- counts
counted : (t : ℕ → Bool) (x : ℕ) (xs : List ℕ) → count_by t (x ∷ xs) ≡ cond (t x) 1 0 + count_by t xs
counted t x xs = sum_by-cons (λ x. cond (t x) 1 0) x xs

yes : (t : ℕ → Bool) (x a : ℕ) (xs : List ℕ) → (x == a) ≡ true → t a ≡ true → count_by t (x ∷ xs) ≡ 1 + count_by t xs
yes t x a xs same h = counted t x xs ∙ ap (λ b. cond b 1 0 + count_by t xs) (ap t (eqb-true x a same) ∙ h)

more : (t : ℕ → Bool) (x : ℕ) (xs : List ℕ) → count_by t xs ≤ count_by t (x ∷ xs)
more t x xs = omega (arith, counted t x xs)

one_counted : (t : ℕ → Bool) (xs : List ℕ) (a : ℕ) → list_any (λ j. j == a) xs ≡ true → t a ≡ true → 1 ≤ count_by t xs
one_counted t [] a h ta = absurd (false≢true h)
one_counted t (x ∷ xs) a h ta =
    elim (or_cases (x == a) (list_any (λ j. j == a) xs) h) [
      | inl here ↦ omega (arith, yes t x a xs here ta)
      | inr there ↦ omega (arith, more t x xs, one_counted t xs a there ta)
    ]

pub two_counted : (t : ℕ → Bool) (xs : List ℕ) (a b : ℕ) → a ≢ b → list_any (λ j. j == a) xs ≡ true → list_any (λ j. j == b) xs ≡ true → t a ≡ true → t b ≡ true → 2 ≤ count_by t xs
two_counted t [] a b d ha hb ta tb = absurd (false≢true ha)
two_counted t (x ∷ xs) a b d ha hb ta tb =
    elim (or_cases (x == a) (list_any (λ j. j == a) xs) ha) [
      | inl a_here ↦ elim (or_cases (x == b) (list_any (λ j. j == b) xs) hb) [
        | inl b_here ↦ absurd (d (sym (eqb-true x a a_here) ∙ eqb-true x b b_here))
        | inr b_there ↦ omega (arith, yes t x a xs a_here ta, one_counted t xs b b_there tb)
      ]
      | inr a_there ↦ elim (or_cases (x == b) (list_any (λ j. j == b) xs) hb) [
        | inl b_here ↦ omega (arith, yes t x b xs b_here tb, one_counted t xs a a_there ta)
        | inr b_there ↦ omega (arith, more t x xs, two_counted t xs a b d a_there b_there ta tb)
      ]
    ]

pub count_agree : (t u : ℕ → Bool) (xs : List ℕ) → AllByRecursion (λ i. t i ≡ u i) xs → count_by t xs ≡ count_by u xs
count_agree t u [] same = refl
count_agree t u (x ∷ xs) same = counted t x xs ∙ ap₂ (λ b n. cond b 1 0 + n) same.0 (count_agree t u xs same.1) ∙ sym (counted u x xs)

-- ---- groups
same_truth : (a b : Bool) → cond a b (not b) ≡ true → a ≡ b
same_truth true b e = sym e
same_truth false true e = e
same_truth false false e = refl

-- a fragment of a group stands there once
abbrev StandsOnce : List ℕ → ℕ → Type 0
StandsOnce group i = (i < 16) × (list_any (λ j. j == i) group ≡ true) × (count_by (λ j. j == i) group ≡ 1)

first_once : (code : Code) → AllByRecursion (StandsOnce (first_group code)) (first_group code)
first_once Wide = ((omega arith, refl, refl), ((omega arith, refl, refl), ((omega arith, refl, refl), ((omega arith, refl, refl), ((omega arith, refl, refl), ((omega arith, refl, refl), ((omega arith, refl, refl), tt)))))))
first_once Small = ((omega arith, refl, refl), ((omega arith, refl, refl), ((omega arith, refl, refl), ((omega arith, refl, refl), tt))))

second_once : (code : Code) → AllByRecursion (StandsOnce (second_group code)) (second_group code)
second_once Wide = ((omega arith, refl, refl), ((omega arith, refl, refl), ((omega arith, refl, refl), ((omega arith, refl, refl), ((omega arith, refl, refl), ((omega arith, refl, refl), ((omega arith, refl, refl), tt)))))))
second_once Small = ((omega arith, refl, refl), ((omega arith, refl, refl), ((omega arith, refl, refl), ((omega arith, refl, refl), tt))))

pub at_member : (P : ℕ → Type 0) (xs : List ℕ) (f : ℕ) → AllByRecursion P xs → list_any (λ i. i == f) xs ≡ true → P f
at_member P [] f a h = absurd (false≢true h)
at_member P (x ∷ xs) f a h = elim (or_cases (x == f) (list_any (λ i. i == f) xs) h) [ inl here ↦ subst P (eqb-true x f here) a.0 | inr there ↦ at_member P xs f a.1 there ]

-- the bits of a group
abbrev has_bits : ℕ → List ℕ → ℕ → Bool
has_bits bits group i = let b = list_any (λ f. f == i) group in cond (is_lost bits i) b (not b)

bits_are : (bits : ℕ) (group : List ℕ) → test_below (has_bits bits group) 16 ≡ true → (i : ℕ) → i < 16 → is_lost bits i ≡ list_any (λ f. f == i) group
bits_are bits group all i l = same_truth (is_lost bits i) (list_any (λ f. f == i) group) (passes_below (has_bits bits group) 16 all i l)

pub wide_first : (i : ℕ) → i < 16 → is_lost 0x103F i ≡ list_any (λ f. f == i) (first_group Wide)
wide_first = bits_are 0x103F (first_group Wide) refl

pub wide_second : (i : ℕ) → i < 16 → is_lost 0x2FC0 i ≡ list_any (λ f. f == i) (second_group Wide)
wide_second = bits_are 0x2FC0 (second_group Wide) refl

pub small_first : (i : ℕ) → i < 16 → is_lost 0x47 i ≡ list_any (λ f. f == i) (first_group Small)
small_first = bits_are 0x47 (first_group Small) refl

pub small_second : (i : ℕ) → i < 16 → is_lost 0xB8 i ≡ list_any (λ f. f == i) (second_group Small)
small_second = bits_are 0xB8 (second_group Small) refl

-- f is the only lost fragment that the bits have
abbrev IsOnly : (ℕ → Bool) → (ℕ → Bool) → ℕ → Type 0
IsOnly lost bits f = (i : ℕ) → i < 16 → (lost i && bits i) ≡ (i == f)

agree_all : (lost bits : ℕ → Bool) (group : List ℕ) (f : ℕ) → ((i : ℕ) → i < 16 → bits i ≡ list_any (λ j. j == i) group) → IsOnly lost bits f → (xs : List ℕ) → AllByRecursion (StandsOnce group) xs
    → AllByRecursion (λ i. lost i ≡ (i == f)) xs
agree_all lost bits group f is only [] once = tt
agree_all lost bits group f is only (x ∷ xs) once =
    let has : bits x ≡ true = is x once.0.0 ∙ once.0.1 in
    (sym (ap (λ b. lost x && b) has ∙ and-true (lost x)) ∙ only x once.0.0, agree_all lost bits group f is only xs once.1)

module _ (lost bits : ℕ → Bool) (group : List ℕ) (f : ℕ) (small : f < 16) (once : AllByRecursion (StandsOnce group) group) (is : (i : ℕ) → i < 16 → bits i ≡ list_any (λ j. j == i) group) where
  only_by_bits : IsOnly lost bits f → is_only_lost_of lost group f ≡ true
  unfolding is_only_lost_of
  only_by_bits only =
      let both = and_parts (lost f) (bits f) (only f small ∙ eq-eqb f f refl) in
      let member : list_any (λ i. i == f) group ≡ true = sym (is f small) ∙ both.1 in
      let count : count_by lost group ≡ 1 = count_agree lost (λ i. i == f) group (agree_all lost bits group f is only group once) ∙ (at_member (StandsOnce group) group f once member).2 in
      and_from (lost f) (list_any (λ i. i == f) group && count_by lost group == 1) both.0 (and_from (list_any (λ i. i == f) group) (count_by lost group == 1) member (eq-eqb (count_by lost group) 1 count))

  bits_by_only : is_only_lost_of lost group f ≡ true → IsOnly lost bits f
  unfolding is_only_lost_of
  bits_by_only h i l =
      let lost_and = and_parts (lost f) (list_any (λ i. i == f) group && count_by lost group == 1) h in
      let both = and_parts (list_any (λ i. i == f) group) (count_by lost group == 1) lost_and.1 in
      let one : count_by lost group ≡ 1 = eqb-true (count_by lost group) 1 both.1 in
      elim (cases_eq i f) [
        | inl same ↦ rw (eq-eqb i f same) (ap (λ j. lost j && bits j) same ∙ and_from (lost f) (bits f) lost_and.0 (is f small ∙ both.0))
        | inr differ ↦ rw (ne_eqb i f differ) (elim (cases_Bool (lost i && bits i)) [
          | inl there ↦
              let parts = and_parts (lost i) (bits i) there in
              let several : 2 ≤ count_by lost group = two_counted lost group i f differ (sym (is i l) ∙ parts.1) both.0 parts.0 lost_and.0 in
              absurd (omega (arith, one, several))
          | inr none ↦ none
        ])
      ]

  only_is : (given : Bool) → ((given ≡ true) ↔ IsOnly lost bits f) → given ≡ is_only_lost_of lost group f
  only_is given told = both_ways given (is_only_lost_of lost group f) (λ h. only_by_bits (told.0 h)) (λ h. told.1 (bits_by_only h))

pub first_only : (code : Code) (lost bits : ℕ → Bool) (f : ℕ) → f < 16 → ((i : ℕ) → i < 16 → bits i ≡ list_any (λ j. j == i) (first_group code)) → (given : Bool) → ((given ≡ true) ↔ IsOnly lost bits f)
    → given ≡ is_only_lost_of lost (first_group code) f
first_only code lost bits f small is = only_is lost bits (first_group code) f small (first_once code) is

pub second_only : (code : Code) (lost bits : ℕ → Bool) (f : ℕ) → f < 16 → ((i : ℕ) → i < 16 → bits i ≡ list_any (λ j. j == i) (second_group code)) → (given : Bool) → ((given ≡ true) ↔ IsOnly lost bits f)
    → given ≡ is_only_lost_of lost (second_group code) f
second_only code lost bits f small is = only_is lost bits (second_group code) f small (second_once code) is
