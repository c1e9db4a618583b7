-- The parities by doublings are those that the coefficients give.
use Rattle.std.proofs.Common.{◌≡◌, ℕ, zero, suc, ◌+◌, ◌-◌, ◌*◌, take, ◌/◌, ◌%◌, ◌<◌, Bool, true, eqb, List, [], ◌∷◌, length, map, get_or, bit_xor, refl, sym, ap, ap₂, ◌∙◌, subst, arith, inl, inr, eqb-true, Bor}
use Rattle.std.specs.List.{All}
use Rattle.std.proofs.lemmas.Bool.{cases_eq, cases_lt}
use Rattle.std.proofs.lemmas.List.{get_or-take}
use Rattle.std.proofs.Math.ListN.{get_or-map}
use lib.Lanes.{Each1}
use Rattle.gf256.specs.Field.{product, carryless_product, reduced}
use Rattle.gf256.proofs.Laws.{all_below, every_below}
use Rattle.gf256.proofs.Ring.{Term, var, num, plus, times, same_by_ring}
use Rattle.kernels.specs.Lists.{xor_sum, list_at, bytes_at}
use Rattle.kernels.specs.Parities.{AreParitiesOfTwelve, parity, parity_coefficients}
use Rattle.kernels.specs.Doublings.{sum_of_3, sum_of_6, with_bit_0, with_bit_1, with_bit_2, third_of, fourth_of, third_apart, fourth_apart, times_4}
use Rattle.kernels.proofs.Sums.{xor_sum_same}

-- what parity e multiplies list i by
abbrev coefficient : ℕ → ℕ → ℕ
coefficient e i = get_or (get_or parity_coefficients e []) i 0

-- ---- a fact of each number below 4
pub each_of_four : (P : ℕ → Type 0) → P 0 → P 1 → P 2 → P 3 → (k : ℕ) → k < 4 → P k
each_of_four P a b c d zero l = a
each_of_four P a b c d (suc zero) l = b
each_of_four P a b c d (suc (suc zero)) l = c
each_of_four P a b c d (suc (suc (suc zero))) l = d
each_of_four P a b c d (suc (suc (suc (suc k)))) l = absurd (omega arith)

-- ---- a byte times x
abbrev doubled : ℕ → ℕ
doubled x = bit_xor (x * 2 % 256) (x / 128 * 29)

abbrev is_doubled : ℕ → Bool
is_doubled x = eqb (doubled x) (product 2 x)

all_doubled : all_below is_doubled 256 ≡ true
unfolding product carryless_product reduced
all_doubled = refl

pub twice_is : (x : ℕ) → x < 256 → bit_xor (x * 2 % 256) (x / 128 * 29) ≡ product 2 x
twice_is x h = eqb-true (doubled x) (product 2 x) (every_below is_doubled 256 all_doubled x h)

-- ---- a fact at each number below n, as a product
abbrev pub Below : (ℕ → Type 0) → ℕ → Type 0
Below P zero = Unit {0}
Below P (suc n) = Below P n × P n

pub at_below : (P : ℕ → Type 0) (n : ℕ) → Below P n → (i : ℕ) → i < n → P i
at_below P zero b i h = absurd (omega arith)
at_below P (suc n) b i h = elim (cases_eq i n) [ inl e ↦ subst P (sym e) b.1 | inr d ↦ at_below P n b.0 i (omega arith) ]

-- ---- the parities, as terms over the twelve bytes of data
abbrev sum_of : Term → Term → Term → Term
sum_of a b c = plus (plus a b) c

abbrev twice : Term → Term
twice t = times (num 2) t

abbrev four : Term → Term
four t = twice (twice t)

abbrev sum_s0 : Term
sum_s0 = sum_of (var 0) (var 2) (var 4)

abbrev sum_s1 : Term
sum_s1 = sum_of (var 1) (var 2) (var 5)

abbrev sum_s2 : Term
sum_s2 = sum_of (var 3) (var 4) (var 5)

abbrev sum_t0 : Term
sum_t0 = sum_of (var 6) (var 8) (var 10)

abbrev sum_t1 : Term
sum_t1 = sum_of (var 7) (var 8) (var 11)

abbrev sum_t2 : Term
sum_t2 = sum_of (var 9) (var 10) (var 11)

abbrev pub first : Term
first = sum_of (plus sum_s0 (var 1)) (var 3) (var 5)

abbrev pub second : Term
second = sum_of (plus sum_t0 (var 7)) (var 9) (var 11)

abbrev pub third : Term
third = plus sum_s0 (twice (plus sum_s1 (twice (plus sum_s2 (four (plus sum_t0 (twice (plus sum_t1 (twice sum_t2)))))))))

abbrev pub fourth : Term
fourth = plus sum_s0 (four (plus sum_s1 (four (plus sum_s2 (four (four (plus sum_t0 (four (plus sum_t1 (four sum_t2))))))))))

-- the third and the fourth parity as a sum of two groups, each with its own doublings
abbrev pub third_of_groups : Term
third_of_groups = plus (plus sum_s0 (twice (plus sum_s1 (twice sum_s2)))) (times (num 0x10) (plus sum_t0 (twice (plus sum_t1 (twice sum_t2)))))

abbrev pub fourth_of_groups : Term
fourth_of_groups = plus (plus sum_s0 (four (plus sum_s1 (four sum_s2)))) (times (num 0x1D) (plus sum_t0 (four (plus sum_t1 (four sum_t2)))))

-- the fourth of groups whose sums are the variables, by products
abbrev by_products : Term
by_products = plus (plus (plus (plus (plus (var 0) (times (num 0x04) (var 1))) (times (num 0x10) (var 2))) (times (num 0x1D) (var 3))) (times (num 0x74) (var 4))) (times (num 0xCD) (var 5))

abbrev by_doublings : Term
by_doublings = plus (plus (var 0) (four (plus (var 1) (four (var 2))))) (times (num 0x1D) (plus (var 3) (four (plus (var 4) (four (var 5))))))

pub fourth_by_products : (s0 s1 s2 t0 t1 t2 : ℕ) → Each1 (λ x. x < 256) (s0 ∷ s1 ∷ s2 ∷ t0 ∷ t1 ∷ t2 ∷ [])
    → bit_xor (bit_xor (bit_xor (bit_xor (bit_xor s0 (product 0x04 s1)) (product 0x10 s2)) (product 0x1D t0)) (product 0x74 t1)) (product 0xCD t2) ≡ fourth_apart s0 s1 s2 t0 t1 t2
fourth_by_products s0 s1 s2 t0 t1 t2 fits = same_by_ring (s0 ∷ s1 ∷ s2 ∷ t0 ∷ t1 ∷ t2 ∷ []) fits by_products by_doublings refl

-- what equation e gives for the first n of the twelve bytes
abbrev equation : ℕ → ℕ → Term
equation e zero = num 0
equation e (suc n) = plus (equation e n) (times (num (coefficient e n)) (var n))

-- the sum of three bytes of the data
abbrev pub of_3 : List ℕ → ℕ → ℕ → ℕ → ℕ
of_3 xs = sum_of_3 (λ i. get_or xs i 0)

-- the bytes of the second group
abbrev pub second_six : List ℕ → ℕ → ℕ
second_six xs i = get_or xs (6 + i) 0

abbrev pub first_of : List ℕ → ℕ
first_of xs = sum_of_6 (λ i. get_or xs i 0)

abbrev pub second_of : List ℕ → ℕ
second_of xs = sum_of_6 (second_six xs)

abbrev pub third_by_bits : List ℕ → ℕ
third_by_bits xs = third_of (of_3 xs 0 2 4) (of_3 xs 1 2 5) (of_3 xs 3 4 5) (of_3 xs 6 8 10) (of_3 xs 7 8 11) (of_3 xs 9 10 11)

abbrev pub fourth_by_bits : List ℕ → ℕ
fourth_by_bits xs = fourth_of (of_3 xs 0 2 4) (of_3 xs 1 2 5) (of_3 xs 3 4 5) (of_3 xs 6 8 10) (of_3 xs 7 8 11) (of_3 xs 9 10 11)

abbrev pub third_by_groups : List ℕ → ℕ
third_by_groups xs = third_apart (of_3 xs 0 2 4) (of_3 xs 1 2 5) (of_3 xs 3 4 5) (of_3 xs 6 8 10) (of_3 xs 7 8 11) (of_3 xs 9 10 11)

abbrev pub fourth_by_groups : List ℕ → ℕ
fourth_by_groups xs = fourth_apart (of_3 xs 0 2 4) (of_3 xs 1 2 5) (of_3 xs 3 4 5) (of_3 xs 6 8 10) (of_3 xs 7 8 11) (of_3 xs 9 10 11)

module _ (xs : List ℕ) (fits : Each1 (λ x. x < 256) xs) where
  first_is : first_of xs ≡ parity 0 (λ i. get_or xs i 0)
  unfolding xor_sum
  first_is = same_by_ring xs fits first (equation 0 12) refl

  second_is : second_of xs ≡ parity 1 (λ i. get_or xs i 0)
  unfolding xor_sum
  second_is = same_by_ring xs fits second (equation 1 12) refl

  third_is : third_by_bits xs ≡ parity 2 (λ i. get_or xs i 0)
  unfolding xor_sum
  third_is = same_by_ring xs fits third (equation 2 12) refl

  fourth_is : fourth_by_bits xs ≡ parity 3 (λ i. get_or xs i 0)
  unfolding xor_sum
  fourth_is = same_by_ring xs fits fourth (equation 3 12) refl

  third_of_groups_is : third_by_groups xs ≡ parity 2 (λ i. get_or xs i 0)
  unfolding xor_sum
  third_of_groups_is = same_by_ring xs fits third_of_groups (equation 2 12) refl

  fourth_of_groups_is : fourth_by_groups xs ≡ parity 3 (λ i. get_or xs i 0)
  unfolding xor_sum
  fourth_of_groups_is = same_by_ring xs fits fourth_of_groups (equation 3 12) refl

  pub parities_of_groups : (r : ℕ → ℕ) → r 0 ≡ first_of xs → r 1 ≡ second_of xs → r 2 ≡ third_by_groups xs → r 3 ≡ fourth_by_groups xs
      → (e : ℕ) → e < 4 → r e ≡ parity e (λ i. get_or xs i 0)
  parities_of_groups r p q g h = each_of_four (λ e. r e ≡ parity e (λ i. get_or xs i 0)) (p ∙ first_is) (q ∙ second_is) (g ∙ third_of_groups_is) (h ∙ fourth_of_groups_is)

  -- four bytes that are made of the twelve by doublings are their parities
  pub parities_of : (r : ℕ → ℕ) → r 0 ≡ first_of xs → r 1 ≡ second_of xs → r 2 ≡ third_by_bits xs → r 3 ≡ fourth_by_bits xs
      → (e : ℕ) → e < 4 → r e ≡ parity e (λ i. get_or xs i 0)
  parities_of r p q g h = each_of_four (λ e. r e ≡ parity e (λ i. get_or xs i 0)) (p ∙ first_is) (q ∙ second_is) (g ∙ third_is) (h ∙ fourth_is)

  pub parities_made : (g h : ℕ) → g ≡ third_by_bits xs → h ≡ fourth_by_bits xs
      → (e : ℕ) → e < 4 → get_or (first_of xs ∷ second_of xs ∷ g ∷ h ∷ []) e 0 ≡ parity e (λ i. get_or xs i 0)
  parities_made g h = parities_of (λ e. get_or (first_of xs ∷ second_of xs ∷ g ∷ h ∷ []) e 0) refl refl

-- ---- the same, from what calls returned
pub third_from : (s0 s1 s2 t0 t1 t2 r1 r2 r3 r4 r5 : ℕ) → r1 ≡ product 2 t2 → r2 ≡ product 2 (bit_xor t1 r1) → r3 ≡ times_4 (bit_xor t0 r2) → r4 ≡ product 2 (bit_xor s2 r3) → r5 ≡ product 2 (bit_xor s1 r4)
    → bit_xor s0 r5 ≡ third_of s0 s1 s2 t0 t1 t2
third_from s0 s1 s2 t0 t1 t2 r1 r2 r3 r4 r5 e1 e2 e3 e4 e5 =
    ap (bit_xor s0) (e5 ∙ ap (λ x. product 2 (bit_xor s1 x)) (e4 ∙ ap (λ x. product 2 (bit_xor s2 x)) (e3 ∙ ap (λ x. times_4 (bit_xor t0 x)) (e2 ∙ ap (λ x. product 2 (bit_xor t1 x)) e1))))

pub fourth_from : (s0 s1 s2 t0 t1 t2 r1 r2 r3 r4 r5 r6 : ℕ) → r1 ≡ times_4 t2 → r2 ≡ times_4 (bit_xor t1 r1) → r3 ≡ times_4 (bit_xor t0 r2) → r4 ≡ times_4 r3 → r5 ≡ times_4 (bit_xor s2 r4) → r6 ≡ times_4 (bit_xor s1 r5)
    → bit_xor s0 r6 ≡ fourth_of s0 s1 s2 t0 t1 t2
fourth_from s0 s1 s2 t0 t1 t2 r1 r2 r3 r4 r5 r6 e1 e2 e3 e4 e5 e6 =
    ap (bit_xor s0) (e6 ∙ ap (λ x. times_4 (bit_xor s1 x)) (e5 ∙ ap (λ x. times_4 (bit_xor s2 x)) (e4 ∙ ap times_4 (e3 ∙ ap (λ x. times_4 (bit_xor t0 x)) (e2 ∙ ap (λ x. times_4 (bit_xor t1 x)) e1)))))

-- equal sums, equal parities
pub third_same : (s0 s1 s2 t0 t1 t2 u0 u1 u2 v0 v1 v2 : ℕ) → s0 ≡ u0 → s1 ≡ u1 → s2 ≡ u2 → t0 ≡ v0 → t1 ≡ v1 → t2 ≡ v2 → third_apart s0 s1 s2 t0 t1 t2 ≡ third_apart u0 u1 u2 v0 v1 v2
third_same s0 s1 s2 t0 t1 t2 u0 u1 u2 v0 v1 v2 a b c d e f = cc

pub fourth_same : (s0 s1 s2 t0 t1 t2 u0 u1 u2 v0 v1 v2 : ℕ) → s0 ≡ u0 → s1 ≡ u1 → s2 ≡ u2 → t0 ≡ v0 → t1 ≡ v1 → t2 ≡ v2 → fourth_apart s0 s1 s2 t0 t1 t2 ≡ fourth_apart u0 u1 u2 v0 v1 v2
fourth_same s0 s1 s2 t0 t1 t2 u0 u1 u2 v0 v1 v2 a b c d e f = cc

-- ---- the parities of a stripe, place by place
-- what a slice of slices has past its end
abbrev pub nothing : Bor (List ℕ)
nothing = record { ref_ptr = (0, 0); now = [] }

pub source_is : (sources : List (Bor (List ℕ))) (i : ℕ) → (get_or sources i nothing).now ≡ list_at (map (λ s. s.now) sources) i
source_is sources i = sym (let f : Bor (List ℕ) → List ℕ = λ s. s.now in get_or-map f sources i nothing)

module _ (sources : List (List ℕ)) (ps : List (List ℕ)) where
  -- the twelve bytes at one place
  pub parities_at : (place : ℕ) (xs : List ℕ) → ((i : ℕ) → i < 12 → get_or xs i 0 ≡ bytes_at sources place i)
      → ((e : ℕ) → e < 4 → bytes_at ps place e ≡ parity e (λ i. get_or xs i 0)) → AreParitiesOfTwelve sources ps place
  parities_at place xs same are e l =
      are e l
      ∙ xor_sum_same 12 (λ i. product (coefficient e i) (get_or xs i 0)) (λ i. product (coefficient e i) (bytes_at sources place i))
      (λ i m. ap (product (coefficient e i)) (same i m))

-- the twelve bytes at one place, as a list
abbrev pub twelve : List (List ℕ) → ℕ → List ℕ
twelve sources place = map (bytes_at sources place) (0 ∷ 1 ∷ 2 ∷ 3 ∷ 4 ∷ 5 ∷ 6 ∷ 7 ∷ 8 ∷ 9 ∷ 10 ∷ 11 ∷ [])

-- the same where four bytes are written that are made by doublings
pub block_parities : (sources : List (List ℕ)) (p q g h : List ℕ) (place : ℕ) → Each1 (λ x. x < 256) (twelve sources place)
    → get_or p place 0 ≡ first_of (twelve sources place) → get_or q place 0 ≡ second_of (twelve sources place)
    → get_or g place 0 ≡ third_by_groups (twelve sources place) → get_or h place 0 ≡ fourth_by_groups (twelve sources place)
    → AreParitiesOfTwelve sources (p ∷ q ∷ g ∷ h ∷ []) place
block_parities sources p q g h place fits ep eq eg eh =
    parities_at sources (p ∷ q ∷ g ∷ h ∷ []) place (twelve sources place)
    (at_below (λ i. get_or (twelve sources place) i 0 ≡ bytes_at sources place i) 12 ((((((((((((tt, refl), refl), refl), refl), refl), refl), refl), refl), refl), refl), refl), refl))
    (parities_of_groups (twelve sources place) fits (bytes_at (p ∷ q ∷ g ∷ h ∷ []) place) ep eq eg eh)

-- parities below `at` stay, and those from `at` to `to` are new
pub parities_more : (sources : List (List ℕ)) (p q g h p' q' g' h' : List ℕ) (at to : ℕ)
    → ((k : ℕ) → k < at → AreParitiesOfTwelve sources (p ∷ q ∷ g ∷ h ∷ []) k)
    → ((k : ℕ) → k < at → get_or p' k 0 ≡ get_or p k 0) → ((k : ℕ) → k < at → get_or q' k 0 ≡ get_or q k 0)
    → ((k : ℕ) → k < at → get_or g' k 0 ≡ get_or g k 0) → ((k : ℕ) → k < at → get_or h' k 0 ≡ get_or h k 0)
    → ((k : ℕ) → k < to - at → AreParitiesOfTwelve sources (p' ∷ q' ∷ g' ∷ h' ∷ []) (at + k))
    → (k : ℕ) → k < to → AreParitiesOfTwelve sources (p' ∷ q' ∷ g' ∷ h' ∷ []) k
parities_more sources p q g h p' q' g' h' at to done ep eq eg eh new k l =
    elim (cases_lt k at) [
      | inl below ↦ λ e m.
          each_of_four (λ e. bytes_at (p' ∷ q' ∷ g' ∷ h' ∷ []) k e ≡ bytes_at (p ∷ q ∷ g ∷ h ∷ []) k e) (ep k below) (eq k below) (eg k below) (eh k below) e m ∙ done k below e m
      | inr from ↦
          let back : at + (k - at) ≡ k = omega arith in
          subst (AreParitiesOfTwelve sources (p' ∷ q' ∷ g' ∷ h' ∷ [])) back (new (k - at) (omega arith))
    ]

-- a fact below `at`, and from `at` to `to`
pub facts_more : (P : ℕ → Type 0) (at to : ℕ) → ((k : ℕ) → k < at → P k) → ((k : ℕ) → k < to - at → P (at + k)) → (k : ℕ) → k < to → P k
facts_more P at to done added k l =
    elim (cases_lt k at) [
      | inl below ↦ done k below
      | inr from ↦
          let back : at + (k - at) ≡ k = omega arith in
          subst P back (added (k - at) (omega arith))
    ]

-- ---- lanes of a group
pub each_of_six : (P : ℕ → Type 0) → P 0 → P 1 → P 2 → P 3 → P 4 → P 5 → (i : ℕ) → i < 6 → P i
each_of_six P a b c d e f zero l = a
each_of_six P a b c d e f (suc zero) l = b
each_of_six P a b c d e f (suc (suc zero)) l = c
each_of_six P a b c d e f (suc (suc (suc zero))) l = d
each_of_six P a b c d e f (suc (suc (suc (suc zero)))) l = e
each_of_six P a b c d e f (suc (suc (suc (suc (suc zero))))) l = f
each_of_six P a b c d e f (suc (suc (suc (suc (suc (suc i)))))) l = absurd (omega arith)

-- six bytes that were read from a group are its bytes
pub read_six : (sources : List (List ℕ)) (first place a b c d e f : ℕ) → a ≡ bytes_at sources place first → b ≡ bytes_at sources place (first + 1) → c ≡ bytes_at sources place (first + 2)
    → d ≡ bytes_at sources place (first + 3) → e ≡ bytes_at sources place (first + 4) → f ≡ bytes_at sources place (first + 5)
    → (i : ℕ) → i < 6 → get_or (a ∷ b ∷ c ∷ d ∷ e ∷ f ∷ []) i 0 ≡ bytes_at sources place (first + i)
read_six sources first place a b c d e f ea eb ec ed ee ef =
    each_of_six (λ i. get_or (a ∷ b ∷ c ∷ d ∷ e ∷ f ∷ []) i 0 ≡ bytes_at sources place (first + i))
    (ea ∙ ap (bytes_at sources place) (let same : first ≡ first + 0 = omega arith in same)) eb ec ed ee ef

-- six bytes that are those of a group
module _ (x y : ℕ → ℕ) (same : (i : ℕ) → i < 6 → x i ≡ y i) where
  at_0 : x 0 ≡ y 0
  at_0 = same 0 (omega arith)

  at_1 : x 1 ≡ y 1
  at_1 = same 1 (omega arith)

  at_2 : x 2 ≡ y 2
  at_2 = same 2 (omega arith)

  at_3 : x 3 ≡ y 3
  at_3 = same 3 (omega arith)

  at_4 : x 4 ≡ y 4
  at_4 = same 4 (omega arith)

  at_5 : x 5 ≡ y 5
  at_5 = same 5 (omega arith)

  pub bit_0_same : with_bit_0 x ≡ with_bit_0 y
  bit_0_same = ap₂ bit_xor (ap₂ bit_xor at_0 at_2) at_4

  pub bit_1_same : with_bit_1 x ≡ with_bit_1 y
  bit_1_same = ap₂ bit_xor (ap₂ bit_xor at_1 at_2) at_5

  pub bit_2_same : with_bit_2 x ≡ with_bit_2 y
  bit_2_same = ap₂ bit_xor (ap₂ bit_xor at_3 at_4) at_5

  pub six_same : sum_of_6 x ≡ sum_of_6 y
  six_same = ap₂ bit_xor (ap₂ bit_xor (ap₂ bit_xor bit_0_same at_1) at_3) at_5

-- twelve elements, one by one
pub twelve_of : (sources : List (Bor (List ℕ))) → length sources ≡ 12
    → (get_or sources 0 nothing ∷ get_or sources 1 nothing ∷ get_or sources 2 nothing ∷ get_or sources 3 nothing ∷ get_or sources 4 nothing ∷ get_or sources 5 nothing ∷ get_or sources 6 nothing ∷ get_or sources 7 nothing ∷ get_or sources 8 nothing ∷ get_or sources 9 nothing ∷ get_or sources 10 nothing ∷ get_or sources 11 nothing ∷ []) ≡ sources
twelve_of [] long = absurd (omega arith)
twelve_of (a ∷ []) long = absurd (omega arith)
twelve_of (a ∷ b ∷ []) long = absurd (omega arith)
twelve_of (a ∷ b ∷ c ∷ []) long = absurd (omega arith)
twelve_of (a ∷ b ∷ c ∷ d ∷ []) long = absurd (omega arith)
twelve_of (a ∷ b ∷ c ∷ d ∷ e ∷ []) long = absurd (omega arith)
twelve_of (a ∷ b ∷ c ∷ d ∷ e ∷ f ∷ []) long = absurd (omega arith)
twelve_of (a ∷ b ∷ c ∷ d ∷ e ∷ f ∷ g ∷ []) long = absurd (omega arith)
twelve_of (a ∷ b ∷ c ∷ d ∷ e ∷ f ∷ g ∷ h ∷ []) long = absurd (omega arith)
twelve_of (a ∷ b ∷ c ∷ d ∷ e ∷ f ∷ g ∷ h ∷ i ∷ []) long = absurd (omega arith)
twelve_of (a ∷ b ∷ c ∷ d ∷ e ∷ f ∷ g ∷ h ∷ i ∷ j ∷ []) long = absurd (omega arith)
twelve_of (a ∷ b ∷ c ∷ d ∷ e ∷ f ∷ g ∷ h ∷ i ∷ j ∷ k ∷ []) long = absurd (omega arith)
twelve_of (a ∷ b ∷ c ∷ d ∷ e ∷ f ∷ g ∷ h ∷ i ∷ j ∷ k ∷ l ∷ []) long = refl
twelve_of (a ∷ b ∷ c ∷ d ∷ e ∷ f ∷ g ∷ h ∷ i ∷ j ∷ k ∷ l ∷ m ∷ rest) long = absurd (omega arith)

-- ---- lists that have no more than a block
-- the same at a place where the lists agree
pub parities_same : (sources lists : List (List ℕ)) (p q g h p' q' g' h' : List ℕ) (at k : ℕ) → AreParitiesOfTwelve lists (p ∷ q ∷ g ∷ h ∷ []) at → at ≡ k → ((i : ℕ) → i < 12 → bytes_at lists k i ≡ bytes_at sources k i)
    → get_or p' k 0 ≡ get_or p k 0 → get_or q' k 0 ≡ get_or q k 0 → get_or g' k 0 ≡ get_or g k 0 → get_or h' k 0 ≡ get_or h k 0
    → AreParitiesOfTwelve sources (p' ∷ q' ∷ g' ∷ h' ∷ []) k
parities_same sources lists p q g h p' q' g' h' at k are here same ep eq eg eh e m =
    each_of_four (λ e. bytes_at (p' ∷ q' ∷ g' ∷ h' ∷ []) k e ≡ bytes_at (p ∷ q ∷ g ∷ h ∷ []) k e) ep eq eg eh e m
    ∙ subst (AreParitiesOfTwelve lists (p ∷ q ∷ g ∷ h ∷ [])) here are e m
    ∙ xor_sum_same 12 (λ i. product (coefficient e i) (bytes_at lists k i)) (λ i. product (coefficient e i) (bytes_at sources k i)) (λ i l. ap (product (coefficient e i)) (same i l))

-- how long one of some lists of one length is
pub long_at : (sources : List (Bor (List ℕ))) (n i : ℕ) → All (λ s. length s.now ≡ n) sources → i < length sources → length (list_at (map (λ s. s.now) sources) i) ≡ n
long_at sources n i same below = sym (ap length (source_is sources i)) ∙ same i nothing below

-- the beginning of a list has its elements
pub taken : (xs ys : List ℕ) (n k : ℕ) → ys ≡ take n xs → k < n → get_or ys k 0 ≡ get_or xs k 0
taken xs ys n k is below = ap (λ zs. get_or zs k 0) is ∙ get_or-take n xs k 0 below
