-- What the code finds is what the byte is determined by.
use Rattle.lrc_code.specs.declared.Code.{Code}
use Rattle.lrc_code.specs.declared.Code.TheVariants.{Wide, Small}
use Rattle.std.proofs.Common.{◌⊎◌, ◌≡◌, ℕ, ◌<◌, ◌≤◌, Bool, true, false, ◌&&◌, eqb, List, [], ◌∷◌, Option, Some, None, bit_xor, refl, sym, ap, ap₂, ◌∙◌, subst, arith, inl, inr, eqb-true, slice_index_or, length}
use mathlib.Core.Path.{fun_ext}
use Rattle.std.specs.Prelude.{count_by, ◌==◌}
use Rattle.std.specs.List.{All, AllByRecursion, list_any}
use Rattle.std.proofs.lemmas.List.Elements.{recursion_from_All, All-from_recursion, All-contains}
use Rattle.std.proofs.lemmas.Bool.{or_cases, and_parts}
use Rattle.lrc_code.specs.Code.{fragment_count, weight, weights, excess_of, is_alone, is_only_lost_of, first_group, second_group, all_fragments, Determines}
use Rattle.gf256.specs.Field.{product}
use Rattle.gf256.proofs.Laws.{product_assoc}
use Rattle.gf256.proofs.Linear.{product-xor_right}
use Rattle.gf256.proofs.Ring.{Term, var, plus, times, same_by_ring}
use Rattle.lrc_code.specs.ParityCheck.{found_place, FirstOf, other_of, reduced_weight, determinant}
use Rattle.lrc_code.proofs.Witness.{weight-lt}
use Rattle.lrc_code.proofs.Opening.{reduced_weight-lt}
use Rattle.lrc_code.proofs.Computed.{test_below, passes_below}
use Rattle.lrc_code.proofs.Count.{without}
use Rattle.lrc_code.proofs.LostCounts.{first_count, second_count, side}
use Rattle.lrc_code.proofs.Exact.{Pivot, real, none, others, NotAlone}
use Rattle.lrc_code.proofs.Solved.{Solving}
use Rattle.lrc_code.proofs.Recoverable.{not_alone, alone_in, weight_first, weight_second, some_in, solving_by_other, solving_by_spare}

none_counted : (t : ℕ → Bool) (xs : List ℕ) → AllByRecursion (λ i. t i ≡ false) xs → count_by t xs ≡ 0
none_counted t [] a = refl
none_counted t (x ∷ xs) a = let rest = none_counted t xs a.1 in rw a.0 (omega arith)

first_members : (code : Code) → AllByRecursion (λ i. (i < fragment_count code) × (weight code 0 i ≡ 1)) (first_group code)
unfolding weight weights
first_members Wide = ((omega arith, refl), ((omega arith, refl), ((omega arith, refl), ((omega arith, refl), ((omega arith, refl), ((omega arith, refl), ((omega arith, refl), tt)))))))
first_members Small = ((omega arith, refl), ((omega arith, refl), ((omega arith, refl), ((omega arith, refl), tt))))

second_members : (code : Code) → AllByRecursion (λ i. (i < fragment_count code) × (weight code 1 i ≡ 1)) (second_group code)
unfolding weight weights
second_members Wide = ((omega arith, refl), ((omega arith, refl), ((omega arith, refl), ((omega arith, refl), ((omega arith, refl), ((omega arith, refl), ((omega arith, refl), tt)))))))
second_members Small = ((omega arith, refl), ((omega arith, refl), ((omega arith, refl), ((omega arith, refl), tt))))

all_small : (code : Code) → AllByRecursion (λ i. i < fragment_count code) (all_fragments code)
all_small Wide = (omega arith, (omega arith, (omega arith, (omega arith, (omega arith, (omega arith, (omega arith, (omega arith, (omega arith, (omega arith, (omega arith, (omega arith, (omega arith, (omega arith, (omega arith, (omega arith, tt))))))))))))))))
all_small Small = (omega arith, (omega arith, (omega arith, (omega arith, (omega arith, (omega arith, (omega arith, (omega arith, (omega arith, (omega arith, tt))))))))))

all_there : (code : Code) → test_below (λ i. eqb (slice_index_or (all_fragments code) i i) i) (fragment_count code) ≡ true
all_there Wide = refl
all_there Small = refl

all_length : (code : Code) → length (all_fragments code) ≡ fragment_count code
all_length Wide = refl
all_length Small = refl

none_at_all : (code : Code) → (t : ℕ → Bool) → All (λ i. t i ≡ false) (all_fragments code) → (i : ℕ) → i < fragment_count code → t i ≡ false
none_at_all code t a i l = All-contains (λ i. t i ≡ false) (all_fragments code) i a (i, subst (λ n. i < n) (sym (all_length code)) l, eqb-true (slice_index_or (all_fragments code) i i) i (passes_below (λ i. eqb (slice_index_or (all_fragments code) i i) i) (fragment_count code) (all_there code) i l))

pivot_first : (code : Code) → (rest : ℕ → Bool) (found_first : Option ℕ) → FirstOf rest (first_group code) found_first → Pivot code rest 0 (found_place code found_first)
pivot_first code rest None h = none refl (sym (first_count code rest) ∙ none_counted rest (first_group code) (recursion_from_All (λ i. rest i ≡ false) (first_group code) h))
pivot_first code rest (Some i) h =
    let m = All-contains (λ i. (i < fragment_count code) × (weight code 0 i ≡ 1)) (first_group code) i (All-from_recursion (λ i. (i < fragment_count code) × (weight code 0 i ≡ 1)) (first_group code) (first_members code)) h.1 in
    real m.0 h.0 m.1 (some_in code rest 0 i m.0 h.0 m.1)

pivot_second : (code : Code) → (rest : ℕ → Bool) (found_second : Option ℕ) → FirstOf rest (second_group code) found_second → Pivot code rest 1 (found_place code found_second)
pivot_second code rest None h = none refl (sym (second_count code rest) ∙ none_counted rest (second_group code) (recursion_from_All (λ i. rest i ≡ false) (second_group code) h))
pivot_second code rest (Some i) h =
    let m = All-contains (λ i. (i < fragment_count code) × (weight code 1 i ≡ 1)) (second_group code) i (All-from_recursion (λ i. (i < fragment_count code) × (weight code 1 i ≡ 1)) (second_group code) (second_members code)) h.1 in
    real m.0 h.0 m.1 (some_in code rest 1 i m.0 h.0 m.1)

solving_at : (code : Code) → (lost left_over : ℕ → Bool) (f p q : ℕ) (found_other : Option ℕ) → f < fragment_count code → lost f ≡ true → NotAlone code lost f → excess_of code lost ≤ 2
    → Pivot code (without lost f) 0 p → Pivot code (without lost f) 1 q → ((i : ℕ) → i < fragment_count code → left_over i ≡ others lost f p q i) → FirstOf left_over (all_fragments code) found_other → Solving code lost f p q (other_of code f found_other)
solving_at code lost left_over f p q None l here n few pp qq left_is other =
    solving_by_spare code lost f p q l here n pp qq (λ i il. sym (left_is i il) ∙ none_at_all code left_over other i il)
solving_at code lost left_over f p q (Some g) l here n few pp qq left_is other =
    let gl : g < fragment_count code = All-contains (λ i. i < fragment_count code) (all_fragments code) g (All-from_recursion (λ i. i < fragment_count code) (all_fragments code) (all_small code)) other.1 in
    solving_by_other code lost f p q g l here n pp qq few gl (sym (left_is g gl) ∙ other.0)

-- the fragments that the code finds make the byte at f determined
pub solving_found : (code : Code) → (lost rest left_over : ℕ → Bool) (f : ℕ) (found_first found_second found_other : Option ℕ) → f < fragment_count code → lost f ≡ true → is_alone code lost f ≡ false → excess_of code lost ≤ 2
    → ((i : ℕ) → rest i ≡ without lost f i) → FirstOf rest (first_group code) found_first → FirstOf rest (second_group code) found_second
    → ((i : ℕ) → i < fragment_count code → left_over i ≡ others lost f (found_place code found_first) (found_place code found_second) i) → FirstOf left_over (all_fragments code) found_other
    → Solving code lost f (found_place code found_first) (found_place code found_second) (other_of code f found_other)
solving_found code lost rest left_over f found_first found_second found_other l here alone few rest_is first second left_is other =
    let n = not_alone code lost f l here alone in
    let same : rest ≡ without lost f = fun_ext rest_is in
    let pp : Pivot code (without lost f) 0 (found_place code found_first) = subst (λ r. Pivot code r 0 (found_place code found_first)) same (pivot_first code rest found_first first) in
    let qq : Pivot code (without lost f) 1 (found_place code found_second) = subst (λ r. Pivot code r 1 (found_place code found_second)) same (pivot_second code rest found_second second) in
    solving_at code lost left_over f (found_place code found_first) (found_place code found_second) found_other l here n few pp qq left_is other

-- ---- alone in a group
pub determined_first : (code : Code) → (lost : ℕ → Bool) (f : ℕ) → f < fragment_count code → is_only_lost_of lost (first_group code) f ≡ true → Determines code lost f (weight code 0)
unfolding is_only_lost_of
determined_first code lost f l h =
    let lost_and = and_parts (lost f) (list_any (λ i. i == f) (first_group code) && count_by lost (first_group code) == 1) h in
    let both = and_parts (list_any (λ i. i == f) (first_group code)) (count_by lost (first_group code) == 1) lost_and.1 in
    alone_in code lost 0 f l lost_and.0 (omega arith) (weight_first code f l both.0) (sym (first_count code lost) ∙ eqb-true (count_by lost (first_group code)) 1 both.1) (λ i il. (side code i il).first)

-- such a fragment weighs 1 in the equation of its group
pub one_in_first : (code : Code) → (lost : ℕ → Bool) (f : ℕ) → f < fragment_count code → is_only_lost_of lost (first_group code) f ≡ true → weight code 0 f ≡ 1
unfolding is_only_lost_of
one_in_first code lost f l h =
    weight_first code f l (and_parts (list_any (λ i. i == f) (first_group code)) (count_by lost (first_group code) == 1) (and_parts (lost f) (list_any (λ i. i == f) (first_group code) && count_by lost (first_group code) == 1) h).1).0

pub one_in_second : (code : Code) → (lost : ℕ → Bool) (f : ℕ) → f < fragment_count code → is_only_lost_of lost (second_group code) f ≡ true → weight code 1 f ≡ 1
unfolding is_only_lost_of
one_in_second code lost f l h =
    weight_second code f l (and_parts (list_any (λ i. i == f) (second_group code)) (count_by lost (second_group code) == 1) (and_parts (lost f) (list_any (λ i. i == f) (second_group code) && count_by lost (second_group code) == 1) h).1).0

pub determined_second : (code : Code) → (lost : ℕ → Bool) (f : ℕ) → f < fragment_count code → is_only_lost_of lost (second_group code) f ≡ true → Determines code lost f (weight code 1)
unfolding is_only_lost_of
determined_second code lost f l h =
    let lost_and = and_parts (lost f) (list_any (λ i. i == f) (second_group code) && count_by lost (second_group code) == 1) h in
    let both = and_parts (list_any (λ i. i == f) (second_group code)) (count_by lost (second_group code) == 1) lost_and.1 in
    alone_in code lost 1 f l lost_and.0 (omega arith) (weight_second code f l both.0) (sym (second_count code lost) ∙ eqb-true (count_by lost (second_group code)) 1 both.1) (λ i il. (side code i il).second)

pub one_group : (code : Code) → (lost : ℕ → Bool) (f : ℕ) → f < fragment_count code → is_only_lost_of lost (first_group code) f ≡ true → is_only_lost_of lost (second_group code) f ≡ true → ⊥
one_group code lost f l h k =
    let in_first = one_in_first code lost f l h in
    let in_second = one_in_second code lost f l k in
    elim (side code f l).not_both [ inl z ↦ (let bad : ◌≡◌ {A = ℕ} 0 1 = sym z ∙ in_first in omega arith) | inr z ↦ (let bad : ◌≡◌ {A = ℕ} 0 1 = sym z ∙ in_second in omega arith) ]

pub alone_in_none : (code : Code) → (lost : ℕ → Bool) (f : ℕ) → is_only_lost_of lost (first_group code) f ≡ false → is_only_lost_of lost (second_group code) f ≡ false → is_alone code lost f ≡ false
unfolding is_alone
alone_in_none code lost f h k = rw (h, k) refl

pub only_second : (code : Code) → (lost : ℕ → Bool) (f : ℕ) → is_alone code lost f ≡ true → is_only_lost_of lost (first_group code) f ≡ false → is_only_lost_of lost (second_group code) f ≡ true
unfolding is_alone
only_second code lost f h k = rw k at h

pub in_group : (lost : ℕ → Bool) (code : Code) (f : ℕ) → is_alone code lost f ≡ true → (is_only_lost_of lost (first_group code) f ≡ true) ⊎ (is_only_lost_of lost (second_group code) f ≡ true)
unfolding is_alone
in_group lost code f h = or_cases (is_only_lost_of lost (first_group code) f) (is_only_lost_of lost (second_group code) f) h

-- a determinant times scale, with the scale taken into its factors
pub scaled_determinant : (code : Code) (p q g i scale third fourth r2 r3 : ℕ) → scale < 256 → p ≤ fragment_count code → q ≤ fragment_count code → g < fragment_count code → r2 < 256 → r3 < 256
    → third ≡ product scale (reduced_weight code p q 3 g) → fourth ≡ product scale (reduced_weight code p q 2 g) → r2 ≡ reduced_weight code p q 2 i → r3 ≡ reduced_weight code p q 3 i
    → bit_xor (product third r2) (product fourth r3) ≡ product scale (determinant code p q g i)
scaled_determinant code p q g i scale third fourth r2 r3 small pl ql gl l2 l3 e3 e4 is2 is3 =
    let a : ℕ = reduced_weight code p q 3 g in
    let b : ℕ = reduced_weight code p q 2 g in
    ap₂ bit_xor
    (ap (λ x. product x r2) e3 ∙ product_assoc scale a r2 small (reduced_weight-lt code p q 3 g (omega arith) pl ql gl) l2)
    (ap (λ x. product x r3) e4 ∙ product_assoc scale b r3 small (reduced_weight-lt code p q 2 g (omega arith) pl ql gl) l3)
    ∙ sym (product-xor_right scale (product a r2) (product b r3))
    ∙ ap₂ (λ x y. product scale (bit_xor (product a x) (product b y))) is2 is3

-- the sum of the four equations, each times its factor
abbrev by_equations : Term
by_equations =
    plus (plus (plus (times (plus (times (var 0) (var 6)) (times (var 1) (var 7))) (var 2)) (times (plus (times (var 0) (var 8)) (times (var 1) (var 9))) (var 3))) (times (var 0) (var 4))) (times (var 1) (var 5))

abbrev by_reduced : Term
by_reduced =
    plus (times (var 0) (plus (plus (var 4) (times (var 6) (var 2))) (times (var 8) (var 3)))) (times (var 1) (plus (plus (var 5) (times (var 7) (var 2))) (times (var 9) (var 3))))

pub check_by_weights : (code : Code) (p q g i scale first second third fourth : ℕ) → p ≤ fragment_count code → q ≤ fragment_count code → g < fragment_count code → i < fragment_count code → scale < 256 → third < 256 → fourth < 256
    → third ≡ product scale (reduced_weight code p q 3 g) → fourth ≡ product scale (reduced_weight code p q 2 g)
    → first ≡ bit_xor (product third (weight code 2 p)) (product fourth (weight code 3 p)) → second ≡ bit_xor (product third (weight code 2 q)) (product fourth (weight code 3 q))
    → bit_xor (bit_xor (bit_xor (product first (weight code 0 i)) (product second (weight code 1 i))) (product third (weight code 2 i))) (product fourth (weight code 3 i)) ≡ product scale (determinant code p q g i)
check_by_weights code p q g i scale first second third fourth pl ql gl il small l3 l4 third_is fourth_is first_is second_is =
    let w = λ (e : ℕ). weight code e i in
    let below : (e : ℕ) → e < 4 → w e < 256 = λ e l. weight-lt code e i l (omega arith) in
    ap₂ (λ x y. bit_xor (bit_xor (bit_xor (product x (w 0)) (product y (w 1))) (product third (w 2))) (product fourth (w 3))) first_is second_is
    ∙ same_by_ring (third ∷ fourth ∷ w 0 ∷ w 1 ∷ w 2 ∷ w 3 ∷ weight code 2 p ∷ weight code 3 p ∷ weight code 2 q ∷ weight code 3 q ∷ [])
    (l3, (l4, (below 0 (omega arith), (below 1 (omega arith), (below 2 (omega arith), (below 3 (omega arith), (weight-lt code 2 p (omega arith) pl, (weight-lt code 3 p (omega arith) pl, (weight-lt code 2 q (omega arith) ql, (weight-lt code 3 q (omega arith) ql, (tt {0})))))))))))
    by_equations by_reduced refl
    ∙ scaled_determinant code p q g i scale third fourth (reduced_weight code p q 2 i) (reduced_weight code p q 3 i) small pl ql gl
    (reduced_weight-lt code p q 2 i (omega arith) pl ql il) (reduced_weight-lt code p q 3 i (omega arith) pl ql il) third_is fourth_is refl refl
