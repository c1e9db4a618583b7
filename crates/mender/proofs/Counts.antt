-- How often a number stands in a list.
use Rattle.std.proofs.Common.{◌≡◌, ℕ, zero, suc, ◌+◌, ◌<◌, ◌≤◌, ◌==◌, cond, Bool, List, [], ◌∷◌, ◌++◌, length, slice_index, All, sum_by, refl, ap, ◌∙◌, arith, length-append, eq-eqb}
use mathlib.Core.Logic.{dite}
use native.Mathlib.Decide.{dec_lt}
use Rattle.std.proofs.lemmas.List.Sums.{sum_by-cons}
use Rattle.std.proofs.lemmas.Bool.Decides.{nat_tests}
use Rattle.gate.specs.Places.{times}
use Rattle.std.specs.List.Sorted.{IsStrictlyIncreasing}
use Rattle.std.proofs.lemmas.List.{get_or_append_left}
use Rattle.std.proofs.Math.Seq.{get_or-append_seam}
use Rattle.mender.specs.Drawn.{once_below}

pub sum_le : {A : Type 0} (f g : A → ℕ) → ((x : A) → f x ≤ g x) → (xs : List A) → sum_by f xs ≤ sum_by g xs
sum_le f g le [] = omega arith
sum_le f g le (x ∷ xs) = let here = le x in let more = sum_le f g le xs in omega (arith, sum_by-cons f x xs, sum_by-cons g x xs)

pub none_drawn : (n : ℕ) (xs : List ℕ) → length xs ≡ 0 → times n xs ≡ 0
none_drawn n [] e = refl
none_drawn n (x ∷ xs) e = absurd (omega arith)

-- a number that stands in a list with another before it
times-cons : (m x : ℕ) (xs : List ℕ) → times m (x ∷ xs) ≡ cond (x == m) 1 0 + times m xs
times-cons m x xs = sum_by-cons (λ q. cond (q == m) 1 0) x xs

-- where no number from n on stands in a list, all are below n
pub all_below : (n : ℕ) (xs : List ℕ) → ((m : ℕ) → n ≤ m → times m xs ≡ 0) → All (λ m. m < n) xs
all_below n [] none k d lt = absurd (omega arith)
all_below n (x ∷ xs) none zero d lt = dite (dec_lt x n)
    (λ below. below)
    (λ past.
    let all = times-cons x x xs in
    let one : cond {A = ℕ} (x == x) 1 0 ≡ 1 = ap {B = ℕ} (λ (b : Bool). cond b 1 0) (eq-eqb x x refl) in
    let here = none x (omega arith) in
    absurd (omega arith))
all_below n (x ∷ xs) none (suc k) d lt =
    all_below n xs (λ m le. let all = times-cons m x xs in let here = none m le in omega arith) k d (omega arith)

pub once_below-suc : (n count : ℕ) → once_below n (count + 1) ≡ once_below n count + cond (count == n) 1 0
once_below-suc n count = grind (arith, nat_tests)

pub once_below-in : (n count : ℕ) → n < count → once_below n count ≡ 1
once_below-in n count lt = grind (arith, nat_tests)

pub once_below-out : (n count : ℕ) → count ≤ n → once_below n count ≡ 0
once_below-out n count le = grind (arith, nat_tests)

pub once_below-le : (n count : ℕ) → once_below n count ≤ 1
once_below-le n count = grind (arith, nat_tests)

pub rises_none : IsStrictlyIncreasing []
rises_none k lt = absurd (omega arith)

-- a number above all before it
pub rises-push : (xs : List ℕ) (n : ℕ) → IsStrictlyIncreasing xs → All (λ m. m < n) xs → IsStrictlyIncreasing (xs ++ n ∷ [])
rises-push xs n rises below k lt =
    let long = length-append xs (n ∷ []) in
    let here : slice_index (xs ++ n ∷ []) k ≡ slice_index xs k = get_or_append_left xs (n ∷ []) 0 k (omega arith) in
    dite (dec_lt (k + 1) (length xs))
    (λ inside.
    let next : slice_index (xs ++ n ∷ []) (k + 1) ≡ slice_index xs (k + 1) = get_or_append_left xs (n ∷ []) 0 (k + 1) inside in
    let less = rises k inside in
    omega arith)
    (λ outside.
    let at : k + 1 ≡ length xs = omega arith in
    let next : slice_index (xs ++ n ∷ []) (k + 1) ≡ n = ap (slice_index (xs ++ n ∷ [])) at ∙ get_or-append_seam xs n [] 0 in
    let less : slice_index xs k < n = below k 0 (omega arith) in
    omega arith)
