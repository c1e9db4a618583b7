-- Counts and sums over the numbers below n, a number more at a time.
use Rattle.std.proofs.Common.{◌≡◌, ℕ, zero, suc, ◌+◌, ◌≤◌, Bool, true, false, cond, [], ◌∷◌, ◌++◌, count_by, refl, sym, ap, ap₂, ◌∙◌, arith, zero-add, add-zero, add-one}
use mir.Val.{bool_byte}
use Rattle.std.specs.List.{range_with_len}
use Rattle.std.proofs.lemmas.List.Sums.{sum_by-append, count_by-le-length}
use Rattle.std.proofs.lemmas.List.FromFn.{length-range_with_len}

pub range_more : (a n : ℕ) → range_with_len a (suc n) ≡ range_with_len a n ++ (a + n) ∷ []
range_more a zero = ap (λ x. x ∷ []) (sym (add-zero a))
range_more a (suc n) = ap (λ xs. a ∷ xs) (range_more (a + 1) n ∙ ap (λ x. range_with_len (a + 1) n ++ x ∷ []) (omega arith))

pub count_more : (p : ℕ → Bool) (n : ℕ) → count_by p (range_with_len 0 (n + 1)) ≡ count_by p (range_with_len 0 n) + cond (p n) 1 0
count_more p n =
    ap (λ k. count_by p (range_with_len 0 k)) (add-one n) ∙ ap (count_by p) (range_more 0 n) ∙ sum_by-append (λ x. cond (p x) 1 0) (range_with_len 0 n) ((0 + n) ∷ [])
    ∙ ap (λ x. count_by p (range_with_len 0 n) + x) (zero-add (cond (p (0 + n)) 1 0) ∙ ap (λ x. cond (p x) 1 0) (zero-add n))

pub count_at_most : (p : ℕ → Bool) (n : ℕ) → count_by p (range_with_len 0 n) ≤ n
count_at_most p n = omega (arith, count_by-le-length p (range_with_len 0 n), length-range_with_len 0 n)

-- a turn of a loop that counts
byte_is : (b : Bool) → bool_byte b ≡ cond b 1 0
byte_is true = refl
byte_is false = refl

pub byte_small : (b : Bool) → bool_byte b ≤ 1
byte_small true = omega arith
byte_small false = omega arith

pub counted : (p : ℕ → Bool) (n count byte : ℕ) (b : Bool) → count ≡ count_by p (range_with_len 0 n) → byte ≡ bool_byte b → b ≡ p n → count + byte ≡ count_by p (range_with_len 0 (n + 1))
counted p n count byte b before is test = ap₂ ◌+◌ before (is ∙ ap bool_byte test ∙ byte_is (p n)) ∙ sym (count_more p n)
