-- A recipe made of a row.
use Rattle.lrc_code.specs.declared.Code.{Code}
use Rattle.lrc_code.specs.declared.Code.TheVariants.{Wide, Small}
use Rattle.std.proofs.Common.{◌≡◌, ◌≢◌, ℕ, zero, suc, ◌+◌, ◌<◌, ◌≤◌, ◌⊎◌, Bool, cond, eqb, List, [], ◌∷◌, ◌++◌, length, bit_xor, refl, sym, ap, ap₂, ◌∙◌, arith, inl, inr, length-append, append-nil, add-one, take, get_or}
use Rattle.std.proofs.lemmas.List.{take_more}
use Rattle.std.specs.Prelude.{◌==◌, ◌||◌, if◌then◌else◌}
use Rattle.std.specs.List.{All}
use Rattle.std.proofs.lemmas.List.Elements.{All-append, All-nil, All-cons}
use Rattle.std.proofs.lemmas.Bool.{cases_eq, cases_lt, cases_Bool, eq-eqb, ne_eqb}
use lib.Bits.{xor_assoc, xor_zero_r}
use Rattle.gf256.specs.Field.{product}
use Rattle.gf256.proofs.Laws.{product-zero_left}
use Rattle.lrc_code.specs.declared.recipes.Term.{Term}
use Rattle.lrc_code.specs.Code.{fragment_count, xor_sum, Determines}
use Rattle.lrc_code.specs.Recipe.{recipe_sum, IsTerm, IsRecipe, term_at, terms}

pub recipe_sum-append : (xs ys : List Term) (c : ℕ → ℕ) → recipe_sum (xs ++ ys) c ≡ bit_xor (recipe_sum xs c) (recipe_sum ys c)
unfolding recipe_sum
recipe_sum-append [] ys c = refl
recipe_sum-append (x ∷ xs) ys c = ap (bit_xor (product x.coefficient (c x.fragment))) (recipe_sum-append xs ys c) ∙ sym (xor_assoc _ (recipe_sum xs c) (recipe_sum ys c))

term_at_sum : (r : ℕ → ℕ) (f i : ℕ) (c : ℕ → ℕ) → recipe_sum (term_at r f i) c ≡ cond (i == f) 0 (product (r i) (c i))
unfolding recipe_sum
term_at_sum r f i c =
    elim (cases_eq i f) [
      | inl same ↦ rw (eq-eqb i f same) refl
      | inr differ ↦ rw (ne_eqb i f differ) (elim (cases_eq (r i) 0) [
        | inl none ↦ rw (eq-eqb (r i) 0 none) (sym (ap (λ w. product w (c i)) none ∙ product-zero_left (c i)))
        | inr some ↦ rw (ne_eqb (r i) 0 some) (xor_zero_r (product (r i) (c i)))
      ])
    ]

pub terms_sum : (r : ℕ → ℕ) (f n : ℕ) (c : ℕ → ℕ) → recipe_sum (terms r f n) c ≡ xor_sum n (λ i. cond (i == f) 0 (product (r i) (c i)))
unfolding terms xor_sum recipe_sum
terms_sum r f zero c = refl
terms_sum r f (suc n) c = recipe_sum-append (terms r f n) (term_at r f n) c ∙ ap₂ bit_xor (terms_sum r f n c) (term_at_sum r f n c)

term_at_left : (code : Code) → (lost : ℕ → Bool) (f : ℕ) (r : ℕ → ℕ) → Determines code lost f r → (i : ℕ) → i < fragment_count code → All (IsTerm code lost) (term_at r f i)
term_at_left code lost f r d i l =
    elim (cases_eq i f) [
      | inl same ↦ rw (eq-eqb i f same) (All-nil (IsTerm code lost))
      | inr differ ↦ rw (ne_eqb i f differ) (elim (cases_eq (r i) 0) [
        | inl none ↦ rw (eq-eqb (r i) 0 none) (All-nil (IsTerm code lost))
        | inr some ↦ rw (ne_eqb (r i) 0 some) (All-cons (IsTerm code lost) (record { fragment = i; coefficient = r i }) []
            (l, elim (cases_Bool (lost i)) [ inl gone ↦ absurd (some (d.only_left i l gone differ)) | inr left ↦ left ], some) (All-nil (IsTerm code lost)))
      ])
    ]

terms_left : (code : Code) → (lost : ℕ → Bool) (f : ℕ) (r : ℕ → ℕ) → Determines code lost f r → (n : ℕ) → n ≤ fragment_count code → All (IsTerm code lost) (terms r f n)
unfolding terms
terms_left code lost f r d zero l = All-nil (IsTerm code lost)
terms_left code lost f r d (suc n) l = All-append (IsTerm code lost) (terms r f n) (term_at r f n) (terms_left code lost f r d n (omega arith)) (term_at_left code lost f r d n (omega arith))

pub terms_are_recipe : (code : Code) → (lost : ℕ → Bool) (f : ℕ) (r : ℕ → ℕ) → Determines code lost f r → IsRecipe code lost f (terms r f (fragment_count code))
terms_are_recipe code lost f r d = record {
  each = terms_left code lost f r d (fragment_count code) (omega arith);
  gives = λ c is. d.gives c is ∙ sym (terms_sum r f (fragment_count code) c);
}

term_at_short : (r : ℕ → ℕ) (f i : ℕ) → length (term_at r f i) + cond (eqb i f) 1 0 ≤ 1
term_at_short r f i =
    elim (cases_eq i f) [
      | inl same ↦ rw (eq-eqb i f same) (omega arith)
      | inr differ ↦ rw (ne_eqb i f differ) (elim (cases_eq (r i) 0) [
        | inl none ↦ rw (eq-eqb (r i) 0 none) (omega arith)
        | inr some ↦ rw (ne_eqb (r i) 0 some) (omega arith)
      ])
    ]

pub terms_short : (r : ℕ → ℕ) (f n : ℕ) → length (terms r f n) ≤ n
unfolding terms
terms_short r f zero = omega arith
terms_short r f (suc n) = let one = term_at_short r f n in let rest = terms_short r f n in omega (arith, length-append (terms r f n) (term_at r f n))

pub terms_shorter : (r : ℕ → ℕ) (f n : ℕ) → f < n → suc (length (terms r f n)) ≤ n
unfolding terms
terms_shorter r f zero l = absurd (omega arith)
terms_shorter r f (suc n) l =
    elim (cases_eq n f) [
      | inl same ↦ let none : length (term_at r f n) ≡ 0 = rw (eq-eqb n f same) refl in let rest = terms_short r f n in omega (arith, length-append (terms r f n) (term_at r f n), none)
      | inr differ ↦ let one = term_at_short r f n in let rest = terms_shorter r f n (omega arith) in omega (arith, length-append (terms r f n) (term_at r f n))
    ]

fragments_few : (code : Code) → fragment_count code ≤ 16
fragments_few Wide = omega arith
fragments_few Small = omega arith

pub terms_room : (code : Code) → (r : ℕ → ℕ) (f n : ℕ) → n < fragment_count code → f < fragment_count code → n ≢ f → length (terms r f n) < 15
terms_room code r f n l m d =
    let few = fragments_few code in
    elim (cases_lt f n) [
      | inl after ↦ let s = terms_shorter r f n after in omega arith
      | inr before ↦ let s = terms_short r f n in omega arith
    ]

pub terms_more : (r : ℕ → ℕ) (f n : ℕ) → n ≢ f → r n ≢ 0 → terms r f n ++ (record { fragment = n; coefficient = r n } ∷ []) ≡ terms r f (suc n)
unfolding terms
terms_more r f n d some = ap (λ ps. terms r f n ++ ps) (sym (rw (ne_eqb n f d, ne_eqb (r n) 0 some) refl))

pub terms_same : (r : ℕ → ℕ) (f n : ℕ) → (n ≡ f) ⊎ (r n ≡ 0) → terms r f n ≡ terms r f (suc n)
unfolding terms
terms_same r f n e =
    let none : term_at r f n ≡ [] = elim e [
      | inl same ↦ rw (eq-eqb n f same) refl
      | inr no_weight ↦ elim (cases_eq n f) [ inl same ↦ rw (eq-eqb n f same) refl | inr differ ↦ rw (ne_eqb n f differ, eq-eqb (r n) 0 no_weight) refl ]
    ] in
    sym (ap (λ ps. terms r f n ++ ps) none ∙ append-nil (terms r f n))

-- a step of the loop that makes the terms
pub terms_pushed : (r : ℕ → ℕ) (f n w : ℕ) (items : List Term) → items ≡ terms r f n → w ≡ r n → n ≢ f → w ≢ 0 → items ++ (record { fragment = n; coefficient = w } ∷ []) ≡ terms r f (n + 1)
terms_pushed r f n w items e is d some =
    rw (e, add-one)
    (ap (λ v. terms r f n ++ (record { fragment = n; coefficient = v } ∷ [])) is ∙ terms_more r f n d (λ z. some (is ∙ z)))

pub terms_skipped : (r : ℕ → ℕ) (f n : ℕ) (items : List Term) → items ≡ terms r f n → (n ≡ f) ⊎ (r n ≡ 0) → items ≡ terms r f (n + 1)
terms_skipped r f n items e none = rw add-one (e ∙ terms_same r f n none)

-- weights that are the same give the same terms
pub terms_same_weights : (r s : ℕ → ℕ) (f n : ℕ) → ((i : ℕ) → i < n → r i ≡ s i) → terms r f n ≡ terms s f n
unfolding terms
terms_same_weights r s f zero same = refl
terms_same_weights r s f (suc n) same =
    ap₂ (λ xs w. xs ++ (if (n == f) || (w == 0) then [] else (record { fragment = n; coefficient = w } ∷ []))) (terms_same_weights r s f n (λ i l. same i (omega arith))) (same n (omega arith))

-- one term more
pub recipe_sum_more : (xs : List Term) (i : ℕ) (d : Term) (c : ℕ → ℕ) → i < length xs
    → recipe_sum (take (i + 1) xs) c ≡ bit_xor (recipe_sum (take i xs) c) (product (get_or xs i d).coefficient (c (get_or xs i d).fragment))
unfolding recipe_sum
recipe_sum_more xs i d c l =
    ap (λ ys. recipe_sum ys c) (take_more xs i d l)
    ∙ recipe_sum-append (take i xs) (get_or xs i d ∷ []) c
    ∙ ap (bit_xor (recipe_sum (take i xs) c)) (xor_zero_r (product (get_or xs i d).coefficient (c (get_or xs i d).fragment)))

pub recipe_sum_none : (c : ℕ → ℕ) → recipe_sum [] c ≡ 0
unfolding recipe_sum
recipe_sum_none c = refl
