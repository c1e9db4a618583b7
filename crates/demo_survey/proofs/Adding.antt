-- What was chosen for the numbers below n, and for n.
use Rattle.std.proofs.Common.{◌≡◌, ◌≢◌, ℕ, ◌+◌, ◌<◌, Bool, true, false, cond, eqb, [], ◌∷◌, ◌++◌, max, nat_cmp, fold, sum, refl, sym, ap, ◌∙◌, subst, arith, inl, inr, add-zero}
use Rattle.std.specs.Ordering.{ord_max}
use Rattle.std.proofs.lemmas.Bool.{cases_eq, eq-eqb, ne_eqb, false≢true}
use Rattle.std.proofs.lemmas.Bool.Decides.{nat_tests}
use Rattle.std.proofs.lemmas.List.Sums.{sum_by-append, fold-append}
use Rattle.std.proofs.lemmas.List.FromFn.{map-range_with_len_more, get_or-map-range_with_len, length-map-range_with_len, fill_by_all}
use Rattle.demo_survey.specs.Survey.{values, Adds}

pub true_from_ne_false : (b : Bool) → (b ≢ false) → b ≡ true
true_from_ne_false true n = refl
true_from_ne_false false n = absurd (n refl)

pub ord_max-nat : (a b : ℕ) → ord_max nat_cmp a b ≡ max a b
ord_max-nat a b = grind (arith, nat_tests)

values_more : (n : ℕ) (g : ℕ → ℕ) → values (n + 1) g ≡ values n g ++ g n ∷ []
values_more n g = map-range_with_len_more g 0 n n (omega arith)

values_same : (n : ℕ) (g h : ℕ → ℕ) → ((k : ℕ) → k < n → g k ≡ h k) → values n g ≡ values n h
values_same n g h same = fill_by_all h (values n g) n 0 (length-map-range_with_len g 0 n) (λ k l. get_or-map-range_with_len g 0 n k k 0 l (omega arith) ∙ same k l)

sum_more : (n : ℕ) (g : ℕ → ℕ) → sum (values (n + 1) g) ≡ sum (values n g) + g n
sum_more n g = ap sum (values_more n g) ∙ sum_by-append (λ x. x) (values n g) (g n ∷ []) ∙ omega arith

most_more : (n : ℕ) (g : ℕ → ℕ) → fold max 0 (values (n + 1) g) ≡ max (fold max 0 (values n g)) (g n)
most_more n g = ap (fold max 0) (values_more n g) ∙ fold-append max 0 (values n g) (g n ∷ [])

module _ {X : Type 0} (test : ℕ → Bool) (Fits : ℕ → X → Type 0) (size height : X → ℕ) where
  pub none : (x : X) → Adds test Fits size height 0 0 0
  none x = record { chosen = λ _. x; each = λ k l. absurd (omega arith); total_is = refl; most_is = refl }

  pub skip : (n total most : ℕ) → test n ≡ false → Adds test Fits size height n total most → Adds test Fits size height (n + 1) total most
  skip n total most fails a =
      let sizes : ℕ → ℕ = λ k. cond (test k) (size (a.chosen k)) 0 in
      let heights : ℕ → ℕ = λ k. cond (test k) (height (a.chosen k)) 0 in
      let size_none : sizes n ≡ 0 = rw fails refl in
      let height_none : heights n ≡ 0 = rw fails refl in
      record {
        chosen = a.chosen;
        each = λ k l passes. elim (cases_eq k n) [
          | inl same ↦ absurd (false≢true (sym fails ∙ ap test (sym same) ∙ passes))
          | inr other ↦ a.each k (omega arith) passes
        ];
        total_is = a.total_is ∙ sym (sum_more n sizes ∙ ap (λ x. sum (values n sizes) + x) size_none ∙ add-zero (sum (values n sizes)));
        most_is = a.most_is ∙ sym (most_more n heights ∙ ap (max (fold max 0 (values n heights))) height_none ∙ omega arith);
      }

  pub more : (n total most : ℕ) (x : X) → test n ≡ true → Fits n x → Adds test Fits size height n total most → Adds test Fits size height (n + 1) (total + size x) (max most (height x))
  more n total most x holds fits a =
      let now : ℕ → X = λ k. cond (eqb k n) x (a.chosen k) in
      let here : now n ≡ x = rw (eq-eqb n n refl) refl in
      let before : (k : ℕ) → k < n → now k ≡ a.chosen k = λ k l. rw (ne_eqb k n (omega arith)) refl in
      let sizes : ℕ → ℕ = λ k. cond (test k) (size (now k)) 0 in
      let heights : ℕ → ℕ = λ k. cond (test k) (height (now k)) 0 in
      let size_here : sizes n ≡ size x = rw holds (ap size here) in
      let height_here : heights n ≡ height x = rw holds (ap height here) in
      let sizes_before : values n (λ k. cond (test k) (size (a.chosen k)) 0) ≡ values n sizes = values_same n _ sizes (λ k l. ap (λ y. cond (test k) (size y) 0) (sym (before k l))) in
      let heights_before : values n (λ k. cond (test k) (height (a.chosen k)) 0) ≡ values n heights = values_same n _ heights (λ k l. ap (λ y. cond (test k) (height y) 0) (sym (before k l))) in
      record {
        chosen = now;
        each = λ k l passes. elim (cases_eq k n) [
          | inl same ↦ subst (λ j. Fits j (now j)) (sym same) (subst (Fits n) (sym here) fits)
          | inr other ↦ let below : k < n = omega arith in subst (Fits k) (sym (before k below)) (a.each k below passes)
        ];
        total_is = ap (λ t. t + size x) (a.total_is ∙ ap sum sizes_before) ∙ sym (sum_more n sizes ∙ ap (λ y. sum (values n sizes) + y) size_here);
        most_is = ap (λ t. max t (height x)) (a.most_is ∙ ap (fold max 0) heights_before) ∙ sym (most_more n heights ∙ ap (max (fold max 0 (values n heights))) height_here);
      }
