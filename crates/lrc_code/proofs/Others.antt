-- The others of the group of a fragment: their sum is the recipe of the fragment where it is alone lost.
use Rattle.lrc_code.specs.declared.Code.{Code}
use Rattle.lrc_code.specs.declared.Code.TheVariants.{Wide, Small}
use Rattle.std.proofs.Common.{◌≡◌, ℕ, ◌+◌, ◌<◌, Bool, true, false, List, [], ◌∷◌, get_or, eqb, eqb-true, refl, sym, ◌∙◌, subst, arith, inl, inr}
use Rattle.std.specs.Prelude.{slice_index_or}
use Rattle.std.specs.List.{All, AllByRecursion}
use Rattle.std.proofs.lemmas.List.Elements.{recursion_from_All, All-from_recursion}
use Rattle.lrc_code.specs.declared.alone.TheConstants.{WIDE_OTHERS, SMALL_OTHERS, ONES}
use Rattle.lrc_code.specs.Code.{fragment_count, data_count, is_alone, is_only_lost_of, first_group, second_group}
use Rattle.lrc_code.specs.Recipe.{IsRecipe, IsTerm, ones_of, local_recipe}
use Rattle.lrc_code.proofs.Computed.{passes_below}
use Rattle.lrc_code.proofs.RowTerms.{terms_are_recipe}
use Rattle.lrc_code.proofs.Local.{local_first, local_second, member}
use Rattle.lrc_code.proofs.Checks.{determined_first, determined_second, in_group}
use Rattle.lrc_code.proofs.Only.{at_member}

abbrev pub others_at : Code → ℕ → List ℕ
others_at Wide f = slice_index_or WIDE_OTHERS f []
others_at Small f = slice_index_or SMALL_OTHERS f []

-- what the tables have at a fragment of a group
abbrev IsRow : Code → List ℕ → ℕ → Type 0
IsRow code group f = (f < data_count code + 2) × (f < fragment_count code) × (ones_of (others_at code f) ≡ local_recipe group f)

first_rows : (code : Code) → AllByRecursion (IsRow code (first_group code)) (first_group code)
first_rows Wide = ((omega arith, omega arith, refl), ((omega arith, omega arith, refl), ((omega arith, omega arith, refl), ((omega arith, omega arith, refl), ((omega arith, omega arith, refl), ((omega arith, omega arith, refl), ((omega arith, omega arith, refl), tt)))))))
first_rows Small = ((omega arith, omega arith, refl), ((omega arith, omega arith, refl), ((omega arith, omega arith, refl), ((omega arith, omega arith, refl), tt))))

second_rows : (code : Code) → AllByRecursion (IsRow code (second_group code)) (second_group code)
second_rows Wide = ((omega arith, omega arith, refl), ((omega arith, omega arith, refl), ((omega arith, omega arith, refl), ((omega arith, omega arith, refl), ((omega arith, omega arith, refl), ((omega arith, omega arith, refl), ((omega arith, omega arith, refl), tt)))))))
second_rows Small = ((omega arith, omega arith, refl), ((omega arith, omega arith, refl), ((omega arith, omega arith, refl), ((omega arith, omega arith, refl), tt))))

first_row : (code : Code) (lost : ℕ → Bool) (f : ℕ) → is_only_lost_of lost (first_group code) f ≡ true → IsRow code (first_group code) f
first_row code lost f h = at_member (IsRow code (first_group code)) (first_group code) f (first_rows code) (member lost (first_group code) f h)

second_row : (code : Code) (lost : ℕ → Bool) (f : ℕ) → is_only_lost_of lost (second_group code) f ≡ true → IsRow code (second_group code) f
second_row code lost f h = at_member (IsRow code (second_group code)) (second_group code) f (second_rows code) (member lost (second_group code) f h)

below_16 : (code : Code) (i : ℕ) → i < fragment_count code → i < 16
below_16 Wide i l = l
below_16 Small i l = omega arith

each_at : (code : Code) (lost : ℕ → Bool) (P : ℕ → Type 0) → ((i : ℕ) → i < fragment_count code → lost i ≡ false → P i) → (xs : List ℕ) → AllByRecursion (IsTerm code lost) (ones_of xs)
    → AllByRecursion (λ i. (i < 16) × P i) xs
each_at code lost P left [] a = tt
each_at code lost P left (x ∷ xs) a = ((below_16 code x a.0.0, left x a.0.0 a.0.1), each_at code lost P left xs a.1)

-- ---- alone lost in its group
module _ (code : Code) (lost : ℕ → Bool) (f : ℕ) (alone : is_alone code lost f ≡ true) where
  pub in_table : f < data_count code + 2
  in_table = elim (in_group lost code f alone) [ inl h ↦ (first_row code lost f h).0 | inr h ↦ (second_row code lost f h).0 ]

  pub in_code : f < fragment_count code
  in_code = elim (in_group lost code f alone) [ inl h ↦ (first_row code lost f h).1 | inr h ↦ (second_row code lost f h).1 ]

  pub others_are_recipe : IsRecipe code lost f (ones_of (others_at code f))
  others_are_recipe = elim (in_group lost code f alone) [
    | inl h ↦
        let row = first_row code lost f h in
        subst (IsRecipe code lost f) (local_first code lost f h ∙ sym row.2) (terms_are_recipe _ _ _ _ (determined_first code lost f row.1 h))
    | inr h ↦
        let row = second_row code lost f h in
        subst (IsRecipe code lost f) (local_second code lost f h ∙ sym row.2) (terms_are_recipe _ _ _ _ (determined_second code lost f row.1 h))
  ]

  -- a fact of each fragment that is left holds of each of the others
  pub each_other : (P : ℕ → Type 0) → ((i : ℕ) → i < fragment_count code → lost i ≡ false → P i) → All (λ i. (i < 16) × P i) (others_at code f)
  each_other P left = All-from_recursion (λ i. (i < 16) × P i) (others_at code f) (each_at code lost P left (others_at code f) (recursion_from_All (IsTerm code lost) (ones_of (others_at code f)) others_are_recipe.each))

-- ---- the same at a row of the tables
module _ (code kind : Code) (lost : ℕ → Bool) (f n : ℕ) (is : code ≡ kind) (same : n ≡ f) (alone : is_alone code lost f ≡ true) where
  pub in_rows : n < data_count kind + 2
  in_rows = subst (λ c. n < data_count c + 2) is (subst (λ m. m < data_count code + 2) (sym same) (in_table code lost f alone))

  pub row_is_recipe : IsRecipe code lost f (ones_of (others_at kind n))
  row_is_recipe = subst (λ c. IsRecipe code lost f (ones_of (others_at c n))) is (subst (λ m. IsRecipe code lost f (ones_of (others_at code m))) (sym same) (others_are_recipe code lost f alone))

  pub each_of_row : (P : ℕ → Type 0) → ((i : ℕ) → i < fragment_count code → lost i ≡ false → P i) → All (λ i. (i < 16) × P i) (others_at kind n)
  each_of_row P left = subst (λ c. All (λ i. (i < 16) × P i) (others_at c n)) is (subst (λ m. All (λ i. (i < 16) × P i) (others_at code m)) (sym same) (each_other code lost f alone P left))

-- ---- the coefficients
pub one_at : (i : ℕ) → i < 6 → get_or ONES i 0 ≡ 1
one_at i l = eqb-true (get_or ONES i 0) 1 (passes_below (λ i. eqb (get_or ONES i 0) 1) 6 refl i l)
