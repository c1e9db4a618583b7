-- What is known of the lost fragment that was asked for, in the words of the arguments.
use Rattle.std.proofs.Common.{◌≡◌, ℕ, ◌<◌, Bool, true, List, sym, ap, ap₂, ◌∙◌, subst}
use Rattle.std.specs.Prelude.{Option, Some, IfSome, IsSomeAnd}
use Rattle.lrc_code.specs.declared.Code.{Code}
use Rattle.lrc_code.specs.declared.recipes.Term.{Term}
use Rattle.lrc_code.specs.Code.{fragment_count, is_alone, is_only_lost_of, Open}
use Rattle.lrc_code.specs.Recipe.{IsRecipe, IsLeast, local_recipe}
use Rattle.lrc_code.proofs.Stripes.{open_same, alone_same, recipe_not_open}

pub at_code : (found : Option Code) (code : Code) (P : Code → Type 0) → found ≡ Some code → P code → IfSome found P
at_code found code P is p = subst (λ o. IfSome o P) (sym is) p

-- it has a recipe, so it is not open
pub not_open : (found : Option Code) (code : Code) (t u : ℕ → Bool) (f g : ℕ) (terms : List Term) → found ≡ Some code → ((i : ℕ) → t i ≡ u i) → f ≡ g → IsRecipe code t f terms
    → IsSomeAnd found (λ code. Open code u g) → ⊥
not_open found code t u f g terms is same e recipe is_open =
    let here : Open code u g = subst (λ o. IsSomeAnd o (λ code. Open code u g)) is is_open in
    recipe_not_open code t f terms recipe (open_same code u t f (λ i l. sym (same i)) (subst (λ n. Open code u n) (sym e) here))

pub least_there : (code : Code) (t u : ℕ → Bool) (f g : ℕ) (terms written : List Term) → f < fragment_count code → ((i : ℕ) → t i ≡ u i) → f ≡ g → written ≡ terms
    → (is_alone code t f ≡ true → IsLeast code f terms) → is_alone code u g ≡ true → IsLeast code g written
least_there code t u f g terms written l same e are least alone =
    let here : is_alone code t f ≡ true = alone_same code t u f l (λ i m. same i) ∙ ap (is_alone code u) e ∙ alone in
    subst (λ n. IsLeast code n written) e (subst (λ xs. IsLeast code f xs) (sym are) (least here))

-- alone lost in its group, its recipe is the local one
pub local_there : (t u : ℕ → Bool) (f g : ℕ) (terms written : List Term) (group : List ℕ) → ((i : ℕ) → t i ≡ u i) → f ≡ g → written ≡ terms
    → (is_only_lost_of t group f ≡ true → terms ≡ local_recipe group f) → is_only_lost_of u group g ≡ true → written ≡ local_recipe group g
local_there t u f g terms written group same e are local only =
    let sets : t ≡ u = λ j i. same i j in
    are ∙ local (ap₂ (λ (l : ℕ → Bool) (x : ℕ). is_only_lost_of l group x) sets e ∙ only) ∙ ap (local_recipe group) e
