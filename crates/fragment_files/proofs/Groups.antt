-- The terms of a local recipe are of its group.
use Rattle.std.proofs.Common.{◌≡◌, ◌==◌, ℕ, true, not, List, get_or, refl}
use Rattle.std.specs.List.{All, filter}
use Rattle.std.proofs.lemmas.List.Elements.{All-filter, All-map}
use Rattle.std.proofs.lemmas.List.Folds.{list_any_at}
use Rattle.std.proofs.lemmas.Bool.{eq-eqb}
use Rattle.lrc_code.specs.declared.recipes.Term.{Term}
use Rattle.lrc_code.specs.Recipe.{local_recipe}
use Rattle.fragment_files.specs.Needed.{is_member}

all_members : (group : List ℕ) → All (λ i. is_member group i ≡ true) group
all_members group = λ k d below. list_any_at (λ j. j == get_or group k d) group k d below (eq-eqb (get_or group k d) (get_or group k d) refl)

pub all_of_group : (group : List ℕ) (f : ℕ) → All (λ term. is_member group term.fragment ≡ true) (local_recipe group f)
all_of_group group f = All-map (λ (term : Term). is_member group term.fragment ≡ true) (λ i. record { fragment = i; coefficient = 1 }) (filter (λ i. not (i == f)) group)
    (All-filter (λ i. not (i == f)) (λ i. is_member group i ≡ true) group (all_members group))
