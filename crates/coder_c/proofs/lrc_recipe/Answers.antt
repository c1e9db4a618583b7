use Rattle.std.proofs.Common.{◌≡◌, ℕ, List, true, IfSome, length, sym, ap, ◌∙◌}
use Rattle.lrc_code.specs.declared.Code.{Code}
use Rattle.lrc_code.specs.Code.{is_lost, is_alone, is_only_lost_of, first_group, second_group}
use Rattle.lrc_code.specs.Recipe.{IsLeast, local_recipe}
use Rattle.coder_c.specs.Call.{code_with, terms_of}
use Rattle.coder_c.proofs.Asked.{at_code, not_open, least_there, local_there}
use Rattle.coder_c.proofs.lrc_recipe.Goals as goal

-- what was written are the recipe's terms
written : (c : goal.After-len) → terms_of c.write_terms.new.fragments c.write_terms.new.coefficients c.len.result ≡ c.in-Some-recipe_in.recipe.items
written c =
    let new = c.write_terms.new in
    let count : c.len.result ≡ length c.as_slice.result.now = c.len.ensures.value ∙ ap length (sym c.as_slice.ensures.value) in
    ap (terms_of new.fragments new.coefficients) count ∙ c.write_terms.ensures ∙ c.as_slice.ensures.value

-- where a fragment alone is lost in its group, the terms are those of the group
alone_in : (c : goal.After-len) (group : Code → List ℕ) → (is_only_lost_of (is_lost c.in-Some.asked.lost) (group c.in-Some.asked.code) c.in-Some.asked.number ≡ true → c.in-Some-recipe_in.recipe.items ≡ local_recipe (group c.in-Some.asked.code) c.in-Some.asked.number)
    → IfSome (code_with c.args.data_fragments) (λ code. is_only_lost_of (is_lost c.args.lost) (group code) c.args.fragment ≡ true → terms_of c.write_terms.new.fragments c.write_terms.new.coefficients c.len.result ≡ local_recipe (group code) c.args.fragment)
alone_in c group local =
    let asked = c.in-Some.asked in
    let new = c.write_terms.new in
    at_code (code_with c.args.data_fragments) asked.code
    (λ code. is_only_lost_of (is_lost c.args.lost) (group code) c.args.fragment ≡ true → terms_of new.fragments new.coefficients c.len.result ≡ local_recipe (group code) c.args.fragment)
    c.in-Some.ensures.0
    (local_there (is_lost asked.lost) (is_lost c.args.lost) asked.number c.args.fragment c.in-Some-recipe_in.recipe.items _ (group asked.code) c.in-Some.ensures.1 c.in-Some.ensures.2 (written c) local)

pub returns-clause-first : goal.returns-clause-first
returns-clause-first c = λ _. alone_in c first_group c.in-Some-recipe_in.ensures.first

pub returns-clause-second : goal.returns-clause-second
returns-clause-second c = λ _. alone_in c second_group c.in-Some-recipe_in.ensures.second

pub returns-clause-least : goal.returns-clause-least
returns-clause-least c =
    let asked = c.in-Some.asked in
    let new = c.write_terms.new in
    let recipe = c.in-Some-recipe_in in
    λ _. at_code (code_with c.args.data_fragments) asked.code (λ code. is_alone code (is_lost c.args.lost) c.args.fragment ≡ true → IsLeast code c.args.fragment (terms_of new.fragments new.coefficients c.len.result))
    c.in-Some.ensures.0
    (least_there asked.code (is_lost asked.lost) (is_lost c.args.lost) asked.number c.args.fragment recipe.recipe.items _ asked.inside c.in-Some.ensures.1 c.in-Some.ensures.2 (written c) recipe.ensures.least)

pub returns-clause-open : goal.returns-clause-open
returns-clause-open c =
    let asked = c.in-Some.asked in (
      λ done. absurd (cc done),
      λ is_open. absurd (not_open (code_with c.args.data_fragments) asked.code (is_lost asked.lost) (is_lost c.args.lost) asked.number c.args.fragment c.in-Some-recipe_in.recipe.items
          c.in-Some.ensures.0 c.in-Some.ensures.1 c.in-Some.ensures.2 c.in-Some-recipe_in.ensures.exact is_open.1),
    )
