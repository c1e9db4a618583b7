use Rattle.std.proofs.Common.{◌∙◌, subst}
use Rattle.std.specs.Prelude.{MatchOption}
use Rattle.lrc_code.specs.Code.{is_lost, Open}
use Rattle.lrc_code.specs.Recipe.{IsRecipe, IsLeast}
use Rattle.lrc_code.proofs.Stripes.{recipe_same, alone_same}
use Rattle.demo_survey.proofs.read_for.Goals as goal

pub returns-clause-read : goal.returns-clause-read
returns-clause-read c =
    let code = c.args.code in
    let f = c.args.f in
    let lost = is_lost c.of_bits.result in
    let terms = c.unwrap-recipe.result.items in
    let same = c.of_bits.ensures in
    let recipe : IsRecipe code lost f terms = subst (λ o. MatchOption o (Open code lost f) (λ r. IsRecipe code lost f r.items)) c.unwrap-recipe.ensures c.recipe_in.ensures.exact in (
      terms,
      (
        recipe_same code lost (is_lost c.args.set) f terms (λ i l. same i) recipe,
        λ alone. subst (λ o. MatchOption o ⊥ (λ r. IsLeast code f r.items)) c.unwrap-recipe.ensures (c.recipe_in.ensures.least (alone_same code lost (is_lost c.args.set) f c.requires.inside (λ i l. same i) ∙ alone)),
      ),
      c.len.ensures.value,
    )
