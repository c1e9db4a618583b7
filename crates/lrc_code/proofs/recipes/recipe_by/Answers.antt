use Rattle.std.proofs.Common.{◌∙◌, ap}
use Rattle.lrc_code.specs.Code.{fragment_count}
use Rattle.lrc_code.specs.Recipe.{terms, local_recipe}
use Rattle.lrc_code.specs.Factors.{factored_weight}
use Rattle.lrc_code.specs.ParityCheck.{check_weight, AreFactors}
use Rattle.lrc_code.specs.declared.recipes.ParityCheck.TheVariants.{Global}
use Rattle.lrc_code.proofs.RowTerms.{terms_same_weights}
use Rattle.lrc_code.proofs.recipes.recipe_by.Goals as goal

pub returns-in-First : goal.returns-in-First
returns-in-First c = rw c.in-First.is (c.others_of.ensures ∙ ap (λ group. local_recipe group c.args.f) c.first_group.ensures.value)

pub returns-in-Second : goal.returns-in-Second
returns-in-Second c = rw c.in-Second.is (c.others_of-in-Second.ensures ∙ ap (λ group. local_recipe group c.args.f) c.second_group.ensures.value)

pub returns-in-Global : goal.returns-in-Global
returns-in-Global c =
    let code = c.args.code in
    let check = c.in-Global in
    let factors : AreFactors code (Global check.p check.q check.g check.scale) c.factors_of.result = rw c.in-Global.is at c.factors_of.ensures in
    rw c.in-Global.is
    (c.terms_of.ensures ∙ ap (λ f. terms (factored_weight code c.factors_of.result) f (fragment_count code)) c.from.ensures
    ∙ terms_same_weights (factored_weight code c.factors_of.result) (check_weight code (Global check.p check.q check.g check.scale)) c.args.f (fragment_count code) factors)
