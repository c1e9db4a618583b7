use Rattle.std.proofs.Common.{◌≡◌}
use Rattle.lrc_code.specs.Recipe.{terms}
use Rattle.lrc_code.specs.Factors.{factored_weight}
use Rattle.lrc_code.proofs.recipes.terms_of.Given as goal

abbrev pub invariant-loop-fragment : goal.invariant-loop-fragment
invariant-loop-fragment l = l.recipe.items ≡ terms (factored_weight l.code l.factors) l.f l.fragment
