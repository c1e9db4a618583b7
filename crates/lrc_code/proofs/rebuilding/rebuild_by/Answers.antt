use Rattle.std.proofs.Common.{refl}
use Rattle.lrc_code.specs.Stripe.{is_absent}
use Rattle.lrc_code.proofs.Stripes.{recipe_not_open, rebuilt}
use Rattle.lrc_code.proofs.rebuilding.rebuild_by.Goals as goal

pub returns-in-Ok-clause-open : goal.returns-in-Ok-clause-open
returns-in-Ok-clause-open c = (λ e. absurd (cc e), λ o. absurd (recipe_not_open _ _ _ _ c.requires.is_recipe o))

pub returns-in-Ok-clause-ok : goal.returns-in-Ok-clause-ok
returns-in-Ok-clause-ok c =
    rebuilt c.args.left.now.code (is_absent c.args.left.now.fragments) c.args.left.now.fragments c.args.f c.args.from c.args.to c.args.recipe.now.items c.in-Ok.bytes.items
    (λ i l. refl) c.requires.inside.below c.requires.inside.range c.requires.is_recipe c.in-Ok.ensures.long c.in-Ok.ensures.sums

pub returns-in-Err-clause-open : goal.returns-in-Err-clause-open
returns-in-Err-clause-open c = (λ e. absurd (cc e), λ o. absurd (recipe_not_open _ _ _ _ c.requires.is_recipe o))
