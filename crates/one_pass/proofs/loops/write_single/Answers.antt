use Rattle.std.proofs.Common.{refl, ◌∙◌}
use Rattle.one_pass.proofs.Patterns.{by_weights}
use Rattle.one_pass.proofs.loops.write_single.Goals as goal

pub returns-in_default : goal.returns-in_default
returns-in_default c k l = c.write_weighed.ensures.x k l ∙ by_weights c.args.weights.now c.args.shares.now _ _ c.requires.are (λ e m. refl)

pub returns-in_default-2 : goal.returns-in_default-2
returns-in_default-2 c k l = c.write_weighed-in_default-2.ensures.x k l ∙ by_weights c.args.weights.now c.args.shares.now _ _ c.requires.are (λ e m. refl)

pub returns-in_default-3 : goal.returns-in_default-3
returns-in_default-3 c k l = c.write_weighed-in_default-3.ensures.x k l ∙ by_weights c.args.weights.now c.args.shares.now _ _ c.requires.are (λ e m. refl)

pub returns-in_default-4 : goal.returns-in_default-4
returns-in_default-4 c k l = c.write_weighed-in_default-4.ensures.x k l ∙ by_weights c.args.weights.now c.args.shares.now _ _ c.requires.are (λ e m. refl)
