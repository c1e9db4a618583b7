use Rattle.std.proofs.Common.{ap, ◌∙◌}
use Rattle.shared.proofs.Passes.{pass_again}
use Rattle.shared.proofs.pass.Pass.split.Goals as goal

pub invariant_of-self-2 : goal.invariant_of-self-2
invariant_of-self-2 c =
    let e = c.in-Ok.ensures.ok in
    pass_again c.self.inside.seat c.split.new.self c.self.invariant (ap (λ p. p.list) e) (ap (λ p. p.own) e) (ap (λ p. p.inside) e ∙ c.self.invariant.outside)
