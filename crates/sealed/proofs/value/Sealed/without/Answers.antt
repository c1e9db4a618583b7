use Rattle.std.proofs.Common.{sym, subst}
use Rattle.sealed.specs.declared.value.Sealed.{Sealed}
use Rattle.sealed.specs.Sealed.{StandsFor}
use Rattle.sealed.proofs.value.Sealed.without.Goals as goal

pub returns-clause-stands : goal.returns-clause-stands
returns-clause-stands c b lost stands =
    c.in_ok-take_out.ensures.stands b lost (subst (λ (s : Sealed). StandsFor s b lost) (sym c.in_ok-sealed.ensures) stands)
