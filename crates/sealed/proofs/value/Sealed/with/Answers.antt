use Rattle.std.proofs.Common.{◌∙◌, sym, ap, subst}
use Rattle.sealed.specs.declared.value.Sealed.{Sealed}
use Rattle.sealed.specs.Blob.{fragment}
use Rattle.sealed.specs.Sealed.{StandsFor}
use Rattle.sealed.proofs.value.Sealed.with.Goals as goal

pub returns-clause-stands : goal.returns-clause-stands
returns-clause-stands c b lost stands own =
    c.in_ok-put_back.ensures.stands b lost (subst (λ (s : Sealed). StandsFor s b lost) (sym c.in_ok-sealed.ensures) stands)
    (own ∙ ap (λ (s : Sealed). fragment s.code s.width b c.args.stripe c.args.f) (sym c.in_ok-sealed.ensures))
