use Rattle.std.proofs.Common.{◌∙◌, subst}
use Rattle.sealed.specs.declared.value.Sealed.{Sealed}
use Rattle.sealed.specs.Rebuilding.{IsFragmentOf}
use Rattle.lent.proofs.snapshot.Snapshot.rebuild.Goals as goal

pub returns-in-Ok-clause-bytes : goal.returns-in-Ok-clause-bytes
returns-in-Ok-clause-bytes c = subst (λ (s : Sealed). IsFragmentOf s c.args.stripe c.args.fragment c.in-Ok.bytes) (c.deref-sealed.ensures ∙ c.self.view_is) c.in-Ok.ensures.ok
