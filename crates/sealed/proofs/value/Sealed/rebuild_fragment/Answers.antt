use Rattle.std.proofs.Common.{List, ℕ, sym, subst}
use Rattle.sealed.specs.Rebuilding.{IsFragmentOf}
use Rattle.sealed.proofs.Rebuilt.{whole_part}
use Rattle.sealed.proofs.value.Sealed.rebuild_fragment.Goals as goal

pub returns-in-Ok-clause-ok : goal.returns-in-Ok-clause-ok
returns-in-Ok-clause-ok c =
    subst (λ (x : List ℕ). IsFragmentOf c.args.self.now c.args.stripe c.args.fragment x) (sym c.in-Ok.ensures.ok)
    (whole_part c.args.self.now c.args.stripe c.args.fragment c.get-width.result c.in_ok-bytes.bytes.items c.get-width.ensures.value c.in_ok-bytes.ensures.ok)
