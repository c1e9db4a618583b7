use Rattle.std.proofs.Common.{ap, subst}
use Rattle.sealed.specs.declared.value.Sealed.{Sealed}
use Rattle.sealed.specs.Rebuilding.{IsFragmentOf}
use Rattle.requests.specs.declared.request.Request.TheVariants.{Install}
use Rattle.shared.proofs.mending.prepare_install.Goals as goal

pub returns-clause-ok : goal.returns-clause-ok
returns-clause-ok c =
    let bytes = c.in_ok-bytes.bytes in
    record {
      alloc = c.args.alloc;
      bytes = bytes;
      is = ap (λ (s : Sealed). Install c.args.alloc c.args.name s.version c.args.stripe c.args.fragment bytes) c.deref-2.ensures;
      rebuilt = subst (λ (s : Sealed). IsFragmentOf s c.args.stripe c.args.fragment bytes) c.deref.ensures c.in_ok-bytes.ensures.ok;
    }
