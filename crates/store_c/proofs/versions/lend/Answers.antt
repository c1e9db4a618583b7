use Rattle.std.proofs.Common.{Ok, refl, sym, ap, subst, ◌∙◌}
use Rattle.sealed.specs.declared.value.Sealed.{Sealed}
use Rattle.sealed.specs.Sealed.{StandsFor}
use Rattle.store_c.specs.Versions.{granted_range}
use Rattle.store_c.proofs.Holds.{answered, range_bytes}
use Rattle.store_c.proofs.versions.lend.Goals as goal

pub of_read-requires : goal.of_read-requires
of_read-requires c =
    let x = c.args.version.now in
    let is = answered c.read.result c.in-Ok-Granted.grant c.snapshot.result.now x.sealed c.args.start c.args.len (c.in-Ok-Granted.is ∙ ap Ok c.in-Ok-Granted.field-0-is) c.snapshot.ensures.same c.read.ensures.ok in
    let v = c.snapshot.ensures.known.version in
    record { stands = (v.blob.bytes, v.blob.lost, subst (λ (s : Sealed). StandsFor s v.blob.bytes v.blob.lost) (sym is.0) v.represents.stands) }

pub returns-in-Ok : goal.returns-in-Ok
returns-in-Ok c =
    let x = c.args.version.now in
    let g = c.in-Ok-Granted.grant in
    let is = answered c.read.result g c.snapshot.result.now x.sealed c.args.start c.args.len (c.in-Ok-Granted.is ∙ ap Ok c.in-Ok-Granted.field-0-is) c.snapshot.ensures.same c.read.ensures.ok in
    let from = c.in-Ok.ensures in
    granted_range g is refl c.in-Ok.lending from (range_bytes x g c.args.start c.args.len _ c.snapshot.ensures.known is.0 is.1 is.2 from.range_is) c.len.ensures c.fill.ensures
