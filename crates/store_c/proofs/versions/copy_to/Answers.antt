use Rattle.std.proofs.Common.{length, Ok, refl, sym, ap, subst, ◌∙◌}
use Rattle.sealed.specs.declared.value.Sealed.{Sealed}
use Rattle.sealed.specs.Sealed.{StandsFor}
use Rattle.store_c.specs.Versions.{copied_range, unbuilt_copy}
use Rattle.store_c.proofs.Holds.{answered, range_bytes}
use Rattle.store_c.proofs.versions.copy_to.Goals as goal

pub copy_out-requires-clause-stands : goal.copy_out-requires-clause-stands
copy_out-requires-clause-stands c =
    let x = c.args.version.now in
    let is = answered c.read.result c.in-Ok-Granted.grant c.snapshot.result.now x.sealed c.args.start (length c.args.target.now) (c.in-Ok-Granted.is ∙ ap Ok c.in-Ok-Granted.field-0-is) c.snapshot.ensures.same c.read.ensures.ok in
    let v = c.snapshot.ensures.known.version in
    (v.blob.bytes, v.blob.lost, subst (λ (s : Sealed). StandsFor s v.blob.bytes v.blob.lost) (sym is.0) v.represents.stands)

pub returns-in-Ok : goal.returns-in-Ok
returns-in-Ok c =
    let x = c.args.version.now in
    let g = c.in-Ok-Granted.grant in
    let is = answered c.read.result g c.snapshot.result.now x.sealed c.args.start (length c.args.target.now) (c.in-Ok-Granted.is ∙ ap Ok c.in-Ok-Granted.field-0-is) c.snapshot.ensures.same c.read.ensures.ok in
    let copy = c.in-Ok.ensures.copy in
    copied_range g is refl (range_bytes x g c.args.start (length c.args.target.now) _ c.snapshot.ensures.known is.0 is.1 is.2 copy.range_is)

pub returns : goal.returns
returns c =
    let x = c.args.version.now in
    let g = c.in-Ok-Granted.grant in
    let is = answered c.read.result g c.snapshot.result.now x.sealed c.args.start (length c.args.target.now) (c.in-Ok-Granted.is ∙ ap Ok c.in-Ok-Granted.field-0-is) c.snapshot.ensures.same c.read.ensures.ok in
    unbuilt_copy g is refl c.in-Err-copy_out.ensures.err
