use Rattle.std.proofs.Common.{◌≡◌, Ok, ap, ◌∙◌}
use Rattle.sealed.specs.declared.value.Sealed.{Sealed}
use Rattle.store_c.proofs.Holds.{held_by, refused_by}
use Rattle.store_c.proofs.versions.hold.Goals as goal

pub returns-in-Ok-Some : goal.returns-in-Ok-Some
returns-in-Ok-Some c =
    let x = c.in-Ok-Some.held in
    let version_is : c.version.result ≡ x.sealed.version = c.version.ensures ∙ ap (λ (s : Sealed). s.version) c.snapshot.ensures.same in
    let len_is : c.len.result ≡ x.sealed.len = c.len.ensures ∙ ap (λ (s : Sealed). s.len) c.snapshot-in-Ok-Some.ensures.same in
    held_by c.args.session.now c.hold.new.self c.args.number c.in-Some.name c.args.name.now c.hold.result x (c.args.version.now, c.args.len.now) (c.version.result, c.len.result) c.fill.new.slot.held
    (c.in-Ok-Some.is ∙ ap Ok c.in-Ok-Some.field-0-is) c.in-Some.ensures.0 c.in-Some.ensures.1 c.hold.ensures.called c.hold.ensures.held (λ i. (version_is i, len_is i)) c.fill.ensures

pub returns-in-Err : goal.returns-in-Err
returns-in-Err c =
    refused_by c.args.session.now c.hold.new.self c.args.number c.in-Some.name c.args.name.now c.hold.result c.in-Err.fault c.number_of.result (c.args.version.now, c.args.len.now) (c.args.version.now, c.args.len.now) c.args.other.now.held
    c.in-Err.is c.in-Some.ensures.0 c.in-Some.ensures.1 c.number_of.ensures c.in-Err.ensures.faults c.hold.ensures.called c.hold.ensures.no_memory c.hold.ensures.busy c.hold.ensures.lone (λ i. (c.args.version.now, c.args.len.now)) c.requires
