use Rattle.std.proofs.Common.{◌∙◌, ap, subst, refl}
use Rattle.std.specs.Prelude.{IfOk}
use Rattle.std.proofs.lemmas.Result.{IfOk-weaker}
use Rattle.sealed.specs.declared.value.Sealed.{Sealed}
use Rattle.sealed.specs.Rebuilding.{IsPartOf}
use Rattle.lent.proofs.Stashing.{part_of_whole}
use Rattle.lent.proofs.building.built.Goals as goal

pub returns-then-not-is_decoded_together-clause-ok : goal.returns-then-not-is_decoded_together-clause-ok
returns-then-not-is_decoded_together-clause-ok c =
    subst (λ (s : Sealed). IfOk c.rebuild.result (λ bytes. IsPartOf s c.args.part.stripe c.args.part.fragment c.args.part.from c.args.part.to bytes.items)) c.deref-sealed.ensures c.rebuild.ensures.ok

pub returns-in-Some-clause-ok : goal.returns-in-Some-clause-ok
returns-in-Some-clause-ok c =
    let s : Sealed = c.args.grant.now.sealed.value in
    let whole = c.if-not-is_decoded_together.ensures refl in
    part_of_whole s c.args.part.stripe c.args.part.fragment c.args.part.from c.args.part.to c.in-Some.bytes.items whole.0 (whole.1 ∙ ap (λ (t : Sealed). t.width) c.deref-sealed.ensures)
    (c.in-Some.ensures.whole s c.requires.stash)

pub returns-clause-ok : goal.returns-clause-ok
returns-clause-ok c =
    let s : Sealed = c.args.grant.now.sealed.value in
    let whole = c.if-not-is_decoded_together.ensures refl in
    IfOk-weaker c.decode_from.result _ _
    (λ bytes is. part_of_whole s c.args.part.stripe c.args.part.fragment c.args.part.from c.args.part.to bytes.items whole.0 (whole.1 ∙ ap (λ (t : Sealed). t.width) c.deref-sealed.ensures) is)
    c.decode_from.ensures.ok
