use Rattle.std.proofs.Common.{◌∙◌, ap, sym, subst}
use Rattle.std.proofs.lemmas.Bool.{false≢true}
use Rattle.sealed.specs.declared.value.Sealed.{Sealed}
use Rattle.sealed.specs.Rebuilding.{IsRebuildable}
use Rattle.book.proofs.Known.{replies_open}
use Rattle.book.proofs.stored_blob.StoredBlob.repair.Goals as goal

pub returns-then-not-is_rebuildable-clause-answer : goal.returns-then-not-is_rebuildable-clause-answer
returns-then-not-is_rebuildable-clause-answer c =
    let j = c.args.stripe in
    let f = c.args.fragment in
    replies_open c.args.self.now j f c.deref-then-not-is_rebuildable.result.now.version
    (sym c.is_no_fragment.ensures ∙ c.if-is_no_fragment.false) (sym c.is_lost.ensures.value ∙ c.if-not-is_lost.false)
    (λ can. false≢true (sym c.if-not-is_rebuildable.true ∙ c.is_rebuildable.ensures.1 (subst (λ (s : Sealed). IsRebuildable s j f) (sym (c.deref.ensures ∙ c.self.view_is)) can)))
    (ap (λ (s : Sealed). s.version) (c.deref-then-not-is_rebuildable.ensures ∙ c.self.view_is))
