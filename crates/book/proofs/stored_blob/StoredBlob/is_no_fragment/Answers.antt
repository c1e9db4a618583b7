use Rattle.std.proofs.Common.{◌∙◌, subst}
use Rattle.std.specs.Prelude.{IsTrue, ◌↔◌}
use Rattle.sealed.specs.declared.value.Sealed.{Sealed}
use Rattle.sealed.specs.Layout.{HasFragment}
use Rattle.history.proofs.Keeping.{by_fragment}
use Rattle.book.proofs.stored_blob.StoredBlob.is_no_fragment.Goals as goal

pub returns : goal.returns
returns c =
    let s = c.args.self.now in
    by_fragment s.code s.width s.len c.args.stripe c.args.fragment c.has_fragment.result
    (subst (λ (t : Sealed). IsTrue c.has_fragment.result ↔ HasFragment t.code t.width t.len c.args.stripe c.args.fragment) (c.deref.ensures ∙ c.self.view_is) c.has_fragment.ensures)
