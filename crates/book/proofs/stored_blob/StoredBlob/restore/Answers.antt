use Rattle.std.proofs.Common.{◌≡◌, ◌∙◌, ap, sym}
use Rattle.sealed.specs.declared.value.Sealed.{Sealed}
use Rattle.book.proofs.Mending.{fragment_there, is_restored}
use Rattle.book.proofs.stored_blob.StoredBlob.restore.Goals as goal

pub put_in-requires-clause-has : goal.put_in-requires-clause-has
put_in-requires-clause-has c = fragment_there c.args.self.now c.args.stripe c.args.fragment (sym c.is_no_fragment.ensures ∙ c.if-is_no_fragment.false)

pub returns-then-is_lost-clause-changed : goal.returns-then-is_lost-clause-changed
returns-then-is_lost-clause-changed c =
    (sym c.if-deref-version.false ∙ ap (λ (s : Sealed). s.version) (c.deref.ensures ∙ c.self.view_is), is_restored c.args.self.now c.put_in.new.self c.args.stripe c.args.fragment c.args.bytes c.in_ok-put_in.ensures.ok)
