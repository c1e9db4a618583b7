use Rattle.std.proofs.Common.{◌≡◌, ◌∙◌, ap}
use Rattle.sealed.specs.declared.value.Sealed.{Sealed}
use Rattle.book.proofs.Known.{replies_repaired}
use Rattle.book.proofs.Mending.{is_with}
use Rattle.book.proofs.stored_blob.StoredBlob.mend.Goals as goal

pub returns-clause-changed : goal.returns-clause-changed
returns-clause-changed c = is_with c.args.self.now c.put_in.new.self c.args.stripe c.args.fragment c.args.bytes c.in_ok-put_in.ensures.ok c.requires.own

pub returns-clause-answer : goal.returns-clause-answer
returns-clause-answer c =
    replies_repaired c.args.self.now c.args.stripe c.args.fragment c.deref.result.now.version c.requires.rebuildable (ap (λ (s : Sealed). s.version) (c.deref.ensures ∙ c.self.view_is))
