use Rattle.std.proofs.Common.{◌∙◌, IfSome, Option, ap, subst}
use Rattle.sealed.specs.declared.value.Sealed.{Sealed}
use Rattle.book.specs.declared.repair.Rebuilt.{Rebuilt}
use Rattle.book.specs.Known.{IsRepairFor}
use Rattle.book.proofs.stored_blob.StoredBlob.lost_bytes.Goals as goal

pub returns-in-Some-clause-ok : goal.returns-in-Some-clause-ok
returns-in-Some-clause-ok c =
    let P : Option Rebuilt → Type 0 = λ x. IfSome x (λ r. IsRepairFor r.version c.args.stripe c.args.fragment r.bytes c.args.self.now) in
    let serves : IsRepairFor c.in-Some.rebuilt.version c.args.stripe c.args.fragment c.in-Some.rebuilt.bytes c.args.self.now = subst P c.in-Some.is c.requires.own in
    serves.own (c.if-rebuilt-deref.true ∙ ap (λ (s : Sealed). s.version) (c.deref.ensures ∙ c.self.view_is)) c.requires.rebuildable
