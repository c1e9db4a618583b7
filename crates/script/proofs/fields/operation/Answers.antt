use Rattle.std.proofs.Common.{rules, arith, ◌≡◌, codes, refl}
use Rattle.std.proofs.lemmas.Slice.Eq.{text_from_reads}
use Rattle.script.specs.Fields.{operation_named}
use Rattle.script.proofs.fields.operation.Goals as goal

pub returns-in-repair : goal.returns-in-repair
unfolding operation_named
returns-in-repair c =
    let e : c.args.text.now ≡ codes "repair" = text_from_reads c.args.text.now (codes "repair") (omega arith) (search rules) in
    rw e refl

pub returns-in-delete : goal.returns-in-delete
unfolding operation_named
returns-in-delete c =
    let e : c.args.text.now ≡ codes "delete" = text_from_reads c.args.text.now (codes "delete") (omega arith) (search rules) in
    rw e refl
