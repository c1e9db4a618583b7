use Rattle.std.proofs.Common.{sym}
use Rattle.csv.specs.Records.{fields_of}
use Rattle.script.proofs.Refusals.{row-beside-mend, row-refused}
use Rattle.script.proofs.records.row.Goals as goal

pub returns-in-Err-task : goal.returns-in-Err-task
returns-in-Err-task c =
    row-refused c.args.workers c.args.earlier.now (fields_of c.args.fields.now) c.in-Ok.head c.in-Err-task.error c.in-Ok.ensures
    (rw (c.field-name.ensures, c.field-a.ensures, c.field-b.ensures) at c.in-Err-task.ensures)

pub returns-then-breaks_mend : goal.returns-then-breaks_mend
returns-then-breaks_mend c =
    let t = rw (c.field-name.ensures, c.field-a.ensures, c.field-b.ensures) at c.in-Ok-task.ensures in
    row-beside-mend c.args.workers c.args.earlier.now (fields_of c.args.fields.now) c.in-Ok.head c.in-Ok-task.task c.in-Ok.ensures t.0 t.1 (sym c.if-breaks_mend.ensures)
