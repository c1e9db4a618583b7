use Rattle.std.proofs.Common.{◌≡◌, ◌∙◌, ap, rules, true, length, ◌+◌}
use Rattle.std.specs.Result.{is_ok}
use Rattle.csv.specs.Records.{fields_of}
use Rattle.script.specs.Script.{Explains, ExplainsFailure, at_row, script_records}
use Rattle.script.proofs.Progress.{given, of_each, of_every, progress-end, progress-more, progress-refused, progress-start}
use Rattle.script.proofs.reading.read_script.Goals as goal

pub records-init : goal.records-init
records-init g c =
    let fr = c.from_reader-reader.ensures in
    let x = c.has_headers.ensures in
    let e = c.flexible.ensures in
    let ok : is_ok c.set_byte_headers.result ≡ true = c.if-is_err.ensures.negation in
    let same = given c.set_byte_headers.result ok c.set_byte_headers.ensures.same in
    let set = given c.set_byte_headers.result ok c.set_byte_headers.ensures.set in
    rw c.new-rows.ensures.items
    (progress-start (λ retried. g.R.Read.remaining retried.reader) c.args.workers (g.R.Read.remaining c.args.input) c.from_reader-reader.result c.set_byte_headers.new.self same set
    (rw (e, x) at fr.trim ∙ c.new.ensures.trim)
    (rw (e, x) at fr.has_headers)
    (rw (e, x) at fr.config ∙ c.new.ensures.config)
    fr.source
    fr.state)

pub records-preserved : goal.records-preserved
records-preserved g c =
    let p = c.records.invariant in
    let read = rw c.in-Ok-true.field-0-test at (c.in-Ok-true.ensures.reads p.trim p.ready) in
    let first = c.in-Ok-true.ensures.ready p.trim in
    let good : is_ok c.push.result ≡ true = ap is_ok c.in-Ok-push.is in
    let items = rw good at c.push.ensures.items in
    let t = rw c.as_slice.ensures.value at c.in-Ok.ensures in
    rw (items, t.1) (progress-more (λ retried. g.R.Read.remaining retried.reader) c.args.workers c.records.rows.items (g.R.Read.remaining c.args.input) c.records.reader c.read_byte_record.new.self (fields_of c.read_byte_record.new.row) p read first t.0)

pub returns-in-Ok-false-clause-read : goal.returns-in-Ok-false-clause-read
returns-in-Ok-false-clause-read g c =
    let p = c.records.invariant in
    let read = rw c.in-Ok-false.field-0-test at (c.in-Ok-false.ensures.reads p.trim p.ready) in
    progress-end (λ retried. g.R.Read.remaining retried.reader) c.args.workers c.records.rows.items (g.R.Read.remaining c.args.input) c.records.reader c.read_byte_record.new.self (fields_of c.read_byte_record.new.row) p read

pub returns-in-Err-clause-refused : goal.returns-in-Err-clause-refused
returns-in-Err-clause-refused g c = of_every (λ text. ExplainsFailure c.args.workers (script_records text) c.not_read.result) (g.R.Read.remaining c.args.input) (λ text. c.not_read.ensures c.args.workers (script_records text))

pub returns-in-Err-row-clause-refused : goal.returns-in-Err-row-clause-refused
returns-in-Err-row-clause-refused g c =
    let p = c.records.invariant in
    let read = rw c.in-Ok-true.field-0-test at (c.in-Ok-true.ensures.reads p.trim p.ready) in
    let t = rw c.as_slice.ensures.value at c.in-Err-row.ensures in
    let count : c.len.result ≡ length c.records.rows.items = search rules in
    let error : c.at_row-error.result ≡ at_row c.in-Err-row.refusal (length c.records.rows.items + 1) = rw (← count) c.at_row-error.ensures in
    of_each (λ text. Explains c.args.workers (script_records text) (at_row c.in-Err-row.refusal (length c.records.rows.items + 1))) (λ text. ExplainsFailure c.args.workers (script_records text) c.read_out.result) (g.R.Read.remaining c.args.input)
    (λ text why. c.read_out.ensures c.args.workers (script_records text) (rw error why))
    (progress-refused (λ retried. g.R.Read.remaining retried.reader) c.args.workers c.records.rows.items (g.R.Read.remaining c.args.input) c.records.reader c.read_byte_record.new.self (fields_of c.read_byte_record.new.row) c.in-Err-row.refusal p read t)
