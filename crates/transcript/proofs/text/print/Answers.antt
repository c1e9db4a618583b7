use Rattle.std.proofs.Common.{rules, ◌≡◌, ◌∙◌, ℕ, ◌+◌, List, [], ◌++◌, length, ap, arith, append_assoc}
use Rattle.std.specs.Prelude.{codes, decimal, string_bytes, if◌then◌else◌}
use Rattle.std.proofs.lemmas.Grind.{common_steps}
use Rattle.book.specs.Contents.{journal_of}
use Rattle.transcript.specs.Lines.{entry_lines}
use Rattle.transcript.proofs.text.print.Goals as goal
use Rattle.transcript.proofs.text.print.Goals.{then-history, else-history}

pub returns : goal.returns
returns c =
    let book = c.args.book.now in
    let n = book.base.trimmed + length book.entries in
    let shown = if c.args.history then entry_lines (book.base.trimmed + 1) (journal_of book) else [] in
    let rows = string_bytes c.in_ok-text.text in
    let calls : c.calls-calls.result ≡ n = c.calls-calls.ensures in
    let tail = codes "calls " ++ (decimal n ++ codes "\nlawful yes\n") in
    let written : string_bytes c.write.new.self ≡ string_bytes c.add_entries.new.text ++ (codes "calls " ++ (decimal c.calls-calls.result ++ (codes "\nlawful " ++ (c.in_ok-lawful.lawful.now ++ codes "\n")))) =
    first_of (search rules, grind (arith, common_steps)) in
    let whole : string_bytes c.write.new.self ≡ string_bytes c.add_entries.new.text ++ tail = rw calls at (rw c.in_ok-lawful.ensures at written) in
    let lines : string_bytes c.add_entries.new.text ≡ rows ++ shown = elim c.if-history.branch [
      | then-history w ↦ rw w.if-history.true (grind (arith, common_steps, c.in_ok-add_entries.ensures))
      | else-history w ↦ rw w.if-history.false (grind (arith, common_steps, c.in_ok-add_entries.ensures))
    ] in
    (rows, c.in_ok-text.ensures, whole ∙ ap (λ (l : List ℕ). l ++ tail) lines ∙ append_assoc rows shown tail)
