use Rattle.std.proofs.Common.{◌≡◌, ◌+◌, ◌++◌, take}
use Rattle.std.specs.Prelude.{string_bytes}
use Rattle.transcript.specs.Lines.{entry_lines}
use Rattle.transcript.proofs.text.add_entries.Given as goal

abbrev pub invariant-loop-entry : goal.invariant-loop-entry
invariant-loop-entry l = record {
  number : l.number ≡ l.trimmed + l.entry-index;
  lines : string_bytes l.text ≡ string_bytes l.initial.text ++ entry_lines (l.trimmed + 1) (take l.entry-index l.entries);
}
