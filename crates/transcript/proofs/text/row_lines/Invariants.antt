use Rattle.std.proofs.Common.{◌≡◌, ◌++◌}
use Rattle.std.specs.Prelude.{string_bytes}
use Rattle.std.specs.Vec.Iter.{into_iter_items}
use Rattle.transcript.specs.Lines.{AreLines}
use Rattle.transcript.proofs.text.row_lines.Given as goal

abbrev pub invariant-loop-one : goal.invariant-loop-one
invariant-loop-one l = record {
  lines : AreLines l.yielded (string_bytes l.text);
  all : l.fn.done.items ≡ l.yielded ++ into_iter_items l.one-iterator;
}
