use Rattle.std.proofs.Common.{◌≡◌, map, take}
use Rattle.history.specs.Parts.{changes_of}
use Rattle.history.proofs.note.changes_in.Given as goal

abbrev pub invariant-loop-entry : goal.invariant-loop-entry
invariant-loop-entry l = map (λ e. e.now) l.changes.items ≡ changes_of (take l.entry-index l.entries)
