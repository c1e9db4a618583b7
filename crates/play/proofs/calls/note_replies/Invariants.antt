use Rattle.std.proofs.Common.{◌≡◌, ◌++◌}
use Rattle.std.specs.Vec.Iter.{into_iter_items}
use Rattle.play.specs.Noted.{noted_outcomes}
use Rattle.play.proofs.calls.note_replies.Given as goal

abbrev pub invariant-loop-one : goal.invariant-loop-one
invariant-loop-one l = l.done.items ++ noted_outcomes (into_iter_items l.one-iterator) ≡ l.initial.done.items ++ noted_outcomes l.fn.replies.items
