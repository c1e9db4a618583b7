use Rattle.std.proofs.Common.{◌≡◌, ◌++◌}
use Rattle.history.proofs.replay.Replay.from_base.Given as goal

abbrev pub invariant-loop-name : goal.invariant-loop-name
invariant-loop-name l = l.names.entries ++ l.name-iterator ≡ l.base-inside.names.entries
