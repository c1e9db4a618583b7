use Rattle.std.proofs.Common.{◌≡◌, drop}
use Rattle.std.specs.Prelude.{◌↔◌}
use Rattle.history.specs.Metadata.{views_of}
use Rattle.history.specs.Views.{AreNoted, all_next}
use Rattle.history.proofs.replay.Replay.follow.Given as goal

-- all entries have the right notes if and only if the remaining ones have, and then both replays
-- end in the same state
abbrev pub invariant-loop-entry : goal.invariant-loop-entry
invariant-loop-entry l = record {
  width : l.self.width ≡ l.fn.self.width;
  noted : AreNoted l.fn.self.width (views_of l.fn.self) l.entries ↔ AreNoted l.fn.self.width (views_of l.self) (drop l.entry-index l.entries);
  views : all_next (views_of l.fn.self) l.entries ≡ all_next (views_of l.self) (drop l.entry-index l.entries);
}
