use Rattle.std.proofs.Common.{◌≡◌, drop, map}
use Rattle.history.specs.Metadata.{views_of, PairsRise}
use Rattle.history.specs.Parts.{changes_of}
use Rattle.history.specs.Views.{AreNoted, all_next}
use Rattle.history.proofs.replay.Replay.take_in.Given as goal

-- if the changes have the right notes, so have the remaining ones, and both replays end in the same
-- state
abbrev pub invariant-loop-entry : goal.invariant-loop-entry
invariant-loop-entry l = record {
  width : l.self.width ≡ l.fn.self.width;
  noted : AreNoted l.fn.self.width (views_of l.fn.self) (changes_of (map (λ e. e.now) l.entries)) → AreNoted l.fn.self.width (views_of l.self) (changes_of (drop l.entry-index (map (λ e. e.now) l.entries)));
  views : all_next (views_of l.fn.self) (changes_of (map (λ e. e.now) l.entries)) ≡ all_next (views_of l.self) (changes_of (drop l.entry-index (map (λ e. e.now) l.entries)));
  rising : PairsRise l.fn.self.names → PairsRise l.self.names;
}
