use Rattle.std.proofs.Common.{◌≡◌, List, ℕ, take, None, cond, map}
use Rattle.std.specs.BTreeMap.{get}
use Rattle.history.specs.Names.{name_cmp}
use Rattle.history.specs.Parts.{is_changed}
use Rattle.history.specs.Metadata.{PairsRise}
use Rattle.history.proofs.replay.Replay.part.Given as goal

abbrev pub invariant-loop-entry : goal.invariant-loop-entry
invariant-loop-entry l = record {
  names : (q : List ℕ) → get name_cmp l.names q ≡ cond (is_changed (take l.entry-index (map (λ e. e.now) l.entries)) q) (get name_cmp l.all q) None;
  rising : PairsRise l.names;
}
