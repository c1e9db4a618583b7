use Rattle.std.proofs.Common.{◌≡◌, ◌&&◌, not, List, ℕ, take, None, cond, map}
use Rattle.std.specs.Option.{is_some}
use Rattle.std.specs.BTreeMap.{get, IsOrdered}
use Rattle.history.specs.Names.{name_cmp}
use Rattle.history.specs.Parts.{is_changed}
use Rattle.history.proofs.settle.take_out.Given as goal

abbrev pub invariant-loop-entry : goal.invariant-loop-entry
invariant-loop-entry l = record {
  names : (q : List ℕ) → get name_cmp l.names q ≡ cond (is_changed (take l.entry-index (map (λ e. e.now) l.entries)) q && not (is_some (get name_cmp l.part q))) None (get name_cmp l.fn.names q);
  ordered : IsOrdered name_cmp l.fn.names → IsOrdered name_cmp l.names;
}
