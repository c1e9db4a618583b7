use Rattle.std.proofs.Common.{◌≡◌, List, ℕ, take, None, cond}
use Rattle.std.specs.BTreeMap.{get, IsOrdered}
use Rattle.history.specs.Names.{name_cmp}
use Rattle.history.specs.Parts.{has_name}
use Rattle.history.proofs.settle.withdraw.Given as goal

abbrev pub invariant-loop-name : goal.invariant-loop-name
invariant-loop-name l = record {
  names : (q : List ℕ) → get name_cmp l.names q ≡ cond (has_name (take l.name-index l.gone) q) None (get name_cmp l.fn.names q);
  ordered : IsOrdered name_cmp l.fn.names → IsOrdered name_cmp l.names;
}
