use Rattle.std.proofs.Common.{◌≡◌, List, ℕ}
use Rattle.std.specs.Prelude.{IsSome}
use Rattle.std.specs.Option.{option_or}
use Rattle.std.specs.BTreeMap.{get, IsOrdered, btree_map_len}
use Rattle.history.specs.Names.{name_cmp}
use Rattle.history.proofs.settle.fill.Given as goal

abbrev pub invariant-loop-name : goal.invariant-loop-name
invariant-loop-name l = record {
  names : (q : List ℕ) → option_or (get name_cmp l.part q) (get name_cmp l.names q) ≡ option_or (get name_cmp l.fn.part q) (get name_cmp l.fn.names q);
  placed : (q : List ℕ) → IsSome (get name_cmp l.part q) → IsSome (get name_cmp l.names q);
  ordered : IsOrdered name_cmp l.fn.names → IsOrdered name_cmp l.names;
}

abbrev pub decreases-loop-name : goal.decreases-loop-name
decreases-loop-name l = btree_map_len l.part
