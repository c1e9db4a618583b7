use Rattle.std.proofs.Common.{◌≡◌, true, false, List, ℕ, take}
use Rattle.std.specs.Prelude.{IsSome}
use Rattle.std.specs.BTreeMap.{get, IsOrdered}
use Rattle.history.specs.Names.{name_cmp}
use Rattle.history.specs.Parts.{has_name}
use Rattle.history.proofs.settle.make_room.Given as goal

abbrev pub invariant-loop-name : goal.invariant-loop-name
invariant-loop-name l = record {
  others : (q : List ℕ) → has_name l.name-items q ≡ false → get name_cmp l.names q ≡ get name_cmp l.fn.names q;
  kept : (q : List ℕ) → IsSome (get name_cmp l.fn.names q) → IsSome (get name_cmp l.names q);
  placed : (q : List ℕ) → has_name (take l.name-index l.name-items) q ≡ true → IsSome (get name_cmp l.names q);
  ordered : IsOrdered name_cmp l.names;
}
