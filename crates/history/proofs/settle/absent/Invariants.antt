use Rattle.std.proofs.Common.{◌≡◌, ◌&&◌, ◌||◌, not, List, ℕ}
use Rattle.std.specs.Option.{is_some}
use Rattle.std.specs.Map.{lookup}
use Rattle.std.specs.BTreeMap.{get, is_at}
use Rattle.history.specs.Names.{name_cmp}
use Rattle.history.specs.Parts.{has_name}
use Rattle.history.proofs.settle.absent.Given as goal

abbrev pub invariant-loop-name : goal.invariant-loop-name
invariant-loop-name l = (q : List ℕ) → (has_name l.fresh.items q || (is_some (lookup (is_at (name_cmp q)) l.name-iterator) && not (is_some (get name_cmp l.names q))))
    ≡ (is_some (get name_cmp l.part q) && not (is_some (get name_cmp l.names q)))
