use Rattle.std.proofs.Common.{◌≡◌, ◌≤◌, ◌++◌, take, length}
use Rattle.std.specs.List.{flat_map}
use Rattle.std.specs.Option.{option_map}
use Rattle.book.specs.Plan.{items_after, items_lacked}
use Rattle.book.proofs.Parts.{behind_at}
use Rattle.book.proofs.catalogue.list_lacking.Given as goal

abbrev pub invariant-loop-name : goal.invariant-loop-name
invariant-loop-name l = (length l.items.items ≤ l.most)
    × (take l.most (l.items.items ++ flat_map (behind_at (option_map (λ i. i.now) l.after) l.blobs.entries) l.name-iterator)
    ≡ take l.most (items_after (option_map (λ i. i.now) l.after) (flat_map items_lacked l.blobs.entries)))
