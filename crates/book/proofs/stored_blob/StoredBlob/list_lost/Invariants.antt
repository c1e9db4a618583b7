use Rattle.std.proofs.Common.{◌≡◌, ◌+◌, ◌*◌, ◌++◌, take}
use Rattle.std.specs.Option.{option_map}
use Rattle.book.proofs.Parts.{behind_below}
use Rattle.book.proofs.stored_blob.StoredBlob.list_lost.Given as goal

abbrev pub invariant-loop-stripe : goal.invariant-loop-stripe
invariant-loop-stripe l = l.items.items ≡ take l.most (l.fn.items.items ++ behind_below (option_map (λ i. i.now) l.after) l.name l.self (16 * l.stripe))

abbrev pub invariant-loop-f : goal.invariant-loop-f
invariant-loop-f l = l.items.items ≡ take l.most (l.fn.items.items ++ behind_below (option_map (λ i. i.now) l.after) l.name l.self (16 * l.stripe + l.f))
