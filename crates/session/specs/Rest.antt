-- The rest of a part of a plan.
use Rattle.std.specs.Prelude.{List, Option}
use Rattle.book.specs.declared.plan.Item.{Item}

-- the items that are still to be repaired, the next one first, and the item behind which the next
-- part begins
pub record Rest : Type 0 where
  pub items : List Item
  pub last : Option Item
