-- The remaining items of a plan that are lent to C.
use Rattle.std.specs.Prelude.{◌≡◌, ℕ, List, length, map, min, take, drop, Option, Some}
use Rattle.book.specs.declared.plan.Item.{Item}
use Rattle.session.specs.declared.held.Held.{Held}
use Rattle.session.specs.declared.held.Held.TheVariants.{Repairs}
use Rattle.store_c.specs.declared.items.PlanItem.{PlanItem}
use Rattle.store_c.specs.Status.{done, empty}

-- the item that C gets
abbrev pub item_of : PlanItem → Item
item_of r = record { name = r.name.now; version = r.version; stripe = r.stripe; f = r.fragment }

-- the first items are lent, as many as there are and the target takes
pub record AreItemsTo (items : List Item) (count : ℕ) (old new : List PlanItem) : Type 0 where
  pub count_is : count ≡ min (length old) (length items)
  pub items_are : map item_of (take count new) ≡ take count items
  pub kept : drop count new ≡ drop count old

-- the slot holds the rest of a plan; or nothing was done
abbrev pub IsItemsCall : Option Held → ℕ → ℕ × ℕ → List PlanItem → List PlanItem → Type 0
IsItemsCall (Some (Repairs rest)) status counts old new = (status ≡ done) × AreItemsTo rest.items counts.1 old new
IsItemsCall held status counts old new = (status ≡ empty) × (counts.1 ≡ counts.0) × (new ≡ old)
