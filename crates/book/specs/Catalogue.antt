-- The names whose blob lacks a fragment, and the items that are listed for a name.
use Rattle.std.specs.Prelude.{ℕ, Bool, false, List, [], Option, None, Some, nat_lt}
use Rattle.std.specs.declared.ops.Bound.{Bound}
use Rattle.std.specs.declared.ops.Bound.TheVariants.{Included, Unbounded}
use Rattle.sealed.specs.declared.value.Sealed.{Sealed}
use Rattle.book.specs.Lacking.{lacked_count}
use Rattle.book.specs.Losing.{Catalogue, value_at}
use Rattle.book.specs.Plan.{items_lacked}
use Rattle.book.specs.declared.plan.Item.{Item}

-- the value lacks a fragment
abbrev pub lacks_some : Sealed → Bool
lacks_some s = nat_lt 0 (lacked_count s)

abbrev pub lacks_any : Option Sealed → Bool
lacks_any None = false
lacks_any (Some s) = lacks_some s

-- the name has a value that lacks a fragment
abbrev pub lacks_at : Catalogue → List ℕ → Bool
lacks_at catalogue n = lacks_any (value_at catalogue n)

-- the fragments that the value of a name lacks
abbrev pub items_from : List ℕ × Option Sealed → List Item
items_from (n, None) = []
items_from (n, Some s) = items_lacked (n, s)

-- the names from that of the item on, or all
abbrev pub bound_from : Option Item → Bound (List ℕ)
bound_from None = Unbounded
bound_from (Some a) = Included a.name
