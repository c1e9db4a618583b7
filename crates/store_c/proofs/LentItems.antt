-- The items of a plan that are lent.
use Rattle.std.proofs.Common.{◌≡◌, ◌+◌, ◌<◌, ◌≤◌, ℕ, List, [], ◌∷◌, ◌++◌, map, length, take, drop, set, None, Some, refl, sym, ap, inl, inr, ◌∙◌, arith}
use Rattle.std.specs.List.{slice_get}
use Rattle.std.proofs.lemmas.List.{length-set, take_more_set, drop-set-lt, map-append, drop-drop, take_more}
use Rattle.std.proofs.lemmas.Option.{slice_get_within, get_or_from_slice_get, slice_get_cases}
use Rattle.book.specs.declared.plan.Item.{Item}
use Rattle.store_c.specs.declared.items.PlanItem.{PlanItem}
use Rattle.store_c.specs.Items.{item_of}

-- so many items were lent to the target
pub record IsLending (items : List Item) (at : ℕ) (before now : List PlanItem) : Type 0 where
  pub within : at ≤ length items
  pub long : at ≤ length now
  pub lent : map item_of (take at now) ≡ take at items
  pub kept : drop at now ≡ drop at before
  pub same : length now ≡ length before

pub begun : (items : List Item) (target : List PlanItem) → IsLending items 0 target target
begun items target = record { within = omega arith; long = omega arith; lent = refl; kept = refl; same = refl }

dropped : (xs : List PlanItem) (at : ℕ) → drop (at + 1) xs ≡ drop 1 (drop at xs)
dropped xs at = sym (drop-drop 1 at xs)

pub one_more : (items : List Item) (at : ℕ) (before now : List PlanItem) (item : Item) (r : PlanItem) → IsLending items at before now → at < length now → slice_get items at ≡ Some item → item_of r ≡ item → IsLending items (at + 1) before (set now at r)
one_more items at before now item r is inside found is_item =
    let some : at < length items = slice_get_within items at item found in
    record {
      within = omega (arith, some);
      long = omega (arith, length-set now at r);
      lent = ap (map item_of) (take_more_set now at r inside) ∙ map-append item_of (take at now) (r ∷ [])
          ∙ (λ i. is.lent i ++ (is_item ∙ sym (get_or_from_slice_get items at item item found)) i ∷ []) ∙ sym (take_more items at item some);
      kept = drop-set-lt (at + 1) now at r (omega arith) ∙ dropped now at ∙ ap (drop 1) is.kept ∙ sym (dropped before at);
      same = length-set now at r ∙ is.same;
    }

-- there is no such item
pub past : (items : List Item) (at : ℕ) → slice_get items at ≡ None → length items ≤ at
past items at none = elim ((slice_get_cases items at).1) [
  | inl some ↦ absurd (let no : None ≡ Some some.0 = sym none ∙ some.2 in cc)
  | inr over ↦ over.0
]
