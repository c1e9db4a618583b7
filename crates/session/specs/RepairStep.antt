-- A step through the repairs of a plan.
use Rattle.std.specs.Prelude.{◌≡◌, ◌≢◌, List, [], ◌∷◌, Option, None, Some, Result, Ok, Err, IfErr}
use Rattle.history.specs.Step.{repair}
use Rattle.book.specs.declared.answer.Answer.{Answer}
use Rattle.book.specs.declared.plan.Item.{Item}
use Rattle.sealed.specs.declared.fault.Fault.{Fault}
use Rattle.sealed.specs.declared.fault.Fault.TheVariants.{Busy}
use Rattle.shared.specs.Passes.{Shows}
use Rattle.shared.specs.Calls.{Called}
use Rattle.shared.specs.Mends.{FoundBusy}
use Rattle.session.specs.KnownFault.{IsBusyOrCallFault}

-- an item with an answer is removed, and one with an error stays the next
abbrev pub items_left : Item → List Item → Result Answer Fault → List Item
items_left item items (Ok a) = items
items_left item items (Err e) = item ∷ items

-- the repair of this item was called, with this reply
pub record HasRepaired (item : Item) (v : Shows) (reply : Result Answer Fault) (w : Shows) : Type 0 where
  pub called : Called v (repair item.name item.stripe item.f) reply w
  pub faults : IfErr reply IsBusyOrCallFault
  pub busy : reply ≡ Err Busy → FoundBusy v item.name item.stripe item.f w
  pub lone : v.room ≡ 64 → reply ≢ Err Busy

-- the next item was repaired; or there is none, and nothing was done
abbrev pub IsRepairStep : List Item → Shows → Option (Result Answer Fault) → List Item → Shows → Type 0
IsRepairStep [] v None left w = (left ≡ []) × (w ≡ v)
IsRepairStep (item ∷ items) v (Some reply) left w = HasRepaired item v reply w × (left ≡ items_left item items reply)
IsRepairStep items v reply left w = ⊥
