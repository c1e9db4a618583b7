-- The repairs of a plan, for C.
use Rattle.std.specs.Prelude.{◌≡◌, ◌≢◌, ◌⊎◌, ℕ, List, [], ◌∷◌, length, take, drop, Result, Option, Some, None}
use Rattle.std.specs.List.{last_or}
use Rattle.sealed.specs.declared.fault.Fault.{Fault}
use Rattle.sealed.specs.declared.fault.Fault.TheVariants.{Busy, NoMemory}
use Rattle.history.specs.Step.{repair}
use Rattle.history.specs.History.{History, state_of}
use Rattle.book.specs.declared.answer.Answer.{Answer}
use Rattle.book.specs.declared.plan.Item.{Item}
use Rattle.book.specs.Plan.{plan_of, items_after as items_behind}
use Rattle.shared.specs.Passes.{Shows, FindsBusy}
use Rattle.shared.specs.Deeds.{Takes}
use Rattle.session.specs.declared.held.Held.{Held}
use Rattle.session.specs.declared.held.Held.TheVariants.{Session, Repairs}
use Rattle.session.specs.RepairStep.{items_left}
use Rattle.store_c.specs.Status.{done, empty, no_memory, nothing_left, occupied, status_of_fault}
use Rattle.store_c.specs.OnSession.{HasReply}

-- the lost fragments of all blobs after a history
abbrev pub all_lost : History → List Item
all_lost h = plan_of (state_of h)

-- the first of them that come behind an item, or the first of all
abbrev pub some_lost : Option Item → ℕ → History → List Item
some_lost after most h = take most (items_behind after (all_lost h))

-- With `done` the other slot holds the lost fragments that are listed of the history, behind this
-- item, and C gets their number. Otherwise it holds what it held
pub data HasPlan (listed : History → List Item) (after : Option Item) (v : Shows) (held : Option Held) (status : ℕ) (counts : ℕ × ℕ) (w : Shows) (given : Option Held) : Type 0 where
  planned : (items : List Item) → status ≡ done → Takes v None w → items ≡ listed w.seen → counts.1 ≡ length items → given ≡ Some (Repairs (record { items = items; last = last_or after items }))
      → HasPlan listed after v held status counts w given
  no_room_for_plan : status ≡ no_memory → counts.1 ≡ counts.0 → w ≡ v → given ≡ held → HasPlan listed after v held status counts w given
  plan_refused : (fault : Fault) → (fault ≡ Busy) ⊎ (fault ≡ NoMemory) → status ≡ status_of_fault fault → Takes v None w → (fault ≡ Busy → FindsBusy v w) → (v.room ≡ 64 → fault ≢ Busy) → counts.1 ≡ counts.0 → given ≡ held
      → HasPlan listed after v held status counts w given

-- the other slot held something else, and nothing was done
abbrev pub IsOccupied : Shows → Held → ℕ → ℕ × ℕ → Shows → Option Held → Type 0
IsOccupied v x status counts w given = (status ≡ occupied) × (counts.1 ≡ counts.0) × (w ≡ v) × (given ≡ Some x)

-- the other slot is empty before; or nothing was done
abbrev pub IsPlanTo : Shows → Option Held → ℕ → ℕ × ℕ → Shows → Option Held → Type 0
IsPlanTo v None status counts w given = HasPlan all_lost None v None status counts w given
IsPlanTo v (Some x) status counts w given = IsOccupied v x status counts w given

-- the part behind this rest, if it has no item
abbrev pub IsNextPart : Shows → List Item → Option Item → ℕ → ℕ → ℕ × ℕ → Shows → Option Held → Type 0
IsNextPart v [] last most status counts w given = HasPlan (some_lost last most) last v (Some (Repairs (record { items = []; last = last }))) status counts w given
IsNextPart v (item ∷ items) last most status counts w given = IsOccupied v (Repairs (record { items = item ∷ items; last = last })) status counts w given

-- the other slot is empty before, and gets the first part; or it held a part without a remaining
-- item, and gets the next one; or nothing was done
abbrev pub IsPlanPartTo : Shows → Option Held → ℕ → ℕ → ℕ × ℕ → Shows → Option Held → Type 0
IsPlanPartTo v None most status counts w given = HasPlan (some_lost None most) None v None status counts w given
IsPlanPartTo v (Some (Repairs rest)) most status counts w given = IsNextPart v rest.items rest.last most status counts w given
IsPlanPartTo v (Some x) most status counts w given = IsOccupied v x status counts w given

-- the next item was repaired, with this reply
pub record HasMended (v : Shows) (item : Item) (items : List Item) (status before after : ℕ) (w : Shows) (left : List Item) : Type 0 where
  pub reply : Result Answer Fault
  pub is : HasReply v (repair item.name item.stripe item.f) reply status before after w
  pub left_is : left ≡ items_left item items reply

-- the next item was repaired, or there is none
abbrev pub IsMendStep : Shows → List Item → ℕ → ℕ → ℕ → Shows → List Item → Type 0
IsMendStep v [] status before after w left = (status ≡ nothing_left) × (after ≡ before) × (w ≡ v) × (left ≡ [])
IsMendStep v (item ∷ items) status before after w left = HasMended v item items status before after w left

-- the first slot holds a session, and the other the rest of a plan; or nothing was done
abbrev pub IsMendCall : Option Held → Option Held → ℕ → ℕ × ℕ → Option Held → Option Held → Type 0
IsMendCall (Some (Session v number)) (Some (Repairs rest)) status versions (Some (Session w same)) (Some (Repairs left)) =
    IsMendStep v rest.items status versions.0 versions.1 w left.items × (left.last ≡ rest.last) × (same ≡ number)
IsMendCall (Some (Session v number)) (Some (Repairs rest)) status versions new given = ⊥
IsMendCall old other status versions new given = (status ≡ empty) × (versions.1 ≡ versions.0) × (new ≡ old) × (given ≡ other)

-- the next item was left out, or none remains
pub record IsSkip (items : List Item) (status : ℕ) (left : List Item) : Type 0 where
  pub left_is : left ≡ drop 1 items
  pub some : items ≢ [] → status ≡ done
  pub none : items ≡ [] → status ≡ nothing_left

-- the slot holds the rest of a plan; or nothing was done
abbrev pub IsSkipCall : Option Held → ℕ → Option Held → Type 0
IsSkipCall (Some (Repairs rest)) status (Some (Repairs left)) = IsSkip rest.items status left.items × (left.last ≡ rest.last)
IsSkipCall (Some (Repairs rest)) status new = ⊥
IsSkipCall old status new = (status ≡ empty) × (new ≡ old)
