-- What a worker did in any store, by the relation of one repair there.
use Rattle.std.specs.Prelude.{◌≡◌, ◌⊎◌, ℕ, List, [], ◌∷◌, length, Some, Result, Ok, Err, slice_get}
use Rattle.std.specs.Vec.{vec_capacity}
use Rattle.gate.specs.Places.{times}
use Rattle.sealed.specs.declared.fault.Fault.{Fault}
use Rattle.sealed.specs.declared.fault.Fault.TheVariants.{NoMemory}
use Rattle.book.specs.declared.answer.Answer.{Answer}
use Rattle.book.specs.declared.plan.Item.{Item}
use Rattle.shared.specs.Passes.{Which, Shows}
use Rattle.shared.specs.Calls.{Called}
use Rattle.mender.specs.declared.done.Done.{Done}
use Rattle.mender.specs.declared.done.WorkFault.{WorkFault}
use Rattle.mender.specs.Drawn.{DrawerState}
use Rattle.mender.specs.Gathered.{tickets_of}
use Rattle.mender.specs.Worked.{repair_of, Worked}

-- the repair of an item had this result, with the pass before and after it
abbrev pub Repairing : Type 0 → Type 1
Repairing V = V → Item → Result Answer Fault → V → Type 0

-- the repairs of the results' items were made, in order, with the results' answers, and nothing else
abbrev pub AreMade : {V : Type 0} → Repairing V → V → List Done → V → Type 0
AreMade repaired v [] w = w ≡ v
AreMade {V} repaired v (d ∷ done) w =
    (u : V) × repaired v d.item (Ok d.answer) u × AreMade repaired u done w

-- The ticket in hand has no result: there was no memory for one, and then its repair was not asked
-- for, or its repair was refused with this fault
pub record IsHalted {V : Type 0} (repaired : Repairing V) (plan : List Item) (old new : DrawerState)
    (v : V) (stop : WorkFault) (w : V) : Type 0 where
  pub ticket : ℕ
  pub item : Item
  pub there : slice_get plan ticket ≡ Some item
  pub none : times ticket (tickets_of stop.done.items) ≡ 0
  pub worked : Worked plan old new stop.done.items (ticket ∷ [])
  pub before : V
  pub made : AreMade repaired v stop.done.items before
  pub refused : ((stop.fault ≡ NoMemory) × (w ≡ before)
      × (vec_capacity stop.done ≡ length stop.done.items))
      ⊎ repaired before item (Err stop.fault) w

-- ---- a store alone
abbrev pub BelongsTo : Which → Shows → Type 0
BelongsTo store v = v.store ≡ store

-- the repair of an item is a call with this result
abbrev pub IsRepaired : Repairing Shows
IsRepaired v item r w = Called v (repair_of item) r w
