-- What a worker did to a sharded store.
use Rattle.std.specs.Prelude.{◌≡◌, ◌⊎◌, ℕ, List, [], ◌∷◌, ◌++◌, length, Some, Ok, Err, slice_get}
use Rattle.gate.specs.Places.{times}
use Rattle.sealed.specs.declared.fault.Fault.{Fault}
use Rattle.sealed.specs.declared.fault.Fault.TheVariants.{NoMemory}
use Rattle.book.specs.declared.plan.Item.{Item}
use Rattle.mender.specs.declared.done.Done.{Done}
use Rattle.mender.specs.Drawn.{DrawerState}
use Rattle.mender.specs.Gathered.{tickets_of}
use Rattle.mender.specs.Worked.{repair_of, Worked}
use Rattle.mender.specs.Made.{Repairing}
use Rattle.shared.specs.Passes.{Shows}
use Rattle.shared.specs.Calls.{HasJournalRoom}
use Rattle.one_map.specs.Hash.{shard_of}
use Rattle.sharded.specs.Passes.{StoreShows, PassShows, store_of}
use Rattle.sharded.specs.Steps.{IsCallAt}

-- The results' repairs were made, in order: each is a call with its answer, at the shard of its
-- name. Nothing else was done
abbrev pub AreRepaired : List Shows → List Done → List Shows → Type 0
AreRepaired vs [] ws = ws ≡ vs
AreRepaired vs (d ∷ done) ws =
    (us : List Shows) × IsCallAt vs (repair_of d.item) (Ok d.answer) us × AreRepaired us done ws

-- The ticket in hand has no result: its repair was refused with this fault, or memory for its
-- result was
pub record IsStopped (plan : List Item) (old new : DrawerState)
    (vs : List Shows) (done : List Done) (fault : Fault) (ws : List Shows) : Type 0 where
  pub ticket : ℕ
  pub item : Item
  pub there : slice_get plan ticket ≡ Some item
  pub none : times ticket (tickets_of done) ≡ 0
  pub worked : Worked plan old new done (ticket ∷ [])
  pub before : List Shows
  pub repaired : AreRepaired vs done before
  pub refused : ((fault ≡ NoMemory) × (ws ≡ before))
      ⊎ IsCallAt before (repair_of item) (Err fault) ws

-- the journal had room at the shard of the item in hand, whose ticket was drawn last
pub record HasRoomInHand (plan : List Item) (hand : DrawerState) (ws : List Shows) : Type 0 where
  pub before : List ℕ
  pub ticket : ℕ
  pub drawn : hand.drawn ≡ before ++ ticket ∷ []
  pub item : Item
  pub there : slice_get plan ticket ≡ Some item
  pub shown : Shows
  pub here : slice_get ws (shard_of (length ws) item.name) ≡ Some shown
  pub room : HasJournalRoom shown

-- ---- as a store that is mended
abbrev pub IsPassTo : StoreShows → PassShows → Type 0
IsPassTo store v = store_of v ≡ store

-- the repair of an item is a call with this result, at the shard of its name
abbrev pub IsRepairedAt : Repairing PassShows
IsRepairedAt v item r w = IsCallAt v.shards (repair_of item) r w.shards
