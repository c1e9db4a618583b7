-- A value under a shard's lock, beside the shard's keeper.
use Rattle.std.specs.Prelude.{◌≡◌, ℕ, List, [], ◌++◌, Option, Some, None}
use Rattle.gate.specs.Places.{last_of}
use Rattle.gate.specs.Events.{history_of}
use Rattle.ledger.specs.declared.held.Held.{Held}
use Rattle.ledger.specs.Acts.{TableId, KeeperState}

-- a keeper with these acts more
abbrev pub grown : {A : Type 0} → KeeperState A → List A → KeeperState A
grown q more = record { ledger = q.ledger; shard = q.shard; acts = q.acts ++ more }

-- a value that is left beside its keeper, which has these acts more
abbrev pub left_beside : {T A : Type 0} → Held T A → List A → Held T A
left_beside h more = record { value = h.value; keeper = grown h.keeper more }

module _ {T A : Type 0} (between : T → T → List A) where
  abbrev pub between_held : Held T A → Held T A → List A
  between_held a b = between a.value b.value

  -- all acts between the values that were left
  abbrev pub acts_left : List (Held T A) → List A
  acts_left list = history_of between_held list

  abbrev pub acts_since : Option (Held T A) → T → List A
  acts_since None y = []
  acts_since (Some x) y = between x.value y

  -- the acts between the value that was left last and this one
  abbrev pub acts_to : List (Held T A) → T → List A
  acts_to list y = acts_since (last_of list) y

  -- the keeper has the acts between the two values more
  abbrev pub MayFollowHeld : (T → T → Type 0) → Held T A → Held T A → Type 0
  MayFollowHeld follows a b =
      follows a.value b.value × (b.keeper ≡ grown a.keeper (between a.value b.value))

  -- the keeper beside the last value is of this ledger and shard, and has all acts
  abbrev pub KeepsAll : TableId → ℕ → List (Held T A) → Type 0
  KeepsAll id k list =
      (x : Held T A) × (last_of list ≡ Some x)
      × (x.keeper ≡ record { ledger = id; shard = k; acts = acts_left list })
