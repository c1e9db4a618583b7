-- What a visit of a shard's lock leaves of a seat and of a follower.
use Rattle.std.specs.Prelude.{◌≡◌, ℕ, false, List, [], ◌∷◌, ◌++◌, length, Some}
use mathlib.Core.List.{IsPrefix}
use Rattle.gate.specs.Places.{SeatState, last_of, IsChain, HasAll}
use Rattle.ledger.specs.declared.held.Held.{Held}
use Rattle.ledger.specs.Acts.{TableId, FollowerState, IsRecorded}
use Rattle.ledger.specs.Values.{MayFollowHeld, KeepsAll, left_beside}

-- a value beside the keeper that was found
abbrev pub beside : {T A : Type 0} → Held T A → T → Held T A
beside found left = record { value = left; keeper = found.keeper }

module _ {T A O : Type 0} (between : T → T → List A) (follows : T → T → Type 0) (does : T → T → O → Type 0) where
  -- The seat entered once, and found a value beside its keeper, the last of all that were left before.
  -- It did its work on that value, with this result. The acts between the two values end the list of
  -- the acts of all shards
  pub record IsListedVisit (table : TableId) (p q : SeatState (Held T A)) (v w : FollowerState A) (result : O) : Type 0 where
    pub before : List (Held T A)
    pub found : Held T A
    pub left : T
    pub seen : IsPrefix p.list before
    pub chain : IsChain (MayFollowHeld between follows) before
    pub last : last_of before ≡ Some found
    pub did : does found.value left result
    pub list : q.list ≡ before ++ left_beside (beside found left) (between found.value left) ∷ []
    pub own : q.own ≡ p.own ++ length before ∷ []
    pub same : (q.gate ≡ p.gate) × (q.room ≡ p.room) × (q.inside ≡ false)
    pub lone : p.room ≡ 64 → HasAll before p.own
    pub keeps : (k : ℕ) → KeepsAll between table k p.list → KeepsAll between table k q.list
    pub recorded : IsRecorded v found.keeper (between found.value left) w
    pub follower : (w.ledger ≡ v.ledger) × (w.room ≡ v.room)
