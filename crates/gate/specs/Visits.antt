-- What a visit of a gate leaves of a seat.
use Rattle.std.specs.Prelude.{◌≡◌, ℕ, false, List, [], ◌∷◌, ◌++◌, length, Some}
use mathlib.Core.List.{IsPrefix}
use Rattle.gate.specs.Places.{SeatState, last_of, IsChain, HasAll}

module _ {T O : Type 0} (follows : T → T → Type 0) (does : T → T → O → Type 0) where
  -- The seat entered once, and found the last of all values that were left before. It did its work on
  -- that value, with this result, and left the value that the work made of it
  pub record IsVisit (p q : SeatState T) (result : O) : Type 0 where
    pub before : List T
    pub found : T
    pub left : T
    pub seen : IsPrefix p.list before
    pub chain : IsChain follows before
    pub last : last_of before ≡ Some found
    pub did : does found left result
    pub list : q.list ≡ before ++ left ∷ []
    pub own : q.own ≡ p.own ++ length before ∷ []
    pub same : (q.gate ≡ p.gate) × (q.room ≡ p.room) × (q.inside ≡ false)
    pub lone : p.room ≡ 64 → HasAll before p.own
