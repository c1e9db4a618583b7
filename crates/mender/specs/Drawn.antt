-- What the drawers of one `Tickets` have drawn.
use Rattle.std.specs.Prelude.{◌≡◌, ℕ, ◌+◌, ◌^◌, nat_lt, cond, List, [], length}
use Rattle.gate.specs.Places.{TableId, times}

-- what a clause sees of a drawer: its tickets, how many of them it may still draw, and the numbers
-- that it has drawn, with those of the drawers that it joined
pub record DrawerState : Type 0 where
  pub tickets : TableId
  pub allowance : ℕ
  pub drawn : List ℕ

-- 1 for each number below the count, and else 0
abbrev pub once_below : ℕ → ℕ → ℕ
once_below n count = cond (nat_lt n count) 1 0

-- the numbers below the count, each once
abbrev pub AreFirst : List ℕ → ℕ → Type 0
AreFirst numbers count = (n : ℕ) → times n numbers ≡ once_below n count

-- the first drawer, from which nothing was drawn or split off
abbrev pub IsIntact : DrawerState → Type 0
IsIntact hand = (hand.allowance ≡ 2 ^ 40) × (hand.drawn ≡ [])

-- no other drawer may draw or has drawn
abbrev pub IsSole : DrawerState → Type 0
IsSole hand = hand.allowance + length hand.drawn ≡ 2 ^ 40

-- then this one has drawn the numbers below the count of its draws, each once
abbrev pub DrewFirstNumbers : DrawerState → Type 0
DrewFirstNumbers hand = IsSole hand → AreFirst hand.drawn (length hand.drawn)
