-- What a pool of sessions does under its mutex, one turn after the other.
use Rattle.std.specs.Prelude.{◌≡◌, ◌⊎◌, ℕ, List, [], ◌∷◌}
use mathlib.Core.List.{IsPrefix}
use Rattle.shared.specs.Passes.{Shows, seen_by}
use Rattle.session.specs.FreshSession.{IsSplitOff}
use Rattle.session.specs.Learns.{Learns}

-- a session that shows this is given back; or one is taken that shows this as its use begins
pub data PoolTurn : Type 0 where
  give : Shows → PoolTurn
  take : Shows → PoolTurn

-- y has seen all that x has seen
abbrev pub HasSeenAllOf : Shows → Shows → Type 0
HasSeenAllOf y x = IsPrefix x.seen y.seen × IsPrefix x.acts y.acts

-- the root is as it was, and a session that was idle learned of it and shows y
abbrev pub IsReminded : Shows → Shows → Shows → Type 0
IsReminded root y after = (after ≡ root) × ((idle : Shows) × Learns idle (seen_by root) y)

-- a session that shows y was split off the root
abbrev pub IsMade : Shows → Shows → Shows → Type 0
IsMade root y after = (room : ℕ) × (after ≡ record root { room = room }) × ((who : ℕ) × IsSplitOff root who y)

-- the root learns of each session that is given back, and each that is taken learns of the root
abbrev pub IsTurn : Shows → PoolTurn → Shows → Type 0
IsTurn root (give x) after = Learns root (seen_by x) after
IsTurn root (take y) after = IsReminded root y after ⊎ IsMade root y after

-- these turns led the root from the first to the last
abbrev pub AreTurns : Shows → List PoolTurn → Shows → Type 0
AreTurns root [] after = after ≡ root
AreTurns root (t ∷ ts) after = (next : Shows) × IsTurn root t next × AreTurns next ts after
