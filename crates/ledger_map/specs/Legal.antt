-- Acts of the shards of one map.
use Rattle.std.specs.Prelude.{◌≡◌, ℕ, List, [], ◌∷◌, map}
use Rattle.history.specs.History.{Event, History, IsLegal}
use Rattle.book.specs.Serial.{Act, events_in}
use Rattle.ledger.specs.declared.view.Setup.{Setup}
use Rattle.ledger.specs.declared.view.ShardAct.{ShardAct}
use Rattle.one_map.specs.OneMap.{operation_shard}

-- these calls are on names of this shard
abbrev pub AreCallsAt : (Event → ℕ) → ℕ → History → Type 0
AreCallsAt shard k [] = Unit {0}
AreCallsAt shard k (e ∷ es) = (shard e ≡ k) × AreCallsAt shard k es

abbrev pub event_shard : ℕ → Event → ℕ
event_shard count e = operation_shard count e.operation

-- The calls among these acts are legal for a store, and on names of this shard. The number that all
-- shards share is the width
abbrev pub AreActsOfShard : Setup → ℕ → List Act → Type 0
AreActsOfShard setup k acts =
    IsLegal setup.about (events_in acts)
    × AreCallsAt (event_shard setup.count) k (events_in acts)

-- the calls of all shards
abbrev pub calls_of : List (ShardAct Act) → History
calls_of list = events_in (map (λ d. d.act) list)
