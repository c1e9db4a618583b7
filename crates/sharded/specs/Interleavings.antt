-- Interleavings of the shards' histories, and the one map that they are of.
use Rattle.std.specs.Prelude.{◌≡◌, ℕ, List, [], ◌∷◌, length, Some, slice_get}
use Rattle.std.specs.FinMap as map
use Rattle.history.specs.History.{History, state_of}
use Rattle.shared.specs.Passes.{Shows}
use Rattle.one_map.specs.Hash.{shard_of}
use Rattle.one_map.specs.OneMap.{operation_shard, part, map_of, IsLegalOneMap}

-- An order of all calls that the passes have seen. The calls on names of each shard are those that
-- its pass has seen, in their order
abbrev pub IsInterleavingOf : List Shows → History → Type 0
IsInterleavingOf vs h =
    (k : ℕ) (v : Shows) → slice_get vs k ≡ Some v → part (length vs) k h ≡ v.seen

-- at each name the map has what the shard of the name has there
abbrev pub HasNamesOf : List Shows → History → Type 0
HasNamesOf vs h =
    (n : List ℕ) (v : Shows) → slice_get vs (shard_of (length vs) n) ≡ Some v
    → map.get (map_of (length vs) h).names n ≡ map.get (state_of v.seen).names n

-- In each interleaving the replies are those of one object over one map, which at last has the
-- names of the shards
abbrev pub HasOneMap : ℕ → List Shows → Type 0
HasOneMap w vs =
    (h : History) → IsInterleavingOf vs h → IsLegalOneMap (length vs) w h × HasNamesOf vs h

-- these calls are on names of this shard
abbrev pub AreCallsOfShard : ℕ → ℕ → History → Type 0
AreCallsOfShard count k [] = Unit {0}
AreCallsOfShard count k (e ∷ es) =
    (operation_shard count e.operation ≡ k) × AreCallsOfShard count k es

-- each call that was seen at a shard is on a name of this shard, so there is an interleaving
pub record HasInterleaving (vs : List Shows) : Type 0 where
  pub of_shards : (k : ℕ) (v : Shows) → slice_get vs k ≡ Some v
      → AreCallsOfShard (length vs) k v.seen
  pub order : History
  pub order_is : IsInterleavingOf vs order
