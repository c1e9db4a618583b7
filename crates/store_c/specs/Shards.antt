-- The shard of a name, for C.
use Rattle.std.specs.Prelude.{◌≡◌, ℕ, ◌≤◌, List}
use Rattle.history.specs.Names.{IsName}
use Rattle.one_map.specs.Hash.{shard_of}
use Rattle.store_c.specs.Status.{bad_argument, bad_name, done}

-- C gets the shard of which the law of one map speaks; or the arguments are no name, or no number
-- of shards, and nothing is written
pub data IsShardCall (name : List ℕ) (shards status before after : ℕ) : Type 0 where
  found_shard : IsName name → 1 ≤ shards → shards ≤ 64 → status ≡ done
      → after ≡ shard_of shards name → IsShardCall name shards status before after
  unnamed_shard : (IsName name → ⊥) → status ≡ bad_name → after ≡ before
      → IsShardCall name shards status before after
  uncounted_shard : IsName name → ((1 ≤ shards) × (shards ≤ 64) → ⊥) → status ≡ bad_argument
      → after ≡ before → IsShardCall name shards status before after
