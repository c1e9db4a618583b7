-- What was done at a shard, in the list of the acts of all shards.
use Rattle.std.specs.Prelude.{◌≡◌, ◌⊎◌, ℕ, List, [], ◌++◌, length}
use mathlib.Core.List.{IsPrefix}
use Rattle.book.specs.Serial.{Act}
use Rattle.one_map.specs.OneMap.{IsLegalOneMap}
use Rattle.ledger.specs.declared.view.Setup.{Setup}
use Rattle.ledger.specs.declared.view.ShardAct.{ShardAct}
use Rattle.ledger.specs.Acts.{FollowerState, as_shard_acts, acts_at, indices}
use Rattle.ledger_map.specs.Legal.{calls_of}

-- A beginning of the list of all shards' acts, and the indices in it of a caller's own
pub record Listing : Type 0 where
  pub list : List (ShardAct Act)
  pub own : List ℕ

abbrev pub listing_of : FollowerState Act → Listing
listing_of f = record { list = f.list; own = f.own }

-- What a caller did at a shard ends the list of all shards, at new own indices. Before it stands
-- all that the caller had seen at any shard, and then what others did. The acts of this shard in the
-- list are those that the caller is now shown of it. A caller that did not enter did nothing, has
-- the list that it had, and is shown what it was
pub record IsListed (k : ℕ) (acts had shown : List Act) (v w : Listing) : Type 0 where
  pub before : List (ShardAct Act)
  pub seen : IsPrefix v.list before
  pub list : w.list ≡ before ++ as_shard_acts k acts
  pub own : w.own ≡ v.own ++ indices (length before) (length acts)
  pub entered : ((w ≡ v) × (acts ≡ []) × (shown ≡ had)) ⊎ (acts_at k w.list ≡ shown)

-- What a visit of a shard leaves of a follower. What is shown of the shard is a beginning of its
-- acts in the list, and the calls in the list are a legal history of one map, if they were before
pub record IsUpToDate (setup : Setup) (k : ℕ) (had shown : List Act)
    (v w : FollowerState Act) : Type 0 where
  pub ledger : w.ledger ≡ v.ledger
  pub room : w.room ≡ v.room
  pub begins : IsPrefix had (acts_at k v.list) → IsPrefix shown (acts_at k w.list)
  pub one_map : IsLegalOneMap setup.count setup.about (calls_of v.list)
      → IsLegalOneMap setup.count setup.about (calls_of w.list)
