-- The acts of many shards in one list, and what the seats of a ledger show of it.
use Rattle.std.specs.Prelude.{◌≡◌, ℕ, zero, suc, ◌+◌, ◌≤◌, ◌==◌, nat_lt, cond}
use Rattle.std.specs.Prelude.{List, [], ◌∷◌, ◌++◌, length, map, count_by}
use mathlib.Core.List.{IsPrefix}
pub use Rattle.atomic_table.specs.Seated.{TableId}
use Rattle.ledger.specs.declared.view.Setup.{Setup}
use Rattle.ledger.specs.declared.view.ShardAct.{ShardAct}
use Rattle.ledger.specs.declared.view.ShardActs.{ShardActs}

-- Which ledger it is, and what it was opened with
pub record LedgerState : Type 0 where
  pub table : TableId
  pub setup : Setup

-- What a follower shows: a beginning of the list, and the indices of its own acts in it
pub record FollowerState (A : Type 0) : Type 0 where
  pub ledger : LedgerState
  pub list : List (ShardAct A)
  pub own : List ℕ
  pub room : ℕ

-- What a receipt shows: a beginning of the list
pub record ReceiptState (A : Type 0) : Type 0 where
  pub ledger : LedgerState
  pub list : List (ShardAct A)

-- What a keeper shows: all acts of its shard
pub record KeeperState (A : Type 0) : Type 0 where
  pub ledger : TableId
  pub shard : ℕ
  pub acts : List A

module _ {A : Type 0} where
  abbrev pub shard_act : ℕ → A → ShardAct A
  shard_act k act = record { shard = k; act = act }

  abbrev pub shard_acts : ℕ → List A → ShardActs A
  shard_acts k acts = record { shard = k; acts = acts }

  -- these acts, as acts of one shard
  abbrev pub as_shard_acts : ℕ → List A → List (ShardAct A)
  as_shard_acts k acts = map (λ act. shard_act k act) acts

  -- the acts of one shard, in their order
  abbrev pub acts_at : ℕ → List (ShardAct A) → List A
  acts_at k [] = []
  acts_at k (d ∷ ds) = cond (d.shard == k) (d.act ∷ acts_at k ds) (acts_at k ds)

  -- the acts of each shard may be those of a shard
  abbrev pub AreLegal : (ℕ → List A → Type 0) → List (ShardAct A) → Type 0
  AreLegal legal list = (k : ℕ) → legal k (acts_at k list)

-- how often a number stands among these
abbrev pub times : ℕ → List ℕ → ℕ
times p own = count_by (λ q. q == p) own

-- 1 for each number below n, and else 0
abbrev pub once_below : ℕ → ℕ → ℕ
once_below n p = cond (nat_lt p n) 1 0

-- n, and those that follow it, so many
abbrev pub indices : ℕ → ℕ → List ℕ
indices n zero = []
indices n (suc m) = n ∷ indices (suc n) m

-- no index in common
abbrev pub AreApart : List ℕ → List ℕ → Type 0
AreApart one other = (p : ℕ) → times p one + times p other ≤ 1

module _ {A : Type 0} where
  -- no index past the list's end
  abbrev pub IsWithin : List (ShardAct A) → List ℕ → Type 0
  IsWithin list own = (p : ℕ) → length list ≤ p → times p own ≡ 0

  -- each index of the list once, and no other
  abbrev pub HasAll : List (ShardAct A) → List ℕ → Type 0
  HasAll list own = (p : ℕ) → times p own ≡ once_below (length list) p

  -- the list goes on with what others recorded, and then with these acts, at own indices
  pub record IsRecorded (v : FollowerState A) (keeper : KeeperState A) (acts : List A)
      (w : FollowerState A) : Type 0 where
    pub before : List (ShardAct A)
    pub list : w.list ≡ before ++ as_shard_acts keeper.shard acts
    pub own : w.own ≡ v.own ++ indices (length before) (length acts)
    pub seen : IsPrefix v.list before
    pub whole : acts_at keeper.shard before ≡ keeper.acts

  -- the keepers of the first n shards, without acts
  abbrev pub new_keepers : TableId → ℕ → List (KeeperState A)
  new_keepers id zero = []
  new_keepers id (suc n) = new_keepers id n ++ record { ledger = id; shard = n; acts = [] } ∷ []
