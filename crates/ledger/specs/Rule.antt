-- The rule of a ledger, and what its steps show. The word is never written.
use Rattle.std.specs.Prelude.{◌≡◌, ◌⊎◌, ℕ, zero, suc, ◌+◌, ◌-◌, ◌<◌, ◌≤◌, ◌==◌}
use Rattle.std.specs.Prelude.{List, [], ◌∷◌, ◌++◌, length, count_by, sum_by}
use mathlib.Core.Option.{some}
use mathlib.Core.List.{IsPrefix}
use lib.ListN.{get_elem?}
use Rattle.atomic_table.specs.Table.{State, Me, Step}
use Rattle.ledger.specs.declared.view.Setup.{Setup}
use Rattle.ledger.specs.declared.view.ShardAct.{ShardAct}
use Rattle.ledger.specs.declared.view.ShardActs.{ShardActs}
use Rattle.ledger.specs.declared.view.Shown.{Shown}
use Rattle.ledger.specs.declared.view.View.{View}
use Rattle.ledger.specs.Acts.{TableId, FollowerState, ReceiptState, KeeperState, shard_acts}
use Rattle.ledger.specs.Acts.{as_shard_acts, acts_at, indices, AreLegal, times, once_below, IsWithin}
use Rattle.ledger.specs.Acts.{HasAll, AreApart}

-- What is counted over all views: who has an index, who has rooms, who keeps a shard
pub data Measure : Type 0 where
  index : ℕ → Measure
  rooms : Measure
  keeper : ℕ → Measure

module _ {A : Type 0} where
  abbrev pub shown : List (ShardAct A) → List ℕ → Shown A
  shown list own = record { list = list; own = own }

  abbrev pub nothing : Shown A
  nothing = shown [] []

  abbrev pub settled : Shown A → ℕ → List (ShardActs A) → View A
  settled s room kept = record { shown = s; heard = nothing; room = room; kept = kept }

  -- the shards from k on, n of them, without acts
  abbrev pub empty_from : ℕ → ℕ → List (ShardActs A)
  empty_from k zero = []
  empty_from k (suc n) = shard_acts k [] ∷ empty_from (suc k) n

  -- the first seat keeps all shards
  abbrev pub opening : ℕ → View A
  opening count = settled nothing 64 (empty_from 0 count)

  -- what a join leaves
  abbrev pub spent : View A
  spent = settled nothing 0 []

  -- what a receipt knows
  abbrev pub noted : List (ShardAct A) → View A
  noted list = settled (shown list []) 0 []

  -- what a keeper knows
  abbrev pub keeps : ShardActs A → View A
  keeps part = settled nothing 0 (part ∷ [])

  abbrev pub IsBeginning : List (ShardAct A) → Shown A → Type 0
  IsBeginning all s = IsPrefix s.list all × IsWithin s.list s.own

  -- each of these has all acts of its shard
  abbrev pub HaveAllActs : List (ShardAct A) → List (ShardActs A) → Type 0
  HaveAllActs all [] = Unit {0}
  HaveAllActs all (d ∷ ds) = (acts_at d.shard all ≡ d.acts) × HaveAllActs all ds

  pub record IsIdle (v : View A) : Type 0 where
    pub shown : v.shown.own ≡ []
    pub heard : v.heard.own ≡ []

  pub record Fits (all : List (ShardAct A)) (v : View A) : Type 0 where
    pub shows : IsBeginning all v.shown
    pub hears : IsBeginning all v.heard
    pub idle : v.room ≡ 0 → IsIdle v
    pub whole : HaveAllActs all v.kept

  abbrev pub weigh : Measure → View A → ℕ
  weigh (index p) v = times p v.shown.own + times p v.heard.own
  weigh rooms v = v.room
  weigh (keeper k) v = count_by (λ d. d.shard == k) v.kept

  -- each index of the list once, 64 rooms, and one keeper for each shard
  abbrev pub total_of : ℕ → List (ShardAct A) → Measure → ℕ
  total_of count all (index p) = once_below (length all) p
  total_of count all rooms = 64
  total_of count all (keeper k) = once_below count k

  pub record IsLedger (legal : ℕ → List A → Type 0) (count : ℕ) (views : List (View A))
      : Type 0 where
    pub all : List (ShardAct A)
    pub lawful : AreLegal legal all
    pub each : (j : ℕ) (v : View A) → get_elem? views j ≡ some v → Fits all v
    pub sums : (m : Measure) → sum_by (weigh m) views ≡ total_of count all m

  abbrev pub Invariant : {S : Type 0} → (ℕ → List A → Type 0) → ℕ → State S (View A) → Type 0
  Invariant legal count s = IsLedger legal count s.views

  -- the list grew by these acts of the one shard that the seat keeps, at indices of the seat.
  -- The seat has seen the whole list
  abbrev pub Recorded : {S : Type 0} → (ℕ → List A → Type 0) → List A → Step S → Me S (View A) → ℕ
      → Me S (View A) → Type 0
  Recorded legal acts st m found m' =
      (part : ShardActs A) × (before : List (ShardAct A))
      × (m.0.kept ≡ part ∷ [])
      × IsPrefix m.0.shown.list before × (acts_at part.shard before ≡ part.acts)
      × AreLegal legal (before ++ as_shard_acts part.shard acts)
      × (m.0.room ≡ 64 → HasAll (before ++ as_shard_acts part.shard acts)
      (m.0.shown.own ++ indices (length before) (length acts)))
      × (m' ≡ (
        settled
            (shown (before ++ as_shard_acts part.shard acts)
            (m.0.shown.own ++ indices (length before) (length acts)))
            m.0.room (shard_acts part.shard (part.acts ++ acts) ∷ []),
        m.1,
      ))
      × IsWithin m.0.shown.list m.0.shown.own

  -- the list was seen whole, with all acts of the one shard that the seat keeps
  abbrev pub Observed : {S : Type 0} → (ℕ → List A → Type 0) → Step S → Me S (View A) → ℕ
      → Me S (View A) → Type 0
  Observed legal st m found m' =
      (part : ShardActs A) × (list : List (ShardAct A))
      × (m.0.kept ≡ part ∷ [])
      × IsPrefix m.0.shown.list list × (acts_at part.shard list ≡ part.acts)
      × AreLegal legal list
      × (m.0.room ≡ 64 → (list ≡ m.0.shown.list) × HasAll list m.0.shown.own)
      × (m' ≡ (settled (shown list m.0.shown.own) m.0.room (part ∷ []), m.1))

  -- what was heard is put together with what was shown
  abbrev pub Settled : {S : Type 0} → Step S → Me S (View A) → ℕ → Me S (View A) → Type 0
  Settled st m found m' =
      (list : List (ShardAct A))
      × (m' ≡ (settled (shown list (m.0.shown.own ++ m.0.heard.own)) m.0.room m.0.kept, m.1))
      × ((list ≡ m.0.shown.list) ⊎ (list ≡ m.0.heard.list))
      × IsPrefix m.0.shown.list list × IsPrefix m.0.heard.list list
      × AreApart m.0.shown.own m.0.heard.own
      × (m.0.room ≤ 64)
      × (m.0.room ≡ 64 → HasAll list (m.0.shown.own ++ m.0.heard.own))

  -- how a room is given away
  abbrev pub kept_part : View A → View A
  kept_part v = settled v.shown (v.room - 1) v.kept

  abbrev pub given_part : View A → View A
  given_part v = settled (shown v.shown.list []) 1 []

  -- how a receipt is made
  abbrev pub same_part : View A → View A
  same_part v = v

  abbrev pub noted_part : View A → View A
  noted_part v = noted v.shown.list

  -- how the first keeper is split off
  abbrev pub first_of : List (ShardActs A) → List (ShardActs A)
  first_of [] = []
  first_of (d ∷ ds) = d ∷ []

  abbrev pub rest_of : List (ShardActs A) → List (ShardActs A)
  rest_of [] = []
  rest_of (d ∷ ds) = ds

  abbrev pub less_one : View A → View A
  less_one v = settled v.shown v.room (rest_of v.kept)

  abbrev pub one_keeper : View A → View A
  one_keeper v = settled nothing 0 (first_of v.kept)

  -- how two views are put together: the second is heard
  abbrev pub heard_by : View A → View A → View A
  heard_by v w = record {
    shown = v.shown;
    heard = w.shown;
    room = v.room + w.room;
    kept = v.kept ++ w.kept;
  }

  -- what a follower is between two calls
  pub record IsFollower {S : Type 0} (legal : ℕ → List A → Type 0) (me : Me S (View A))
      : Type 0 where
    pub heard : me.0.heard ≡ nothing
    pub kept : me.0.kept ≡ []
    pub slots : me.1 ≡ []
    pub some_room : 0 < me.0.room
    pub few : me.0.room ≤ 64
    pub lawful : AreLegal legal me.0.shown.list

  -- what a receipt is
  pub record IsReceipt {S : Type 0} (legal : ℕ → List A → Type 0) (me : Me S (View A))
      : Type 0 where
    pub view : me.0 ≡ noted me.0.shown.list
    pub slots : me.1 ≡ []
    pub lawful : AreLegal legal me.0.shown.list

  -- a keeper has one view, of one shard
  abbrev pub IsKeeper : List (View A) → Type 0
  IsKeeper views = (part : ShardActs A) × (views ≡ keeps part ∷ [])

  abbrev pub first_kept : List (ShardActs A) → ShardActs A
  first_kept [] = shard_acts 0 []
  first_kept (d ∷ ds) = d

  abbrev pub keeper_part : List (View A) → ShardActs A
  keeper_part [] = shard_acts 0 []
  keeper_part (v ∷ vs) = first_kept v.kept

  abbrev pub follower_state : {S : Type 0} → TableId → Setup → Me S (View A) → FollowerState A
  follower_state id setup me = record {
    ledger = record { table = id; setup = setup };
    list = me.0.shown.list;
    own = me.0.shown.own;
    room = me.0.room;
  }

  abbrev pub receipt_state : {S : Type 0} → TableId → Setup → Me S (View A) → ReceiptState A
  receipt_state id setup me =
      record { ledger = record { table = id; setup = setup }; list = me.0.shown.list }

  abbrev pub keeper_state : TableId → List (View A) → KeeperState A
  keeper_state id views =
      record { ledger = id; shard = (keeper_part views).shard; acts = (keeper_part views).acts }
