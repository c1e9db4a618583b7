-- The passes to all shards, in the order of the shards: split, joined, their receipts, and whose
-- calls they show. With them goes a beginning of the list of all shards' acts.
use Rattle.std.specs.Prelude.{◌≡◌, ◌⊎◌, ℕ, ◌+◌, ◌-◌, ◌≤◌, List, [], ◌∷◌, ◌++◌, length, map}
use Rattle.std.specs.Prelude.{take, drop, Option, Some, slice_get}
use mathlib.Core.List.{IsPrefix}
use Rattle.gate.specs.Places.{times, AreApart}
use Rattle.book.specs.Serial.{Act, Deed, call, trim}
use Rattle.history.specs.History.{IsLegal}
use Rattle.shared.specs.Passes.{Which, Shows, ReceiptShows, IsConsistent, seen_by, IsWhole, Stays, DoneAfter}
use Rattle.shared.specs.Deeds.{Takes}
use Rattle.one_map.specs.OneMap.{operation_shard}
use Rattle.ledger.specs.declared.view.ShardAct.{ShardAct}
use Rattle.ledger.specs.Acts.{LedgerState}

-- What a clause sees of a store: which stores its shards are, in their order, and which ledger
-- lists the acts of all
pub record StoreShows : Type 0 where
  pub shards : List Which
  pub ledger : LedgerState

-- What a clause sees of a pass: what it shows at each shard, in the order of the shards; a
-- beginning of the list of all shards' acts; and the indices in this list of its own acts, with
-- those of the passes that it joined
pub record PassShows : Type 0 where
  pub shards : List Shows
  pub ledger : LedgerState
  pub list : List (ShardAct Act)
  pub own : List ℕ

-- What a clause sees of a receipt: what was seen at each shard, and of the list of all shards' acts
pub record ReceiptsShow : Type 0 where
  pub shards : List ReceiptShows
  pub ledger : LedgerState
  pub list : List (ShardAct Act)

-- the stores that the passes are to
abbrev pub stores_of : List Shows → List Which
stores_of vs = map (λ v. v.store) vs

-- the store that a pass is to
abbrev pub store_of : PassShows → StoreShows
store_of v = record { shards = stores_of v.shards; ledger = v.ledger }

-- no other pass is out
abbrev pub AreLone : List Shows → Type 0
AreLone vs = (k : ℕ) (v : Shows) → slice_get vs k ≡ Some v → v.room ≡ 64

-- each has seen a legal history
abbrev pub HaveLegalHistories : List Shows → Type 0
HaveLegalHistories vs = (k : ℕ) (v : Shows) → slice_get vs k ≡ Some v → IsLegal v.store.width v.seen

-- what each shows is consistent
abbrev pub AreConsistent : List Shows → Type 0
AreConsistent vs = (k : ℕ) (v : Shows) → slice_get vs k ≡ Some v → IsConsistent v

-- all are to stores of this width
abbrev pub HaveWidth : ℕ → List Shows → Type 0
HaveWidth w vs = (k : ℕ) (v : Shows) → slice_get vs k ≡ Some v → v.store.width ≡ w

-- ---- opened
-- a pass that has seen nothing
abbrev pub fresh_pass : Which → Shows
fresh_pass s = record {
  store = s;
  who = 0;
  room = 64;
  seen = [];
  trimmed = 0;
  made = [];
  acts = [];
  did = [];
  visits = 0;
  seen_visits = 1;
  expected_visits = 0;
}

-- ---- split
-- what a split leaves of a pass
abbrev pub kept_in_split : Shows → Shows
kept_in_split v = record v { room = v.room - 1 }

-- and the pass with this label that it gives
abbrev pub given_in_split : ℕ → Shows → Shows
given_in_split who v = record {
  store = v.store;
  who = who;
  room = 1;
  seen = v.seen;
  trimmed = v.trimmed;
  made = [];
  acts = v.acts;
  did = [];
  visits = 0;
  seen_visits = v.seen_visits;
  expected_visits = 0;
}

abbrev pub HaveRoom : List Shows → Type 0
HaveRoom [] = Unit {0}
HaveRoom (v ∷ vs) = (1 ≤ v.room) × HaveRoom vs

-- the first passes were split, and the others are as they were
abbrev pub AreSplitInPart : ℕ → List Shows → List Shows → List Shows → Type 0
AreSplitInPart who vs ws given =
    (n : ℕ) × (ws ≡ map kept_in_split (take n vs) ++ drop n vs)
    × (given ≡ map (given_in_split who) (take n vs)) × HaveRoom (take n vs)

-- the pass to some shard can't be split
abbrev pub HasRoomOfOne : List Shows → Type 0
HasRoomOfOne vs = (k : ℕ) × (v : Shows) × (slice_get vs k ≡ Some v) × (v.room ≡ 1)

-- a pass that has its room again, and shows at least what it showed
pub record HasRoomAgain (v w : Shows) : Type 0 where
  pub stays : Stays v w
  pub seen : w.seen ≡ v.seen
  pub trimmed : w.trimmed ≡ v.trimmed
  pub made : w.made ≡ v.made
  pub did : w.did ≡ v.did
  pub acts : IsPrefix v.acts w.acts

abbrev pub HaveRoomAgain : List Shows → List Shows → Type 0
HaveRoomAgain [] [] = Unit {0}
HaveRoomAgain (v ∷ vs) (w ∷ ws) = HasRoomAgain v w × HaveRoomAgain vs ws
HaveRoomAgain vs ws = ⊥

-- ---- joined
-- a pass took in another
pub record IsJoined (v other w : Shows) : Type 0 where
  pub store : w.store ≡ v.store
  pub who : w.who ≡ v.who
  pub room : w.room ≡ v.room + other.room
  pub one : ((w.seen ≡ v.seen) × (w.trimmed ≡ v.trimmed))
      ⊎ ((w.seen ≡ other.seen) × (w.trimmed ≡ other.trimmed))
  pub seen : IsPrefix v.seen w.seen × IsPrefix other.seen w.seen
  pub made : w.made ≡ v.made ++ other.made
  pub acts : IsPrefix v.acts w.acts × IsPrefix other.acts w.acts
  pub did : w.did ≡ v.did ++ other.did
  pub whole : w.room ≡ 64 → IsWhole w
  pub apart : AreApart v.made other.made

-- each pass took in what is of its shard, where there is something, as R says
abbrev pub AreTaken : {V O : Type 0} → (V → O → V → Type 0) → List V → List O → List V → Type 0
AreTaken R [] others ws = ws ≡ []
AreTaken R (v ∷ vs) others [] = ⊥
AreTaken R (v ∷ vs) [] (w ∷ ws) = (w ≡ v) × AreTaken R vs [] ws
AreTaken R (v ∷ vs) (o ∷ others) (w ∷ ws) = R v o w × AreTaken R vs others ws

-- each took in the other of its shard, where there is one
abbrev pub AreJoined : List Shows → List Shows → List Shows → Type 0
AreJoined vs others ws = AreTaken IsJoined vs others ws

-- ---- receipts
-- the stores that the receipts are of
abbrev pub receipt_stores : List ReceiptShows → List Which
receipt_stores rs = map (λ r. r.store) rs

-- the store that a receipt is of
abbrev pub receipt_store : ReceiptsShow → StoreShows
receipt_store r = record { shards = receipt_stores r.shards; ledger = r.ledger }

-- a pass took in a receipt
pub record IsAccepted (v : Shows) (r : ReceiptShows) (w : Shows) : Type 0 where
  pub kept : w ≡ record v {
    seen = w.seen;
    trimmed = w.trimmed;
    acts = w.acts;
    seen_visits = w.seen_visits;
  }
  pub one : (w ≡ v) ⊎ (seen_by w ≡ r)
  pub seen : IsPrefix v.seen w.seen × IsPrefix r.seen w.seen
  pub acts : IsPrefix v.acts w.acts × IsPrefix r.acts w.acts
  pub later : (deed : Option Deed) (u : Shows) → Takes w deed u → DoneAfter r.acts w u
  pub lone : v.room ≡ 64 → w ≡ v

-- each took in the receipt of its shard, where there is one
abbrev pub AreAccepted : List Shows → List ReceiptShows → List Shows → Type 0
AreAccepted vs rs ws = AreTaken IsAccepted vs rs ws

-- ---- own calls
-- a call of a name of this shard. A trim has no name
abbrev pub IsActOfShard : ℕ → ℕ → Act → Type 0
IsActOfShard count k (call e) = operation_shard count e.operation ≡ k
IsActOfShard count k (trim n) = Unit {0}

-- each act of the pass's own stands in what was done, and is of this shard
abbrev pub HasActsOfShard : ℕ → ℕ → Shows → Type 0
HasActsOfShard count k v =
    (p : ℕ) → 1 ≤ times p v.did
    → (act : Act) × (slice_get v.acts p ≡ Some act) × IsActOfShard count k act

-- each pass has made calls of names of its shard alone
abbrev pub HaveActsOfShards : List Shows → Type 0
HaveActsOfShards vs = (k : ℕ) (v : Shows) → slice_get vs k ≡ Some v → HasActsOfShard (length vs) k v
