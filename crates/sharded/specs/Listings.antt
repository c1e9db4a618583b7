-- The list of all shards' acts, as a pass shows it.
use Rattle.std.specs.Prelude.{◌≡◌, ℕ, zero, suc, ◌<◌, ◌≤◌, List, [], ◌∷◌, length, Option, Some}
use Rattle.std.specs.Prelude.{Result, slice_get}
use mathlib.Core.List.{IsPrefix}
use Rattle.gate.specs.Places.{times}
use Rattle.sealed.specs.declared.fault.Fault.{Fault}
use Rattle.history.specs.Step.{Operation}
use Rattle.book.specs.Serial.{Act, Deed}
use Rattle.book.specs.declared.answer.Answer.{Answer}
use Rattle.one_map.specs.OneMap.{operation_shard}
use Rattle.ledger.specs.declared.view.ShardAct.{ShardAct}
use Rattle.ledger.specs.Acts.{acts_at}
use Rattle.shared.specs.Passes.{Shows}
use Rattle.shared.specs.Deeds.{deed_of, act_if}
use Rattle.shard.specs.Listed.{Listing, IsListed}
use Rattle.sharded.specs.Passes.{PassShows}

abbrev pub listing : PassShows → Listing
listing v = record { list = v.list; own = v.own }

-- the label of the calls at a shard
abbrev pub who_at : List Shows → ℕ → ℕ
who_at [] k = 0
who_at (v ∷ vs) zero = v.who
who_at (v ∷ vs) (suc k) = who_at vs k

-- the acts of a shard that its pass shows
abbrev pub shown_at : List Shows → ℕ → List Act
shown_at [] k = []
shown_at (v ∷ vs) zero = v.acts
shown_at (v ∷ vs) (suc k) = shown_at vs k

-- What the pass did at a shard, if anything, ends the list of all shards, at a new own index.
-- Before it stands all that the pass had seen at any shard, and then what others did. The acts of
-- this shard in the list are those that the pass now shows of it. If the pass did not enter the
-- shard, it did nothing, and shows the list that it showed
abbrev pub IsListedAt : ℕ → Option Deed → PassShows → PassShows → Type 0
IsListedAt k deed v w =
    IsListed k (act_if (who_at v.shards k) deed) (shown_at v.shards k) (shown_at w.shards k)
    (listing v) (listing w)

-- a call with this result, at the shard of its name
abbrev pub IsListedCall : PassShows → Operation → Result Answer Fault → PassShows → Type 0
IsListedCall v o r w = IsListedAt (operation_shard (length v.shards) o) (deed_of o r) v w

-- the list goes on, and so do the own indices
abbrev pub IsLonger : PassShows → PassShows → Type 0
IsLonger v w = IsPrefix v.list w.list × IsPrefix v.own w.own

-- the list begins with these acts, and each act of the pass's own since v stands after all of them
abbrev pub IsDoneAfter : List (ShardAct Act) → PassShows → PassShows → Type 0
IsDoneAfter list v w =
    IsPrefix list w.list × ((p : ℕ) → times p v.own < times p w.own → length list ≤ p)

-- what the pass shows at each shard is a beginning of the list's acts of that shard
abbrev pub AreBeginnings : PassShows → Type 0
AreBeginnings v =
    (k : ℕ) (x : Shows) → slice_get v.shards k ≡ Some x → IsPrefix x.acts (acts_at k v.list)

-- what the pass shows at each shard is all that the list has of that shard
abbrev pub AreAllListed : PassShows → Type 0
AreAllListed v =
    (k : ℕ) (x : Shows) → slice_get v.shards k ≡ Some x → acts_at k v.list ≡ x.acts
