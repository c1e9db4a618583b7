-- The seats of a pass, one at each shard, and what all of them keep.
use Rattle.std.specs.Prelude.{◌≡◌, ◌⊎◌, ℕ, suc, ◌<◌, List, [], ◌∷◌, ◌++◌, length, map, take}
use Rattle.std.specs.Prelude.{drop, Some, slice_get}
use mathlib.Core.List.{IsPrefix}
use Rattle.book.specs.Serial.{Act}
use Rattle.one_map.specs.OneMap.{IsLegalOneMap}
use Rattle.ledger.specs.Acts.{TableId, FollowerState, ReceiptState, acts_at}
use Rattle.ledger_map.specs.Legal.{calls_of}
use Rattle.shared.specs.Passes.{Which, Shows, ReceiptShows, IsConsistent, seen_by}
use Rattle.shard.specs.Seats.{SeatShows, IsSeatOf}
use Rattle.sharded.specs.Passes.{PassShows, HaveActsOfShards, HaveRoom, IsJoined, IsAccepted}
use Rattle.sharded.specs.Passes.{fresh_pass, kept_in_split, given_in_split}

abbrev pub shows_of : List SeatShows → List Shows
shows_of seats = map (λ s. s.shows) seats

-- the stores that the seats are at
abbrev pub seat_stores : List SeatShows → List Which
seat_stores seats = map (λ s. s.shows.store) seats

abbrev pub pass_shows : List SeatShows → FollowerState Act → PassShows
pass_shows seats f =
    record { shards = shows_of seats; ledger = f.ledger; list = f.list; own = f.own }

-- a seat at this shard of the follower's ledger, with as much room
pub record IsSeatAt (f : FollowerState Act) (k : ℕ) (s : SeatShows) : Type 0 where
  pub of : IsSeatOf f.ledger s
  pub shard : s.shard ≡ k
  pub room : s.shows.room ≡ f.room
  pub begins : IsPrefix s.shows.acts (acts_at k f.list)
  pub agrees : IsConsistent s.shows

-- one seat at each shard, in the order of the shards. The calls in the list are of one map
pub record IsPassOf (seats : List SeatShows) (f : FollowerState Act) : Type 0 where
  pub count : length seats ≡ f.ledger.setup.count
  pub some : 0 < f.ledger.setup.count
  pub each : (k : ℕ) (s : SeatShows) → slice_get seats k ≡ Some s → IsSeatAt f k s
  pub one_map : IsLegalOneMap f.ledger.setup.count f.ledger.setup.about (calls_of f.list)
  pub homed : HaveActsOfShards (shows_of seats)

-- what was seen at each shard is a beginning of the list's acts of that shard
pub record IsReceiptOf (rs : List ReceiptShows) (list : ReceiptState Act) : Type 0 where
  pub begins : (k : ℕ) (r : ReceiptShows) → slice_get rs k ≡ Some r
      → IsPrefix r.acts (acts_at k list.list)
  pub one_map : IsLegalOneMap list.ledger.setup.count list.ledger.setup.about (calls_of list.list)

-- ---- split
abbrev pub kept_seat : SeatShows → SeatShows
kept_seat s = record s { shows = kept_in_split s.shows }

abbrev pub given_seat : ℕ → SeatShows → SeatShows
given_seat who s = record s { shows = given_in_split who s.shows }

-- the first seats were split, and the others are as they were
abbrev pub AreSeatsInPart : ℕ → List SeatShows → List SeatShows → List SeatShows → Type 0
AreSeatsInPart who vs ws given =
    (n : ℕ) × (ws ≡ map kept_seat (take n vs) ++ drop n vs)
    × (given ≡ map (given_seat who) (take n vs)) × HaveRoom (shows_of (take n vs))

-- ---- joined
-- the same shard of the same ledger
abbrev pub IsSamePlace : SeatShows → SeatShows → Type 0
IsSamePlace v w = (w.ledger ≡ v.ledger) × (w.shard ≡ v.shard)

pub record IsSeatJoined (v other w : SeatShows) : Type 0 where
  pub joined : IsJoined v.shows other.shows w.shows
  pub one : (w.shows.acts ≡ v.shows.acts) ⊎ (w.shows.acts ≡ other.shows.acts)
  pub agrees : IsConsistent w.shows
  pub same : IsSamePlace v w

pub record IsSeatAccepted (v : SeatShows) (r : ReceiptShows) (w : SeatShows) : Type 0 where
  pub accepted : IsAccepted v.shows r w.shows
  pub agrees : IsConsistent w.shows
  pub same : IsSamePlace v w

abbrev pub seen_seat : SeatShows → ReceiptShows
seen_seat s = seen_by s.shows

-- ---- opened
-- each shard has a fresh seat at it, of the keeper of that shard. The shards are those from this
-- one on
abbrev pub AreOpened : TableId → ℕ → List Which → List SeatShows → Type 0
AreOpened id k [] [] = Unit {0}
AreOpened id k (s ∷ ss) (v ∷ vs) =
    (v.shows ≡ fresh_pass s) × (v.ledger ≡ Some id) × (v.shard ≡ k) × AreOpened id (suc k) ss vs
AreOpened id k ss vs = ⊥
