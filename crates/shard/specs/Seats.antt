-- A seat at a shard: what a pass to a store shows, of which shard of which ledger.
use Rattle.std.specs.Prelude.{◌≡◌, ℕ, ◌<◌, List, [], map, Option, None, Some}
use Rattle.gate.specs.Places.{TableId, SeatState, ReceiptState, last_of, IsChain}
use Rattle.book.specs.Serial.{Act}
use Rattle.requests.specs.declared.boxed_book.BoxedBook.{BoxedBook}
use Rattle.requests.specs.Between.{MayFollow}
use Rattle.shared.specs.Passes.{Which, Shows, shows, IsPass, LastRecords}
use Rattle.ledger.specs.declared.held.Held.{Held}
use Rattle.ledger.specs.Acts.{LedgerState}
use Rattle.ledger.specs.Values.{MayFollowHeld, KeepsAll}
use Rattle.ledger_map.specs.declared.acts.ShardBook.{ShardBook}
use Rattle.ledger_map.specs.Books.{book_of, between_books}

-- What a clause sees of a seat: what a pass to a store shows, and the ledger and the shard of the
-- keeper beside the value that was left last
pub record SeatShows : Type 0 where
  pub shows : Shows
  pub ledger : Option TableId
  pub shard : ℕ

-- the books, without their keepers
abbrev pub books_in : List (Held ShardBook Act) → List BoxedBook
books_in list = map (λ h. h.value.0) list

-- a seat at a gate of books
abbrev pub plain : SeatState (Held ShardBook Act) → SeatState BoxedBook
plain p = record {
  gate = p.gate;
  list = books_in p.list;
  own = p.own;
  room = p.room;
  inside = p.inside;
  expected_length = p.expected_length;
}

abbrev pub plain_receipt : ReceiptState (Held ShardBook Act) → ReceiptState BoxedBook
plain_receipt r = record { gate = r.gate; list = books_in r.list }

abbrev pub ledger_beside : Option (Held ShardBook Act) → Option TableId
ledger_beside None = None
ledger_beside (Some h) = Some h.keeper.ledger

abbrev pub shard_beside : Option (Held ShardBook Act) → ℕ
shard_beside None = 0
shard_beside (Some h) = h.keeper.shard

abbrev pub seat_shows : SeatState (Held ShardBook Act) → ℕ → SeatShows
seat_shows p who = record {
  shows = shows (plain p) who;
  ledger = ledger_beside (last_of p.list);
  shard = shard_beside (last_of p.list);
}

abbrev pub book_follows : ShardBook → ShardBook → Type 0
book_follows a b = MayFollow (book_of a) (book_of b)

-- each value may follow the one before, and the keeper beside the last one has all acts
pub record IsKeptChain (list : List (Held ShardBook Act)) : Type 0 where
  pub chain : IsChain (MayFollowHeld between_books book_follows) list
  pub ledger : TableId
  pub shard : ℕ
  pub keeps : KeepsAll between_books ledger shard list

pub record IsSeat (p : SeatState (Held ShardBook Act)) : Type 0 where
  pub pass : IsPass (plain p)
  pub kept : IsKeptChain p.list

pub record IsSeatReceipt (r : ReceiptState (Held ShardBook Act)) : Type 0 where
  pub holds : LastRecords (books_in r.list)
  pub kept : IsKeptChain r.list

-- the shard is one of this ledger, whose setup has the width
pub record IsSeatOf (ledger : LedgerState) (s : SeatShows) : Type 0 where
  pub ledger_is : s.ledger ≡ Some ledger.table
  pub width : s.shows.store.width ≡ ledger.setup.about
  pub some : 0 < ledger.setup.count

-- what a pass with the label 0 shows that has seen nothing
abbrev pub fresh_shows : Which → Shows
fresh_shows s = record {
  store = s;
  who = 0;
  room = 64;
  seen = [];
  trimmed = 0;
  made = [];
  acts = [];
  did = [];
  visits = 0;
  seen_visits = 1;
  expected_visits = 0;
}
