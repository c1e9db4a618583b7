-- Books under the locks of shards.
use Rattle.std.specs.Prelude.{◌≡◌, List}
use Rattle.book.specs.Contents.{Contents}
use Rattle.book.specs.Serial.{Act, events_in}
use Rattle.requests.specs.Between.{acts_between, MayFollow, RecordsActs}
use Rattle.ledger.specs.declared.view.Setup.{Setup}
use Rattle.ledger.specs.declared.held.Held.{Held}
use Rattle.ledger_map.specs.Legal.{AreCallsAt, event_shard}
use Rattle.ledger_map.specs.declared.acts.ShardBook.{ShardBook}

abbrev pub book_of : ShardBook → Contents
book_of a = a.0.0.value

abbrev pub between_books : ShardBook → ShardBook → List Act
between_books a b = acts_between (book_of a) (book_of b)

-- the keeper beside a book has the acts that the book represents, and the width is the ledger's
pub record IsShard (setup : Setup) (h : Held ShardBook Act) : Type 0 where
  pub width : (book_of h.value).width ≡ setup.about
  pub holds : RecordsActs (book_of h.value) h.keeper.acts

-- a book may follow the one that was found. The calls between them are of the keeper's shard
abbrev pub MayLeave : Setup → Held ShardBook Act → ShardBook → Type 0
MayLeave setup found left =
    IsShard setup found × MayFollow (book_of found.value) (book_of left)
    × AreCallsAt (event_shard setup.count) found.keeper.shard
    (events_in (between_books found.value left))
