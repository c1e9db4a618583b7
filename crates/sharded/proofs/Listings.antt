-- The list of all shards' acts goes on.
use Rattle.std.proofs.Common.{◌≡◌, ℕ, ◌+◌, ◌<◌, ◌≤◌, List, length, Option, ap, sym, ◌∙◌, arith}
use mathlib.Core.List.{IsPrefix}
use mathlib.Core.Logic.{dite}
use native.Mathlib.Decide.{dec_le}
use Rattle.gate.specs.Places.{times}
use Rattle.gate.proofs.Lists.{prefix_self, prefix_trans, prefix_length, times-append}
use Rattle.book.specs.Serial.{Act, Deed}
use Rattle.ledger.specs.declared.view.ShardAct.{ShardAct}
use Rattle.ledger.specs.Acts.{as_shard_acts, indices}
use Rattle.ledger.proofs.Lists.{times-indices, once_below-here, once_below-le}
use Rattle.shared.specs.Deeds.{act_if}
use Rattle.shard.specs.Listed.{IsListed}
use Rattle.sharded.specs.Passes.{PassShows}
use Rattle.sharded.specs.Listings.{who_at, listing, IsListedAt, IsLonger, IsDoneAfter}

pub longer_same : (v : PassShows) → IsLonger v v
longer_same v = (prefix_self v.list, prefix_self v.own)

-- a step more
pub longer_more : {k : ℕ} {acts had shown : List Act} (u v w : PassShows) → IsLonger u v → IsListed k acts had shown (listing v) (listing w) → IsLonger u w
longer_more {k} {acts} u v w so l = (
  prefix_trans u.list v.list w.list so.0 (prefix_trans v.list l.before w.list l.seen (as_shard_acts k acts, sym l.list)),
  prefix_trans u.own v.own w.own so.1 (indices (length l.before) (length acts), sym l.own),
)

-- indices from n on are not below n
none_below : (n m p : ℕ) → 0 < times p (indices n m) → n ≤ p
none_below n m p some = dite (dec_le n p) (λ past. past)
    (λ below.
    let all = times-indices n m p in
    let one = once_below-here n p (omega arith) in
    let most = once_below-le (n + m) p in
    absurd (omega arith))

-- what is done after a list was shown stands after it
pub done_after : (list : List (ShardAct Act)) (v w : PassShows) (k : ℕ) (deed : Option Deed) → IsPrefix list v.list → IsListedAt k deed v w → IsDoneAfter list v w
done_after list v w k deed first l =
    let acts : List Act = act_if (who_at v.shards k) deed in
    let more : IsPrefix v.list w.list = prefix_trans v.list l.before w.list l.seen (as_shard_acts k acts, sym l.list) in (
      prefix_trans list v.list w.list first more,
      (λ p fewer.
          let all : times p w.own ≡ times p v.own + times p (indices (length l.before) (length acts)) = ap (times p) l.own ∙ times-append p v.own (indices (length l.before) (length acts)) in
          let past = none_below (length l.before) (length acts) p (omega arith) in
          let le = prefix_length list v.list first in
          let le' = prefix_length v.list l.before l.seen in
          omega arith),
    )
