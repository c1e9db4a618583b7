use Rattle.std.proofs.Common.{◌≡◌, ◌+◌, length, reverse, All, vec_len}
use Rattle.history.specs.Log.{call_limit}
use Rattle.ledger.specs.Acts.{new_keepers}
use Rattle.shared.specs.Passes.{Which}
use Rattle.sharded.specs.Seats.{AreOpened}
use Rattle.sharded.proofs.store.open_shards.Given as goal

abbrev pub invariant-loop-keeper : goal.invariant-loop-keeper
invariant-loop-keeper l = record {
  keepers : l.keepers.items ≡ new_keepers l.ledger.table (length l.keepers.items);
  count : length l.keepers.items + length l.shards.items ≡ l.ledger.setup.count;
  stores : All (λ (s : Which). (s.width ≡ l.width) × (s.limit ≡ call_limit l.limit)) (reverse l.shards.items);
  opened : AreOpened l.ledger.table (length l.keepers.items) (reverse l.shards.items) (reverse l.seats.items);
}

abbrev pub decreases-loop-keeper : goal.decreases-loop-keeper
decreases-loop-keeper l = vec_len l.keepers
