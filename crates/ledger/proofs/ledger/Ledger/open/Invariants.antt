use Rattle.std.proofs.Common.{◌≡◌, ◌≤◌, vec_capacity, vec_len}
use Rattle.ledger.specs.Acts.{new_keepers}
use Rattle.ledger.proofs.Opening.{given_away}
use Rattle.ledger.proofs.ledger.Ledger.open.Given as goal

abbrev pub invariant-loop-shard : goal.invariant-loop-shard
invariant-loop-shard g l =
    (l.table_seat.table_id ≡ l.table.shared.table_id)
    × (l.table_seat.me ≡ given_away l.shard l.fn.setup.count)
    × (l.keepers.items ≡ new_keepers l.table.shared.table_id l.shard)
    × (l.fn.setup.count ≤ vec_capacity l.keepers)
    × (vec_len l.keepers ≡ l.shard)
