-- The shard of a name: a hash of the name's bytes, scaled to the number of shards.
use Rattle.std.specs.Prelude.{ℕ, ◌*◌, ◌/◌, ◌%◌, ◌^◌, List, length, drop, fold, bit_xor}
use Rattle.std.specs.Int.{w64, Width, rotate_left, from_le_bytes}
use Rattle.std.specs.Simd.{first_chunks}

-- the hash after one number more: the step of FxHash with 64 bits
abbrev pub hash_step : ℕ → ℕ → ℕ
hash_step h n = (bit_xor (rotate_left w64 h 5) n * 0x517cc1b727220a95) % 2 ^ 64

-- the hash after these pieces, each a number of this width with its low byte first
abbrev pub hash_pieces : Width → ℕ → List (List ℕ) → ℕ
hash_pieces w h pieces = fold (λ x piece. hash_step x (from_le_bytes w piece)) h pieces

-- as many pieces of n bytes as there are
abbrev pub chunks_of : ℕ → List ℕ → List (List ℕ)
chunks_of n bytes = first_chunks n (length bytes / n) bytes

-- the bytes behind these pieces
abbrev pub bytes_behind : ℕ → List ℕ → List ℕ
bytes_behind n bytes = drop (length bytes / n * n) bytes

-- the pieces of eight bytes, and then the bytes behind them, one by one
unfoldable pub hash_of : List ℕ → ℕ
hash_of bytes = fold hash_step (hash_pieces w64 0 (chunks_of 8 bytes)) (bytes_behind 8 bytes)

-- the shard of a name among so many: the high half of the hash, scaled
abbrev pub shard_of : ℕ → List ℕ → ℕ
shard_of count n = hash_of n / 2 ^ 32 * count / 2 ^ 32
