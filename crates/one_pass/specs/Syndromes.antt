-- The four syndromes of sixteen lists: twelve, and the four parities that they should have. Where
-- all are there, each syndrome is 0.
use Rattle.std.specs.Prelude.{◌≡◌, ℕ, ◌+◌, ◌<◌, ◌≤◌, bit_xor, List, Option, Some, None, IfSome}
use Rattle.std.specs.Prelude.{length, slice_index, slice_index_or}
use Rattle.std.specs.Borrow.{Bor}
use Rattle.gf256.specs.Field.{product}
use Rattle.kernels.specs.Lists.{xor_sum, bytes_at}
use Rattle.kernels.specs.Parities.{parity}

-- the byte of a list at place k, or 0 where the list is missing
abbrev pub list_byte : Option (Bor (List ℕ)) → ℕ → ℕ
list_byte None k = 0
list_byte (Some list) k = slice_index list.now k

-- the bytes of the lists at place k
abbrev pub column_at : List (Option (Bor (List ℕ))) → ℕ → ℕ → ℕ
column_at lists k i = list_byte (slice_index_or lists i None) k

-- what parity e of the first twelve bytes and the byte in its place differ by
abbrev pub wide_syndrome : ℕ → (ℕ → ℕ) → ℕ
wide_syndrome e column = bit_xor (parity e column) (column (12 + e))

-- the syndromes of the bytes of the lists at place k
abbrev pub syndromes_at : List (List ℕ) → ℕ → ℕ → ℕ
syndromes_at lists k e = wide_syndrome e (bytes_at lists k)

-- each of the lists that are there has at least n bytes
abbrev pub HaveBytes : List (Option (Bor (List ℕ))) → ℕ → Type 0
HaveBytes lists n = (i : ℕ) → i < 16 → IfSome (slice_index_or lists i None)
    (λ list. n ≤ length list.now)

-- the sum of four numbers, each times its share
abbrev pub sum_by : List ℕ → (ℕ → ℕ) → ℕ
sum_by shares s = xor_sum 4 (λ e. product (slice_index shares e) (s e))

-- where shares are given, the first n bytes are the sums of the four syndromes, each times its
-- share
abbrev pub HasSums : List (Option (Bor (List ℕ))) → Option (List ℕ) → ℕ → List ℕ → Type 0
HasSums lists shares n bytes = IfSome shares (λ a. (k : ℕ) → k < n
    → slice_index bytes k ≡ sum_by a (λ e. wide_syndrome e (column_at lists k)))
