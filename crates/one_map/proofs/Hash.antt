-- The shard of a name is one of the shards.
use Rattle.std.proofs.Common.{ℕ, ◌*◌, ◌/◌, ◌<◌, ◌^◌, List, [], ◌∷◌, fold, subst, arith, lit<}
use Rattle.std.proofs.Math.Nat.{mod-lt, div-lt_iff_lt-mul, mul-lt-mul_of_pos_right, mul_comm}
use Rattle.std.specs.Int.{Width, w64, from_le_bytes}
use Rattle.one_map.specs.Hash.{shard_of, hash_of, hash_step, hash_pieces, chunks_of, bytes_behind}

fold_below : {X : Type 0} (f : ℕ → X → ℕ) (m h : ℕ) → ((a : ℕ) (x : X) → f a x < m) → h < m → (xs : List X) → fold f h xs < m
fold_below f m h each l [] = l
fold_below f m h each l (x ∷ xs) = fold_below f m (f h x) each (each h x) xs

next_below : (h n : ℕ) → hash_step h n < 2 ^ 64
next_below h n = mod-lt _ (lit< tt)

after_below : (w : Width) (h : ℕ) (pieces : List (List ℕ)) → h < 2 ^ 64 → hash_pieces w h pieces < 2 ^ 64
after_below w h [] l = l
after_below w h (piece ∷ pieces) l = after_below w (hash_step h (from_le_bytes w piece)) pieces (next_below h (from_le_bytes w piece))

pub hash_below : (n : List ℕ) → hash_of n < 2 ^ 64
unfolding hash_of
hash_below n =
    fold_below hash_step (2 ^ 64) (hash_pieces w64 0 (chunks_of 8 n)) next_below (after_below w64 0 (chunks_of 8 n) (lit< tt)) (bytes_behind 8 n)

scaled : (a count : ℕ) → 0 < count → a < 2 ^ 32 → a * count / 2 ^ 32 < count
scaled a count some l =
    let k : 0 < 2 ^ 32 = lit< tt in
    let less : a * count < 2 ^ 32 * count = mul-lt-mul_of_pos_right l some in
    (div-lt_iff_lt-mul k).1 (subst (λ x. a * count < x) (mul_comm (2 ^ 32) count) less)

pub shard_below_count : (count : ℕ) (n : List ℕ) → 0 < count → shard_of count n < count
shard_below_count count n some = scaled (hash_of n / 2 ^ 32) count some (let l = hash_below n in omega arith)
