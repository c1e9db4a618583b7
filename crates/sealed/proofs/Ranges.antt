-- Ranges of lists.
use Rattle.std.proofs.Common.{◌≡◌, ℕ, ◌+◌, ◌-◌, ◌<◌, ◌≤◌, ◌++◌, List, length, get_or, min, take, take_all, replicate, sym, ap, ◌∙◌, arith}
use Rattle.std.specs.Prelude.{slice_range}
use Rattle.std.proofs.Math.ListN.{drop}
use Rattle.sealed.specs.Packed.{IsPadded}
use Rattle.std.proofs.lemmas.Slice.{between_is}
use Rattle.std.proofs.lemmas.List.{take-append-le, length-append, length-replicate, append_assoc}
use Rattle.std.proofs.lemmas.Grind.{common_steps}

pub length_of_range : (xs : List ℕ) (from to : ℕ) → to ≤ length xs → length (slice_range xs from to) ≡ to - from
length_of_range xs from to h = grind (arith, common_steps)

pub item_of_range : (xs : List ℕ) (from to i : ℕ) → to ≤ length xs → i < to - from → get_or (slice_range xs from to) i 0 ≡ get_or xs (from + i) 0
item_of_range xs from to i h low = grind (arith, common_steps)

-- a list that others follow
pub range_before : (xs ys : List ℕ) (from to : ℕ) → to ≤ length xs → slice_range (xs ++ ys) from to ≡ slice_range xs from to
range_before xs ys from to inside = between_is (xs ++ ys) from to ∙ ap (drop from) (take-append-le to xs ys inside) ∙ sym (between_is xs from to)

-- and those
pub range_after : (xs ys : List ℕ) (from to : ℕ) → length xs ≡ from → from + length ys ≡ to → slice_range (xs ++ ys) from to ≡ ys
range_after xs ys from to start end = grind (arith, common_steps)

-- a range that the list's end may cut off
pub item_of_rest : (xs : List ℕ) (from to i : ℕ) → from ≤ length xs → i < to - from → get_or (slice_range xs from (min (length xs) to)) i 0 ≡ get_or xs (from + i) 0
item_of_rest xs from to i inside low = grind (arith, common_steps)

-- zeros after a list
pub padded_by : (b : List ℕ) (n : ℕ) → IsPadded b (b ++ replicate n 0)
padded_by b n = record {
  long = omega (arith, length-append b (replicate n 0));
  same = λ i. grind (arith, common_steps);
}

pub padded_on : (old b both new : List ℕ) (size end len : ℕ) → both ≡ old ++ b → new ≡ take end both ++ replicate (end - len) 0 → end ≡ length old + size → len ≡ length both → length b ≤ size
    → (more : List ℕ) × (length more ≡ size) × IsPadded b more × (new ≡ old ++ more)
padded_on old b both new size end len joined made ends long inside =
    let zeros : List ℕ = replicate (end - len) 0 in
    let both_long : length both ≡ length old + length b = ap length joined ∙ length-append old b in (
      b ++ zeros,
      omega (arith, length-append b zeros, length-replicate {A = ℕ} (end - len) 0),
      padded_by b (end - len),
      made ∙ ap (λ xs. xs ++ zeros) (take_all end both (omega arith) ∙ joined) ∙ append_assoc old b zeros,
    )
