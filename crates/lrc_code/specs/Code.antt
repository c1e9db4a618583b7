-- The codes LRC(12,2,2) and LRC(6,2,2): which bytes are a column, and which lost fragments are unrecoverable.
-- The form of the four equations is that of Huang et al., "Erasure Coding in Windows Azure Storage", USENIX ATC 2012; the
-- coefficients, the field's polynomial and the numbering of the fragments are this project's own.
use Rattle.std.specs.Prelude.{◌≡◌, ◌≢◌, ℕ, ◌<◌, Bool, true, false, cond, ◌==◌, List, [], ◌∷◌, slice_index, slice_index_or, ◌+◌, ◌-◌, ◌&&◌, ◌||◌, count_by}
use Rattle.std.specs.List.{list_any}
use Rattle.std.specs.Int.{bit_at}
use Rattle.gf256.specs.Field.{product}
unfoldable pub use Rattle.kernels.specs.Lists.{xor_sum}
use Rattle.lrc_code.specs.declared.Code.{Code}
use Rattle.lrc_code.specs.declared.Code.TheVariants.{Wide, Small}

-- ---- columns of any four equations
-- n bytes that meet the four equations in which fragment i weighs w 0 i to w 3 i
pub record IsColumnOf (n : ℕ) (w : ℕ → ℕ → ℕ) (c : ℕ → ℕ) : Type 0 where
  pub bytes : (i : ℕ) → i < n → c i < 256
  pub sums : (k : ℕ) → k < 4 → xor_sum n (λ i. product (w k i) (c i)) ≡ 0

-- two columns agree at every fragment that is left, and differ at the fragment f
pub record OpenBy (n : ℕ) (w : ℕ → ℕ → ℕ) (lost : ℕ → Bool) (f : ℕ) : Type 0 where
  pub inside : f < n
  pub one : ℕ → ℕ
  pub other : ℕ → ℕ
  pub one_is : IsColumnOf n w one
  pub other_is : IsColumnOf n w other
  pub agree : (i : ℕ) → i < n → lost i ≡ false → one i ≡ other i
  pub differ : one f ≢ other f

-- ---- the two codes
-- how many fragments a stripe has
abbrev pub fragment_count : Code → ℕ
fragment_count Wide = 16
fragment_count Small = 10

-- how many of them are data. After them come the four parities, one for each equation
abbrev pub data_count : Code → ℕ
data_count Wide = 12
data_count Small = 6

-- What the fragments weigh in the four equations. First come the data of the first group, then those of the second, then the local parities of
-- the two groups, then the two global parities. The last row has the squares of the third.
unfoldable pub weights : Code → List (List ℕ)
weights Wide =
    (1 ∷ 1 ∷ 1 ∷ 1 ∷ 1 ∷ 1 ∷ 0 ∷ 0 ∷ 0 ∷ 0 ∷ 0 ∷ 0 ∷ 1 ∷ 0 ∷ 0 ∷ 0 ∷ [])
    ∷ (0 ∷ 0 ∷ 0 ∷ 0 ∷ 0 ∷ 0 ∷ 1 ∷ 1 ∷ 1 ∷ 1 ∷ 1 ∷ 1 ∷ 0 ∷ 1 ∷ 0 ∷ 0 ∷ [])
    ∷ (0x01 ∷ 0x02 ∷ 0x03 ∷ 0x04 ∷ 0x05 ∷ 0x06 ∷ 0x10 ∷ 0x20 ∷ 0x30 ∷ 0x40 ∷ 0x50 ∷ 0x60 ∷ 0 ∷ 0 ∷ 1 ∷ 0 ∷ [])
    ∷ (0x01 ∷ 0x04 ∷ 0x05 ∷ 0x10 ∷ 0x11 ∷ 0x14 ∷ 0x1D ∷ 0x74 ∷ 0x69 ∷ 0xCD ∷ 0xD0 ∷ 0xB9 ∷ 0 ∷ 0 ∷ 0 ∷ 1 ∷ [])
    ∷ []
weights Small =
    (1 ∷ 1 ∷ 1 ∷ 0 ∷ 0 ∷ 0 ∷ 1 ∷ 0 ∷ 0 ∷ 0 ∷ [])
    ∷ (0 ∷ 0 ∷ 0 ∷ 1 ∷ 1 ∷ 1 ∷ 0 ∷ 1 ∷ 0 ∷ 0 ∷ [])
    ∷ (0x01 ∷ 0x02 ∷ 0x03 ∷ 0x10 ∷ 0x20 ∷ 0x30 ∷ 0 ∷ 0 ∷ 1 ∷ 0 ∷ [])
    ∷ (0x01 ∷ 0x04 ∷ 0x05 ∷ 0x1D ∷ 0x74 ∷ 0x69 ∷ 0 ∷ 0 ∷ 0 ∷ 1 ∷ [])
    ∷ []

unfoldable pub weight : Code → ℕ → ℕ → ℕ
weight code k i = slice_index (slice_index_or (weights code) k []) i

-- the bytes of a stripe at one place
abbrev pub IsColumn : Code → (ℕ → ℕ) → Type 0
IsColumn code c = IsColumnOf (fragment_count code) (weight code) c

-- the fragments left do not determine f
abbrev pub Open : Code → (ℕ → Bool) → ℕ → Type 0
Open code lost f = OpenBy (fragment_count code) (weight code) lost f

-- in each column the byte at f is the sum of the other bytes times r, and r weighs no lost fragment beside f
pub record Determines (code : Code) (lost : ℕ → Bool) (f : ℕ) (r : ℕ → ℕ) : Type 0 where
  pub bytes : (i : ℕ) → i < fragment_count code → r i < 256
  pub only_left : (i : ℕ) → i < fragment_count code → lost i ≡ true → i ≢ f → r i ≡ 0
  pub gives : (c : ℕ → ℕ) → IsColumn code c → c f ≡ xor_sum (fragment_count code) (λ i. cond (i == f) 0 (product (r i) (c i)))

-- the two groups, each with its local parity, and the global parities
abbrev pub first_group : Code → List ℕ
first_group Wide = 0 ∷ 1 ∷ 2 ∷ 3 ∷ 4 ∷ 5 ∷ 12 ∷ []
first_group Small = 0 ∷ 1 ∷ 2 ∷ 6 ∷ []

abbrev pub second_group : Code → List ℕ
second_group Wide = 6 ∷ 7 ∷ 8 ∷ 9 ∷ 10 ∷ 11 ∷ 13 ∷ []
second_group Small = 3 ∷ 4 ∷ 5 ∷ 7 ∷ []

abbrev pub globals : Code → List ℕ
globals Wide = 14 ∷ 15 ∷ []
globals Small = 8 ∷ 9 ∷ []

-- how many lost fragments the two global equations have to make up for: each group makes up for one of its own
unfoldable pub excess_of : Code → (ℕ → Bool) → ℕ
excess_of code lost = (count_by lost (first_group code) - 1) + (count_by lost (second_group code) - 1) + count_by lost (globals code)

-- f is lost, and the only lost fragment of the group
unfoldable pub is_only_lost_of : (ℕ → Bool) → List ℕ → ℕ → Bool
is_only_lost_of lost group f = lost f && (list_any (λ i. i == f) group && count_by lost group == 1)

-- f is alone lost in its group
unfoldable pub is_alone : Code → (ℕ → Bool) → ℕ → Bool
is_alone code lost f = is_only_lost_of lost (first_group code) f || is_only_lost_of lost (second_group code) f

-- whether a set of lost fragments, as its sixteen bits, has i
abbrev pub is_lost : ℕ → ℕ → Bool
is_lost set i = bit_at set i == 1

abbrev pub all_fragments : Code → List ℕ
all_fragments Wide = 0 ∷ 1 ∷ 2 ∷ 3 ∷ 4 ∷ 5 ∷ 6 ∷ 7 ∷ 8 ∷ 9 ∷ 10 ∷ 11 ∷ 12 ∷ 13 ∷ 14 ∷ 15 ∷ []
all_fragments Small = 0 ∷ 1 ∷ 2 ∷ 3 ∷ 4 ∷ 5 ∷ 6 ∷ 7 ∷ 8 ∷ 9 ∷ []
