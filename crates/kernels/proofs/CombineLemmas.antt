-- Sums of lists, one after the other.
use Rattle.std.proofs.Common.{◌≡◌, ℕ, ◌+◌, List, [], ◌∷◌, Bor, get_or, bit_xor, length, map, refl, sym, ap, ap₂, ◌∙◌, arith, add-one}
use lib.Bits.{xor_assoc}
use Rattle.gf256.specs.Field.{product}
use Rattle.kernels.specs.Lists.{xor_sum, bytes_at}
use Rattle.kernels.proofs.GroupLemmas.{nothing, source_is}

pub xor_sum_none : (g : ℕ → ℕ) → xor_sum 0 g ≡ 0
unfolding xor_sum
xor_sum_none g = refl

pub xor_sum_more : (n : ℕ) (g : ℕ → ℕ) → xor_sum (n + 1) g ≡ bit_xor (xor_sum n g) (g n)
unfolding xor_sum
xor_sum_more n g = rw add-one refl

-- the products at place k
abbrev pub products : List ℕ → List (Bor (List ℕ)) → ℕ → ℕ → ℕ
products coefficients sources k i = product (get_or coefficients i 0) (bytes_at (map (λ s. s.now) sources) k i)

-- a turn of a loop that adds the lists
pub added_more : (coefficients : List ℕ) (sources : List (Bor (List ℕ))) (k i old now new : ℕ)
    → now ≡ bit_xor old (xor_sum i (products coefficients sources k)) → new ≡ bit_xor now (product (get_or coefficients i 0) (get_or (get_or sources i nothing).now k 0))
    → new ≡ bit_xor old (xor_sum (i + 1) (products coefficients sources k))
added_more coefficients sources k i old now new before step =
    let g : ℕ → ℕ = products coefficients sources k in
    step
    ∙ ap₂ bit_xor before (ap (λ xs. product (get_or coefficients i 0) (get_or xs k 0)) (source_is sources i))
    ∙ xor_assoc old (xor_sum i g) (g i)
    ∙ ap (bit_xor old) (sym (xor_sum_more i g))

-- six elements, one by one
pub six_of : (sources : List (Bor (List ℕ))) → length sources ≡ 6
    → (get_or sources 0 nothing ∷ get_or sources 1 nothing ∷ get_or sources 2 nothing ∷ get_or sources 3 nothing ∷ get_or sources 4 nothing ∷ get_or sources 5 nothing ∷ []) ≡ sources
six_of [] long = absurd (omega arith)
six_of (a ∷ []) long = absurd (omega arith)
six_of (a ∷ b ∷ []) long = absurd (omega arith)
six_of (a ∷ b ∷ c ∷ []) long = absurd (omega arith)
six_of (a ∷ b ∷ c ∷ d ∷ []) long = absurd (omega arith)
six_of (a ∷ b ∷ c ∷ d ∷ e ∷ []) long = absurd (omega arith)
six_of (a ∷ b ∷ c ∷ d ∷ e ∷ f ∷ []) long = refl
six_of (a ∷ b ∷ c ∷ d ∷ e ∷ f ∷ g ∷ rest) long = absurd (omega arith)
