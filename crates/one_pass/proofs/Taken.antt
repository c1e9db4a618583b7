-- The syndromes that are taken, and sums of them.
use Rattle.std.proofs.Common.{◌≡◌, ℕ, ◌+◌, ◌<◌, Bool, true, false, List, [], Option, Bor, length, map, get_or, bit_xor, sym, ap, ap₂, ◌∙◌, arith, inl, inr}
use Rattle.std.proofs.lemmas.Bool.{cases_Bool}
use Rattle.gf256.specs.Field.{product}
use Rattle.gf256.proofs.Laws.{product-zero_left}
use Rattle.kernels.specs.Lists.{combined, bytes_at}
use Rattle.kernels.specs.Parities.{parity_coefficients}
use Rattle.kernels.proofs.GroupLemmas.{each_of_four, nothing, source_is}
use Rattle.kernels.proofs.Sums.{xor_sum_same}
use Rattle.one_pass.specs.Syndromes.{wide_syndrome, column_at}

pub syndrome_same : (e : ℕ) (c d : ℕ → ℕ) → e < 4 → ((i : ℕ) → i < 16 → c i ≡ d i) → wide_syndrome e c ≡ wide_syndrome e d
syndrome_same e c d l same =
    ap₂ bit_xor (xor_sum_same 12 _ _ (λ i m. ap (product (get_or (get_or parity_coefficients e []) i 0)) (same i (omega arith)))) (same (12 + e) (omega arith))

-- the bytes of the parts of the lists
pub from_sources : (sources : List (Bor (List ℕ))) (lists : List (Option (Bor (List ℕ)))) (at n : ℕ) → ((i k : ℕ) → i < 16 → k < n → get_or (get_or sources i nothing).now k 0 ≡ column_at lists (at + k) i)
    → (e k : ℕ) → e < 4 → k < n → wide_syndrome e (bytes_at (map (λ s. s.now) sources) k) ≡ wide_syndrome e (column_at lists (at + k))
from_sources sources lists at n bytes e k l h =
    syndrome_same e _ _ l (λ i m. ap (λ xs. get_or xs k 0) (sym (source_is sources i)) ∙ bytes i k m h)

-- a term that is the same, or that counts for nothing on both sides
term_or_none : (a : List ℕ) (wanted : Bool) (e x y : ℕ) → (wanted ≡ true → x ≡ y) → (wanted ≡ false → get_or a e 0 ≡ 0) → product (get_or a e 0) x ≡ product (get_or a e 0) y
term_or_none a wanted e x y same none =
    elim (cases_Bool wanted) [
      | inl on ↦ ap (product (get_or a e 0)) (same on)
      | inr off ↦ ap (λ w. product w x) (none off) ∙ product-zero_left x ∙ sym (ap (λ w. product w y) (none off) ∙ product-zero_left y)
    ]

-- sums that take a syndrome only where it is wanted
pub combined_taken : (factors : List ℕ) (s t : ℕ → ℕ) (second third fourth : Bool) → length factors ≡ 4 → s 0 ≡ t 0 → (second ≡ true → s 1 ≡ t 1) → (third ≡ true → s 2 ≡ t 2) → (fourth ≡ true → s 3 ≡ t 3)
    → (second ≡ false → get_or factors 1 0 ≡ 0) → (third ≡ false → get_or factors 2 0 ≡ 0) → (fourth ≡ false → get_or factors 3 0 ≡ 0) → combined factors s ≡ combined factors t
combined_taken factors s t second third fourth four a b c d no_second no_third no_fourth =
    xor_sum_same (length factors) _ _ (λ e l. each_of_four (λ e. product (get_or factors e 0) (s e) ≡ product (get_or factors e 0) (t e))
    (ap (product (get_or factors 0 0)) a) (term_or_none factors second 1 (s 1) (t 1) b no_second)
    (term_or_none factors third 2 (s 2) (t 2) c no_third) (term_or_none factors fourth 3 (s 3) (t 3) d no_fourth) e (omega (arith, l, four)))
