-- Sums of lists, each times its coefficient, of which some are left out.
use Rattle.std.proofs.Common.{◌≡◌, ℕ, ◌+◌, ◌<◌, ◌≤◌, List, length, map, take, get_or, bit_xor, Bor, sym, ap, ap₂, ◌∙◌, arith, inl, inr, length-take-le, get_or-take}
use Rattle.std.proofs.lemmas.Bool.{cases_eq}
use Rattle.std.proofs.lemmas.List.{get_or-set_same, get_or-set_other}
use Rattle.std.proofs.Math.ListN.{set}
use lib.Bits.{xor_zero_r}
use Rattle.gf256.specs.Field.{product}
use Rattle.gf256.proofs.Laws.{product-zero_left}
use Rattle.kernels.specs.Lists.{xor_sum, combined, bytes_at}
use Rattle.kernels.proofs.GroupLemmas.{nothing, source_is}
use Rattle.kernels.proofs.CombineLemmas.{xor_sum_more}
use Rattle.kernels.proofs.Sums.{xor_sum_same}

-- coefficient i times the byte of list i at place k
abbrev pub term : List ℕ → List (Bor (List ℕ)) → ℕ → ℕ → ℕ
term cs ss k i = product (get_or cs i 0) (get_or (get_or ss i nothing).now k 0)

-- one more list on both sides
pub sum_with : (cs fs : List ℕ) (ss ls : List (Bor (List ℕ))) (n e k : ℕ) → n < length cs → n < length ss
    → xor_sum n (term cs ss k) ≡ xor_sum e (term fs ls k)
    → xor_sum (n + 1) (term (set cs n (get_or fs e 0)) (set ss n (get_or ls e nothing)) k) ≡ xor_sum (e + 1) (term fs ls k)
sum_with cs fs ss ls n e k in_cs in_ss before =
    let c : ℕ = get_or fs e 0 in
    let s : Bor (List ℕ) = get_or ls e nothing in
    let kept : xor_sum n (term (set cs n c) (set ss n s) k) ≡ xor_sum n (term cs ss k) =
    xor_sum_same n _ _ (λ i l. ap₂ product (get_or-set_other cs n i c 0 (omega arith)) (ap (λ x. get_or x.now k 0) (get_or-set_other ss n i s nothing (omega arith)))) in
    xor_sum_more n (term (set cs n c) (set ss n s) k)
    ∙ ap₂ bit_xor (kept ∙ before) (ap₂ product (get_or-set_same cs n c 0 in_cs) (ap (λ x. get_or x.now k 0) (get_or-set_same ss n s nothing in_ss)))
    ∙ sym (xor_sum_more e (term fs ls k))

-- a list with the coefficient 0 is left out
pub sum_without : (cs fs : List ℕ) (ss ls : List (Bor (List ℕ))) (n e k : ℕ) → get_or fs e 0 ≡ 0
    → xor_sum n (term cs ss k) ≡ xor_sum e (term fs ls k) → xor_sum n (term cs ss k) ≡ xor_sum (e + 1) (term fs ls k)
sum_without cs fs ss ls n e k none before =
    before ∙ sym (xor_sum_more e (term fs ls k)
    ∙ ap (bit_xor (xor_sum e (term fs ls k))) (ap (λ c. product c (get_or (get_or ls e nothing).now k 0)) none ∙ product-zero_left (get_or (get_or ls e nothing).now k 0))
    ∙ xor_zero_r (xor_sum e (term fs ls k)))

-- lists of one length, and one more
pub long_more : (ss : List (Bor (List ℕ))) (n w : ℕ) (s : Bor (List ℕ)) → n < length ss → ((j : ℕ) → j < n → length (get_or ss j nothing).now ≡ w) → length s.now ≡ w
    → (j : ℕ) → j < n + 1 → length (get_or (set ss n s) j nothing).now ≡ w
long_more ss n w s inside before here j l =
    elim (cases_eq j n) [
      | inl same ↦ ap (λ i. length (get_or (set ss n s) i nothing).now) same ∙ ap (λ x. length x.now) (get_or-set_same ss n s nothing inside) ∙ here
      | inr other ↦ ap (λ x. length x.now) (get_or-set_other ss n j s nothing other) ∙ before j (omega arith)
    ]

pub combined_is : (cs : List ℕ) (ss : List (Bor (List ℕ))) (k : ℕ) → combined cs (bytes_at (map (λ s. s.now) ss) k) ≡ xor_sum (length cs) (term cs ss k)
combined_is cs ss k = xor_sum_same (length cs) _ _ (λ i l. ap (λ xs. product (get_or cs i 0) (get_or xs k 0)) (sym (source_is ss i)))

-- the first n lists
pub combined_first : (cs : List ℕ) (ss : List (Bor (List ℕ))) (n k : ℕ) → n ≤ length cs → combined (take n cs) (bytes_at (map (λ s. s.now) (take n ss)) k) ≡ xor_sum n (term cs ss k)
combined_first cs ss n k few =
    combined_is (take n cs) (take n ss) k
    ∙ ap (λ m. xor_sum m (term (take n cs) (take n ss) k)) (length-take-le n cs few)
    ∙ xor_sum_same n _ _ (λ i l. ap₂ product (get_or-take n cs i 0 l) (ap (λ s. get_or s.now k 0) (get_or-take n ss i nothing l)))
