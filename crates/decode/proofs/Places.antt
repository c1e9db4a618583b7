-- The syndromes of the sixteen lists are those of the stripe.
use Rattle.lrc_code.specs.declared.Code.{Code}
use Rattle.lrc_code.specs.declared.Code.TheVariants.{Wide, Small}
use Rattle.std.proofs.Common.{◌≡◌, ℕ, ◌+◌, ◌-◌, ◌<◌, ◌≤◌, cond, bit_xor, List, [], Option, Some, None, Bor, IfSome, IsSomeAnd, MatchOption, length, get_or, refl, sym, ap, ap₂, ◌∙◌, arith}
use Rattle.std.specs.Prelude.{slice_range, slice_index, slice_index_or}
use Rattle.std.specs.Option.{is_none}
use Rattle.std.proofs.lemmas.List.Edits.{length-between, get_or-between}
use Rattle.std.proofs.lemmas.Grind.{same_number_lists}
use lib.Bits.{xor_zero_r}
use Rattle.gf256.specs.Field.{product}
use Rattle.gf256.proofs.Laws.{product-zero_right}
use Rattle.kernels.specs.Parities.{parity, parity_coefficients}
use Rattle.kernels.proofs.GroupLemmas.{each_of_four, at_below}
use Rattle.kernels.proofs.Sums.{xor_sum_same}
use Rattle.lrc_code.specs.Code.{fragment_count, xor_sum, weight, weights, IsColumn}
use Rattle.lrc_code.specs.Column.{parity_of}
use Rattle.lrc_code.specs.Stripe.{slot, bytes_of, is_absent, byte_at, Rebuilds}
use Rattle.lrc_code.proofs.Columns.{equation}
use Rattle.lrc_code.proofs.Stripes.{same_inside}
use Rattle.syndromes.specs.Syndromes.{column_at, HasSums}
use Rattle.syndromes.specs.Syndromes.{wide_syndrome as syndrome_of_lists}
use Rattle.decode.specs.Syndrome.{syndrome, AreShares}
use Rattle.decode.specs.Decoding.{IsDecodable, IsDecoded, fragment_in_place, byte_in_place}
use Rattle.decode.proofs.Equations.{remainder_bytes}

-- the parities of twelve lists are those of the wide code
wide_parity : (b : ℕ → ℕ) (e : ℕ) → e < 4 → parity e b ≡ parity_of Wide e b
unfolding xor_sum weight weights
wide_parity b = each_of_four (λ e. parity e b ≡ parity_of Wide e b) refl refl refl refl

abbrev coefficient : ℕ → ℕ → ℕ
coefficient e i = slice_index (slice_index_or parity_coefficients e []) i

-- the first three lists of each group count for the small code as its data do
first_weights : (e : ℕ) → e < 4 → (i : ℕ) → i < 3 → coefficient e i ≡ weight Small e i
unfolding weight weights
first_weights = each_of_four (λ e. (i : ℕ) → i < 3 → coefficient e i ≡ weight Small e i)
    (at_below (λ i. coefficient 0 i ≡ weight Small 0 i) 3 (((tt, refl), refl), refl))
    (at_below (λ i. coefficient 1 i ≡ weight Small 1 i) 3 (((tt, refl), refl), refl))
    (at_below (λ i. coefficient 2 i ≡ weight Small 2 i) 3 (((tt, refl), refl), refl))
    (at_below (λ i. coefficient 3 i ≡ weight Small 3 i) 3 (((tt, refl), refl), refl))

second_weights : (e : ℕ) → e < 4 → (i : ℕ) → i < 3 → coefficient e (6 + i) ≡ weight Small e (3 + i)
unfolding weight weights
second_weights = each_of_four (λ e. (i : ℕ) → i < 3 → coefficient e (6 + i) ≡ weight Small e (3 + i))
    (at_below (λ i. coefficient 0 (6 + i) ≡ weight Small 0 (3 + i)) 3 (((tt, refl), refl), refl))
    (at_below (λ i. coefficient 1 (6 + i) ≡ weight Small 1 (3 + i)) 3 (((tt, refl), refl), refl))
    (at_below (λ i. coefficient 2 (6 + i) ≡ weight Small 2 (3 + i)) 3 (((tt, refl), refl), refl))
    (at_below (λ i. coefficient 3 (6 + i) ≡ weight Small 3 (3 + i)) 3 (((tt, refl), refl), refl))

three_zeros : (s a b c : ℕ) → a ≡ 0 → b ≡ 0 → c ≡ 0 → bit_xor (bit_xor (bit_xor s a) b) c ≡ s
three_zeros s a b c ea eb ec = ap₂ bit_xor (ap₂ bit_xor (ap (bit_xor s) ea ∙ xor_zero_r s) eb ∙ xor_zero_r s) ec ∙ xor_zero_r s

-- a sum of twelve in which the last three of each six count for nothing
six_of_twelve : (g h : ℕ → ℕ) → g 0 ≡ h 0 → g 1 ≡ h 1 → g 2 ≡ h 2 → g 3 ≡ 0 → g 4 ≡ 0 → g 5 ≡ 0 → g 6 ≡ h 3 → g 7 ≡ h 4 → g 8 ≡ h 5 → g 9 ≡ 0 → g 10 ≡ 0 → g 11 ≡ 0
    → xor_sum 12 g ≡ xor_sum 6 h
unfolding xor_sum
six_of_twelve g h e0 e1 e2 e3 e4 e5 e6 e7 e8 e9 e10 e11 =
    let first : xor_sum 6 g ≡ xor_sum 3 h = three_zeros (xor_sum 3 g) (g 3) (g 4) (g 5) e3 e4 e5 ∙ ap₂ bit_xor (ap₂ bit_xor (ap (bit_xor 0) e0) e1) e2 in
    three_zeros (xor_sum 9 g) (g 9) (g 10) (g 11) e9 e10 e11
    ∙ ap₂ bit_xor (ap₂ bit_xor (ap₂ bit_xor first e6) e7) e8

small_parity : (w b : ℕ → ℕ) → ((p : ℕ) → p < 16 → w p ≡ byte_in_place (fragment_in_place Small p) b) → (e : ℕ) → e < 4 → parity e w ≡ parity_of Small e b
small_parity w b at e l =
    let none : (p : ℕ) → w p ≡ 0 → product (coefficient e p) (w p) ≡ 0 = λ p z. ap (product (coefficient e p)) z ∙ product-zero_right (coefficient e p) in
    six_of_twelve (λ p. product (coefficient e p) (w p)) (λ i. product (weight Small e i) (b i))
    (ap₂ product (first_weights e l 0 (omega arith)) (at 0 (omega arith)))
    (ap₂ product (first_weights e l 1 (omega arith)) (at 1 (omega arith)))
    (ap₂ product (first_weights e l 2 (omega arith)) (at 2 (omega arith)))
    (none 3 (at 3 (omega arith))) (none 4 (at 4 (omega arith))) (none 5 (at 5 (omega arith)))
    (ap₂ product (second_weights e l 0 (omega arith)) (at 6 (omega arith)))
    (ap₂ product (second_weights e l 1 (omega arith)) (at 7 (omega arith)))
    (ap₂ product (second_weights e l 2 (omega arith)) (at 8 (omega arith)))
    (none 9 (at 9 (omega arith))) (none 10 (at 10 (omega arith))) (none 11 (at 11 (omega arith)))

-- bytes at their places have the syndromes of the code
pub placed_syndrome : (code : Code) (w b : ℕ → ℕ) → ((p : ℕ) → p < 16 → w p ≡ byte_in_place (fragment_in_place code p) b) → ((i : ℕ) → i < fragment_count code → b i < 256)
    → (e : ℕ) → e < 4 → syndrome_of_lists e w ≡ syndrome code e b
placed_syndrome Wide w b at bytes e l =
    ap₂ bit_xor (xor_sum_same 12 _ _ (λ i m. ap (product (coefficient e i)) (at i (omega arith))) ∙ wide_parity b e l) (at (12 + e) (omega arith))
    ∙ sym (equation Wide b bytes e l)
placed_syndrome Small w b at bytes e l =
    ap₂ bit_xor (small_parity w b at e l)
    (each_of_four (λ e. w (12 + e) ≡ b (6 + e)) (at 12 (omega arith)) (at 13 (omega arith)) (at 14 (omega arith)) (at 15 (omega arith)) e l)
    ∙ sym (equation Small b bytes e l)

-- a fragment that is present has the stripe's byte, and one that is absent none
byte_left : (o : Option (Bor (List ℕ))) (xs : List ℕ) (from to k : ℕ) → from + k < to → IfSome o (λ x. slice_range xs from to ≡ slice_range x.now from to)
    → slice_index (bytes_of o) (from + k) ≡ cond (is_none o) 0 (slice_index xs (from + k))
byte_left None xs from to k inside agrees = refl
byte_left (Some x) xs from to k inside agrees = same_inside x.now xs from to k inside (sym agrees)

-- sums of the syndromes by the shares of an absent fragment are its bytes
pub rebuilt_by : (code : Code) (fragments lists : List (Option (Bor (List ℕ)))) (f from to : ℕ) (shares bytes : List ℕ) → f < fragment_count code → from ≤ to
    → AreShares code (is_absent fragments) f shares → length bytes ≡ to - from → HasSums lists (Some shares) (to - from) bytes
    → ((p k : ℕ) → p < 16 → k < to - from → column_at lists k p ≡ byte_in_place (fragment_in_place code p) (byte_at fragments (from + k))) → Rebuilds code fragments f from to bytes
rebuilt_by code fragments lists f from to shares bytes fl order are long sums at w s wide is agrees =
    let reach : to ≤ length (s f) = let e = is.width f fl in omega arith in
    same_number_lists bytes (slice_range (s f) from to)
    (long ∙ sym (length-between (s f) from to reach))
    (λ k l.
    let here : k < to - from = omega (arith, long) in
    let column : ℕ → ℕ = λ i. slice_index (s i) (from + k) in
    let left : ℕ → ℕ = byte_at fragments (from + k) in
    let is_column : IsColumn code column = is.columns (from + k) (omega arith) in
    let remains = λ (i : ℕ) (il : i < fragment_count code). byte_left (slot fragments i) (s i) from to k (omega (arith, here)) (agrees i il) in
    sums k here
    ∙ xor_sum_same 4 _ _ (λ e el. ap (product (get_or shares e 0)) (placed_syndrome code (column_at lists k) left (λ p pl. at p k pl here) (remainder_bytes code (is_absent fragments) column left is_column remains) e el))
    ∙ sym (are column left is_column remains)
    ∙ sym (get_or-between (s f) from to k 0 (omega arith)))

-- a target that was made by shares
pub decoded : (code : Code) (fragments lists : List (Option (Bor (List ℕ)))) (chosen : Option ℕ) (shares : Option (List ℕ)) (from to : ℕ) (old new : List ℕ) → from ≤ to
    → IsDecodable code fragments chosen → MatchOption chosen (shares ≡ None) (λ f. IsSomeAnd shares (λ a. AreShares code (is_absent fragments) f a))
    → IfSome chosen (λ _. length old ≡ to - from) → length new ≡ length old → HasSums lists shares (to - from) new → (shares ≡ None → new ≡ old)
    → ((p k : ℕ) → p < 16 → k < to - from → column_at lists k p ≡ byte_in_place (fragment_in_place code p) (byte_at fragments (from + k))) → IsDecoded code fragments chosen from to old new
decoded code fragments lists None shares from to old new order known are room long sums kept at = kept are
decoded code fragments lists (Some f) None from to old new order known are room long sums kept at = absurd are
decoded code fragments lists (Some f) (Some a) from to old new order known are room long sums kept at =
    rebuilt_by code fragments lists f from to a new known.0 order are (long ∙ room) sums at
