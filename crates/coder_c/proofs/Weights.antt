-- The parities of data that are 1 at one fragment and 0 elsewhere are what the fragment weighs.
use Rattle.std.proofs.Common.{◌≡◌, ℕ, zero, suc, ◌+◌, ◌<◌, ◌≤◌, cond, eqb, List, [], ◌∷◌, ◌++◌, length, take, map, slice_index, refl, sym, ap, ◌∙◌, arith, All, Bor}
use Rattle.std.proofs.lemmas.Bool.{eq-eqb, ne_eqb}
use Rattle.std.proofs.lemmas.List.{get_or_append_left, get_or-append-add, get_or-take, length-take-le, get_or-map}
use Rattle.std.proofs.lemmas.List.Elements.{All-take}
use Rattle.gf256.specs.Field.{product}
use Rattle.gf256.proofs.Laws.{product-one_right, product-zero_right}
use Rattle.lrc_code.specs.declared.Code.{Code}
use Rattle.lrc_code.specs.declared.Code.TheVariants.{Wide, Small}
use Rattle.lrc_code.specs.Code.{data_count, weight}
use Rattle.lrc_code.specs.Stripe.{IsStripe, list_at}
use Rattle.lrc_code.proofs.Columns.{column_only, column_parity, count_with_parities}
use Rattle.kernels.proofs.Sums.{xor_sum_one}
use Rattle.lrc_code.proofs.Witness.{weight-lt}

-- 1 at the fragment, and 0 elsewhere
abbrev pub unit : ℕ → ℕ → ℕ
unit f i = cond (eqb i f) 1 0

weighed : (code : Code) (s : ℕ → List ℕ) (f w : ℕ) → f < data_count code → 0 < w → IsStripe code w s → ((i : ℕ) → i < data_count code → slice_index (s i) 0 ≡ unit f i)
    → (e : ℕ) → e < 4 → slice_index (s (data_count code + e)) 0 ≡ weight code e f
weighed code s f w l pos is at e el =
    let small : weight code e f < 256 = weight-lt code e f el (omega (arith, count_with_parities code)) in
    column_only code (λ i. slice_index (s i) 0) (unit f) (is.columns 0 pos) at (data_count code + e) (omega (arith, count_with_parities code))
    ∙ column_parity code (unit f) e
    ∙ xor_sum_one (data_count code) f (λ i. product (weight code e i) (unit f i)) l (λ i m other. rw (ne_eqb i f other) (product-zero_right (weight code e i)))
    ∙ rw (eq-eqb f f refl) (product-one_right (weight code e f) small)

pub weights : (code : Code) (sources parities : List (List ℕ)) (f w : ℕ) → f < data_count code → 0 < w → data_count code ≤ length sources
    → ((i : ℕ) → i < data_count code → list_at sources i ≡ unit f i ∷ []) → IsStripe code w (list_at (take (data_count code) sources ++ parities))
    → (e : ℕ) → e < 4 → slice_index (list_at parities e) 0 ≡ weight code e f
weights code sources parities f w l pos long at is e el =
    let count : length (take (data_count code) sources) ≡ data_count code = length-take-le (data_count code) sources long in
    ap (λ xs. slice_index xs 0) (sym (ap (λ n. list_at (take (data_count code) sources ++ parities) (n + e)) (sym count) ∙ get_or-append-add (take (data_count code) sources) parities e []))
    ∙ weighed code (list_at (take (data_count code) sources ++ parities)) f w l pos is
    (λ i m. ap (λ xs. slice_index xs 0) (get_or_append_left (take (data_count code) sources) parities [] i (omega (arith, count)) ∙ get_or-take (data_count code) sources i [] m ∙ at i m))
    e el

-- each is one byte long
pub unit_long : (sources : List (Bor (List ℕ))) (f n : ℕ) → length sources ≡ 12 → ((i : ℕ) → i < 12 → list_at (map (λ s. s.now) sources) i ≡ unit f i ∷ []) → All (λ s. length s.now ≡ 1) (take n sources)
unit_long sources f n count at =
    let now : Bor (List ℕ) → List ℕ = λ s. s.now in
    All-take (λ s. length s.now ≡ 1) n sources (λ k d l. ap (length {A = ℕ}) (sym (get_or-map now sources k d [] l) ∙ at k (omega (arith, count))))

pub at_most_twelve : (code : Code) → data_count code ≤ 12
at_most_twelve Wide = omega arith
at_most_twelve Small = omega arith

-- the first byte of each of four lists
pub firsts : (a b c d : List ℕ) (e : ℕ) → e < 4 → slice_index (slice_index a 0 ∷ slice_index b 0 ∷ slice_index c 0 ∷ slice_index d 0 ∷ []) e ≡ slice_index (list_at (a ∷ b ∷ c ∷ d ∷ []) e) 0
firsts a b c d zero l = refl
firsts a b c d (suc zero) l = refl
firsts a b c d (suc (suc zero)) l = refl
firsts a b c d (suc (suc (suc zero))) l = refl
firsts a b c d (suc (suc (suc (suc e)))) l = absurd (omega arith)
