-- Data with the four parities are a stripe.
use Rattle.std.proofs.Common.{◌≡◌, ℕ, zero, suc, ◌+◌, ◌-◌, ◌*◌, ◌<◌, ◌≤◌, List, [], ◌∷◌, ◌++◌, take, length, get_or, sym, ap, ap₂, ◌∙◌, subst, refl, arith, inl, inr, map, Bor}
use Rattle.std.proofs.lemmas.Bool.{cases_eq, cases_lt}
use Rattle.std.proofs.lemmas.List.{get_or_append_left, get_or-append-add, append_assoc, append-nil, length-append}
use Rattle.std.proofs.Math.ListN.{get_or-map}
use Rattle.std.proofs.Math.Seq.{take-append_seam, drop-append_seam}
use Rattle.std.proofs.Math.ListN.{drop}
use Rattle.std.specs.List.{All, slice_range}
use Rattle.std.proofs.lemmas.List.Elements.{All-get_or}
use Rattle.gf256.specs.Field.{product}
use Rattle.kernels.specs.Lists.{combined}
use Rattle.kernels.specs.Parities.{AreParitiesOfTwelve}
use Rattle.kernels.proofs.GroupLemmas.{each_of_four}
use Rattle.lrc_code.specs.declared.Code.{Code}
use Rattle.lrc_code.specs.declared.Code.TheVariants.{Wide, Small}
use Rattle.lrc_code.specs.Code.{fragment_count, xor_sum, weight, weights, data_count, IsColumn}
use Rattle.lrc_code.specs.Column.{column, parity_of}
use Rattle.lrc_code.specs.Stripe.{IsStripe, list_at, bytes_at, AreParities, quarters}
use Rattle.lrc_code.proofs.Columns.{column_is, column_data, column_parity, count_with_parities}
use Rattle.kernels.proofs.Sums.{xor_sum_same}

-- bytes that agree with those of a column are one
column_same : (code : Code) (c d : ℕ → ℕ) → IsColumn code d → ((i : ℕ) → i < fragment_count code → c i ≡ d i) → IsColumn code c
column_same code c d column same = record {
  bytes = λ i l. subst (λ x. x < 256) (sym (same i l)) (column.bytes i l);
  sums = λ e l. xor_sum_same (fragment_count code) _ _ (λ i m. ap (product (weight code e i)) (same i m)) ∙ column.sums e l;
}

-- a fact of each of four lists
pub four_in : (P : ℕ → List ℕ → Type 0) (a b c d : List ℕ) → P 0 a → P 1 b → P 2 c → P 3 d → (j : ℕ) → j < 4 → P j (list_at (a ∷ b ∷ c ∷ d ∷ []) j)
four_in P a b c d pa pb pc pd zero l = pa
four_in P a b c d pa pb pc pd (suc zero) l = pb
four_in P a b c d pa pb pc pd (suc (suc zero)) l = pc
four_in P a b c d pa pb pc pd (suc (suc (suc zero))) l = pd
four_in P a b c d pa pb pc pd (suc (suc (suc (suc j)))) l = absurd (omega arith)

-- what four calls say of one equation each
pub four_parities : (code : Code) (sources : List (List ℕ)) (w : ℕ) (a b c d : List ℕ)
    → ((k : ℕ) → k < w → get_or a k 0 ≡ parity_of code 0 (bytes_at sources k)) → ((k : ℕ) → k < w → get_or b k 0 ≡ parity_of code 1 (bytes_at sources k))
    → ((k : ℕ) → k < w → get_or c k 0 ≡ parity_of code 2 (bytes_at sources k)) → ((k : ℕ) → k < w → get_or d k 0 ≡ parity_of code 3 (bytes_at sources k))
    → (k : ℕ) → k < w → AreParities code sources (a ∷ b ∷ c ∷ d ∷ []) k
four_parities code sources w a b c d pa pb pc pd k l =
    four_in (λ e p. get_or p k 0 ≡ parity_of code e (bytes_at sources k)) a b c d (pa k l) (pb k l) (pc k l) (pd k l)

module _ (code : Code) (w : ℕ) (sources ps : List (List ℕ)) (count : length sources ≡ data_count code)
    (long : (i : ℕ) → i < data_count code → length (list_at sources i) ≡ w) (bytes : (i k : ℕ) → i < data_count code → k < w → get_or (list_at sources i) k 0 < 256)
    (as_long : (j : ℕ) → j < 4 → length (list_at ps j) ≡ w) (are : (k : ℕ) → k < w → AreParities code sources ps k) where
  at_data : (i : ℕ) → i < data_count code → list_at (sources ++ ps) i ≡ list_at sources i
  at_data i l = get_or_append_left sources ps [] i (subst (λ n. i < n) (sym count) l)

  at_parity : (j : ℕ) → list_at (sources ++ ps) (data_count code + j) ≡ list_at ps j
  at_parity j = ap (λ n. list_at (sources ++ ps) (n + j)) (sym count) ∙ get_or-append-add sources ps j []

  split : (P : ℕ → Type 0) → ((i : ℕ) → i < data_count code → P i) → ((j : ℕ) → j < 4 → P (data_count code + j)) → (i : ℕ) → i < fragment_count code → P i
  split P f g i l =
      elim (cases_lt i (data_count code)) [
        | inl inside ↦ f i inside
        | inr outside ↦ subst P (let e : data_count code + (i - data_count code) ≡ i = omega arith in e) (g (i - data_count code) (let n = count_with_parities code in omega arith))
      ]

  -- data with their parities are a stripe
  pub encoded : IsStripe code w (list_at (sources ++ ps))
  encoded = record {
    width = split (λ i. length (list_at (sources ++ ps) i) ≡ w) (λ i l. ap (length {A = ℕ}) (at_data i l) ∙ long i l) (λ j l. ap (length {A = ℕ}) (at_parity j) ∙ as_long j l);
    columns = λ k kl. column_same code (bytes_at (sources ++ ps) k) (column code (bytes_at sources k)) (column_is code (bytes_at sources k) (λ i l. bytes i k l kl))
        (split (λ i. bytes_at (sources ++ ps) k i ≡ column code (bytes_at sources k) i)
        (λ i l. ap (λ x. get_or x k 0) (at_data i l) ∙ sym (column_data code (bytes_at sources k) i l))
        (λ j l. ap (λ x. get_or x k 0) (at_parity j) ∙ are k kl j l ∙ sym (column_parity code (bytes_at sources k) j)));
  }

pub fits_more : (sources : List (Bor (List ℕ))) (i : ℕ) → ((j k : ℕ) → j < i → k < length (list_at (map (λ s. s.now) sources) j) → get_or (list_at (map (λ s. s.now) sources) j) k 0 < 256)
    → ((k : ℕ) → k < length (get_or sources i (record { ref_ptr = (0, 0); now = [] })).now → get_or (get_or sources i (record { ref_ptr = (0, 0); now = [] })).now k 0 < 256)
    → (j k : ℕ) → j < i + 1 → k < length (list_at (map (λ s. s.now) sources) j) → get_or (list_at (map (λ s. s.now) sources) j) k 0 < 256
fits_more sources i before here j k jl kl =
    let f : Bor (List ℕ) → List ℕ = λ s. s.now in
    let last : list_at (map (λ s. s.now) sources) i ≡ (get_or sources i (record { ref_ptr = (0, 0); now = [] })).now = get_or-map f sources i (record { ref_ptr = (0, 0); now = [] }) in
    elim (cases_eq j i) [
      | inl same ↦
          let is : list_at (map (λ s. s.now) sources) j ≡ (get_or sources i (record { ref_ptr = (0, 0); now = [] })).now = ap (list_at (map (λ s. s.now) sources)) same ∙ last in
          subst (λ xs. get_or xs k 0 < 256) (sym is) (here k (subst (λ xs. k < length {A = ℕ} xs) is kl))
      | inr differ ↦ before j k (omega arith) kl
    ]

-- every slice has w places
pub long_at : (sources : List (Bor (List ℕ))) (w : ℕ) → All (λ s. length s.now ≡ w) sources → (i : ℕ) → i < length sources → length (list_at (map (λ s. s.now) sources) i) ≡ w
long_at sources w all i l =
    let f : Bor (List ℕ) → List ℕ = λ s. s.now in
    ap (length {A = ℕ}) (get_or-map f sources i (record { ref_ptr = (0, 0); now = [] })) ∙ All-get_or (λ s. length s.now ≡ w) sources i (record { ref_ptr = (0, 0); now = [] }) l all

-- equal parities, the same stripe
pub stripe_same : (code : Code) (sources : List (List ℕ)) (p q g h p' q' g' h' : List ℕ) (n w : ℕ) → p' ≡ p → q' ≡ q → g' ≡ g → h' ≡ h → n ≡ w
    → IsStripe code n (list_at (sources ++ p ∷ q ∷ g ∷ h ∷ [])) → IsStripe code w (list_at (sources ++ p' ∷ q' ∷ g' ∷ h' ∷ []))
stripe_same code sources p q g h p' q' g' h' n w ep eq eg eh en stripe =
    let four : p ∷ q ∷ g ∷ h ∷ [] ≡ p' ∷ q' ∷ g' ∷ h' ∷ [] = rw ep (rw eq (rw eg (rw eh refl))) in
    subst (λ ps. IsStripe code w (list_at (sources ++ ps))) four (subst (λ n. IsStripe code n (list_at (sources ++ p ∷ q ∷ g ∷ h ∷ []))) en stripe)

-- the parities of twelve lists are those of LRC(12,2,2)
pub wide_parities : (sources parities : List (List ℕ)) (k : ℕ) → AreParitiesOfTwelve sources parities k → AreParities Wide sources parities k
unfolding xor_sum weight weights
wide_parities sources parities k are =
    each_of_four (λ e. bytes_at parities k e ≡ parity_of Wide e (bytes_at sources k)) (are 0 (omega arith)) (are 1 (omega arith)) (are 2 (omega arith)) (are 3 (omega arith))

pub data_count-le : (code : Code) → data_count code ≤ 12
data_count-le Wide = omega arith
data_count-le Small = omega arith

-- what an equation gives, where the coefficients are its weights
pub parity_by_weights : (code : Code) (e : ℕ) (coefficients : List ℕ) (x : ℕ → ℕ) → length coefficients ≡ data_count code
    → ((i : ℕ) → i < data_count code → get_or coefficients i 0 ≡ weight code e i) → combined coefficients x ≡ parity_of code e x
parity_by_weights code e coefficients x long same =
    ap (λ n. xor_sum n (λ i. product (get_or coefficients i 0) (x i))) long
    ∙ xor_sum_same (data_count code) (λ i. product (get_or coefficients i 0) (x i)) (λ i. product (weight code e i) (x i)) (λ i l. ap (λ c. product c (x i)) (same i l))

-- a list that is written back over one of its length
pub written_back : (n : ℕ) (xs ys : List ℕ) → length xs ≡ n → take n (xs ++ ys) ≡ xs
written_back n xs ys e = ap (λ k. take k (xs ++ ys)) (sym e) ∙ take-append_seam xs ys

-- ---- four lists that stand one after the other
part_between : (xs ys zs : List ℕ) (from to : ℕ) → length xs ≡ from → length ys ≡ to - from → slice_range (xs ++ (ys ++ zs)) from to ≡ ys
part_between xs ys zs from to start long =
    ap₂ (λ (n : ℕ) (rest : List ℕ). take n rest) (sym long) (ap (λ n. drop n (xs ++ (ys ++ zs))) (sym start) ∙ drop-append_seam xs (ys ++ zs)) ∙ take-append_seam ys zs

pub quarters_joined : (w : ℕ) (a b c d : List ℕ) → length a ≡ w → length b ≡ w → length c ≡ w → length d ≡ w → quarters w (a ++ (b ++ (c ++ d))) ≡ a ∷ b ∷ c ∷ d ∷ []
quarters_joined w a b c d la lb lc ld =
    let ab : a ++ (b ++ (c ++ d)) ≡ (a ++ b) ++ (c ++ d) = sym (append_assoc a b (c ++ d)) in
    let abc : a ++ (b ++ (c ++ d)) ≡ ((a ++ b) ++ c) ++ (d ++ []) = ab ∙ sym (append_assoc (a ++ b) c d) ∙ ap (λ xs. ((a ++ b) ++ c) ++ xs) (sym (append-nil d)) in
    let two : length (a ++ b) ≡ 2 * w = omega (arith, length-append a b) in
    let three : length ((a ++ b) ++ c) ≡ 3 * w = omega (arith, two, length-append (a ++ b) c) in
    ap₂ (λ (x : List ℕ) (xs : List (List ℕ)). x ∷ xs) (part_between [] a (b ++ (c ++ d)) 0 w refl (omega (arith, la)))
    (ap₂ (λ (x : List ℕ) (xs : List (List ℕ)). x ∷ xs) (part_between a b (c ++ d) w (2 * w) la (omega (arith, lb)))
    (ap₂ (λ (x : List ℕ) (xs : List (List ℕ)). x ∷ xs) (ap (λ xs. slice_range xs (2 * w) (3 * w)) ab ∙ part_between (a ++ b) c d (2 * w) (3 * w) two (omega (arith, lc)))
    (ap (λ (x : List ℕ). x ∷ []) (ap (λ xs. slice_range xs (3 * w) (4 * w)) abc ∙ part_between ((a ++ b) ++ c) d [] (3 * w) (4 * w) three (omega (arith, ld))))))
