-- A stripe's blocks, as pieces of its data and of its parities.
use Rattle.std.proofs.Common.{◌≡◌, ◌+◌, ◌-◌, ◌*◌, ◌<◌, ◌≤◌, ℕ, zero, suc, List, [], ◌∷◌, ◌++◌, Bor, length, get_or, map, take, ap, ap₂, sym, refl, ◌∙◌, subst, arith, inl, inr}
use Rattle.std.specs.Prelude.{slice_index, slice_index_or, slice_range}
use Rattle.std.proofs.lemmas.Bool.{cases_lt}
use Rattle.std.proofs.lemmas.List.{get_or_append_left, get_or-append_right, get_or-map, get_or-take, length-map, length-take-le}
use Rattle.gf256.specs.Field.{product}
use Rattle.kernels.proofs.Sums.{xor_sum_same}
use Rattle.lrc_code.specs.declared.Code.{Code}
use Rattle.lrc_code.specs.declared.Code.TheVariants.{Wide, Small}
use Rattle.lrc_code.specs.Code.{data_count, fragment_count, weight, IsColumn}
use Rattle.lrc_code.specs.Stripe.{IsStripe, list_at, quarters}
use Rattle.lrc_code.proofs.Parities.{quarters_joined}
use Rattle.fragments.specs.Data.{HasPieces}

-- ---- blocks that are equal one by one are one stripe
pub same_stripe : (code : Code) (w : ℕ) (t s : ℕ → List ℕ) → IsStripe code w t → ((i : ℕ) → i < fragment_count code → t i ≡ s i) → IsStripe code w s
same_stripe code w t s is e = record {
  width = λ i l. subst (λ xs. length xs ≡ w) (e i l) (is.width i l);
  columns = λ k below. record {
    bytes = λ i l. subst (λ xs. slice_index xs k < 256) (e i l) ((is.columns k below).bytes i l);
    sums = λ q four.
        xor_sum_same (fragment_count code) (λ i. product (weight code q i) (slice_index (s i) k)) (λ i. product (weight code q i) (slice_index (t i) k))
        (λ i l. ap (λ xs. product (weight code q i) (slice_index xs k)) (sym (e i l)))
        ∙ (is.columns k below).sums q four;
  };
}

-- ---- the parities
quarter_of : (w : ℕ) (bytes : List ℕ) (k : ℕ) → k < 4 → list_at (quarters w bytes) k ≡ slice_range bytes (w * k) (w * k + w)
quarter_of w bytes zero l = ap₂ (slice_range bytes) (let e : 0 ≡ w * 0 = omega arith in e) (let e : w ≡ w * 0 + w = omega arith in e)
quarter_of w bytes (suc zero) l = ap₂ (slice_range bytes) (let e : w ≡ w * 1 = omega arith in e) (let e : 2 * w ≡ w * 1 + w = omega arith in e)
quarter_of w bytes (suc (suc zero)) l = ap₂ (slice_range bytes) (let e : 2 * w ≡ w * 2 = omega arith in e) (let e : 3 * w ≡ w * 2 + w = omega arith in e)
quarter_of w bytes (suc (suc (suc zero))) l = ap₂ (slice_range bytes) (let e : 3 * w ≡ w * 3 = omega arith in e) (let e : 4 * w ≡ w * 3 + w = omega arith in e)
quarter_of w bytes (suc (suc (suc (suc k)))) l = absurd (omega arith)

some_item : {X : Type 0} (xs : List X) → 0 < length xs → X
some_item [] l = absurd (omega arith)
some_item (x ∷ xs) l = x

few : (code : Code) → data_count code ≤ 12
few Wide = omega arith
few Small = omega arith

four_more : (code : Code) → fragment_count code ≡ data_count code + 4
four_more Wide = refl
four_more Small = refl

-- ---- the slices of the data, with the parities behind them
module _ (code : Code) (d w : ℕ) (count : d ≡ data_count code) (bytes : List ℕ) (slices : List (Bor (List ℕ))) (twelve : length slices ≡ 12)
    (sliced : (f : ℕ) (other : Bor (List ℕ)) → f < data_count code → (slice_index_or slices f other).now ≡ slice_range bytes (w * f) (w * f + w)) where
  abbrev pub blocks : List (List ℕ) → List (List ℕ)
  blocks parities = map (λ s. s.now) (take d slices) ++ parities

  taken : length (take d slices) ≡ d
  taken = length-take-le d slices (let n = few code in omega arith)

  first : (parities : List (List ℕ)) (f : ℕ) → f < d → list_at (blocks parities) f ≡ slice_range bytes (w * f) (w * f + w)
  first parities f l =
      let some : Bor (List ℕ) = some_item slices (omega arith) in
      let inside : f < length (take d slices) = omega (arith, taken) in
      get_or_append_left (map (λ s. s.now) (take d slices)) parities [] f (let e = length-map (take d slices) (λ (s : Bor (List ℕ)). s.now) in omega arith)
      ∙ get_or-map (λ (s : Bor (List ℕ)). s.now) (take d slices) f some [] inside
      ∙ ap (λ (s : Bor (List ℕ)). s.now) (get_or-take d slices f some l)
      ∙ sliced f some (omega arith)

  second : (parities : List (List ℕ)) (k : ℕ) → list_at (blocks parities) (d + k) ≡ list_at parities k
  second parities k =
      get_or-append_right (map (λ s. s.now) (take d slices)) parities d (d + k) [] (length-map (take d slices) (λ s. s.now) ∙ taken) (omega arith)
      ∙ ap (λ i. get_or parities i []) (let e : d + k - d ≡ k = omega arith in e)

  pub pieces_are : (a b c e : List ℕ) → length a ≡ w → length b ≡ w → length c ≡ w → length e ≡ w
      → IsStripe code w (list_at (blocks (a ∷ b ∷ c ∷ e ∷ []))) → (s : ℕ → List ℕ) → HasPieces code w bytes (a ++ (b ++ (c ++ e))) s → IsStripe code w s
  pieces_are a b c e la lb lc le is s has =
      let parities : List (List ℕ) = a ∷ b ∷ c ∷ e ∷ [] in
      let joined : List ℕ = a ++ (b ++ (c ++ e)) in
      same_stripe code w (list_at (blocks parities)) s is (λ i l.
      elim (cases_lt i (data_count code)) [
        | inl below ↦ first parities i (omega arith) ∙ sym (has.of_bytes i below)
        | inr past ↦
            let k = i - data_count code in
            let here : data_count code + k ≡ i = omega arith in
            let four : k < 4 = (let n = four_more code in omega arith) in
            ap (list_at (blocks parities)) (let q : i ≡ d + k = omega arith in q)
            ∙ second parities k
            ∙ sym (ap (λ (parts : List (List ℕ)). list_at parts k) (quarters_joined w a b c e la lb lc le))
            ∙ quarter_of w joined k four
            ∙ sym (has.of_parities k four)
            ∙ ap s here
      ])
