-- A plan gives the fragments that are chosen.
use Rattle.lrc_code.specs.declared.Code.{Code}
use Rattle.std.proofs.Common.{◌≡◌, ℕ, ◌+◌, ◌-◌, ◌<◌, ◌≤◌, Bool, true, false, cond, List, Option, Some, None, Bor, IfSome, IsSomeAnd, MatchOption, length, get_or, refl, sym, ap, ◌∙◌, subst, arith, inl, inr}
use Rattle.std.proofs.lemmas.Bool.{cases_Bool, true≢false}
use Rattle.gf256.specs.Field.{product}
use Rattle.gf256.proofs.Laws.{product-lt, product_comm, product_assoc, product-zero_right}
use Rattle.kernels.proofs.Sums.{xor_sum_same, xor_sum-scaled, xor_sum_swap}
use Rattle.lrc_code.specs.Code.{fragment_count, xor_sum, weight, is_lost, Open}
use Rattle.lrc_code.specs.Stripe.{is_absent, byte_at}
use Rattle.lrc_code.proofs.Witness.{weight-lt}
use Rattle.syndromes.specs.Syndromes.{column_at, HasSums, sum_by}
use Rattle.lrc_code.specs.Factors.{factored_weight}
use Rattle.decode.specs.Syndrome.{syndrome, IsRemainderOf, AreShares}
use Rattle.decode.specs.Decoding.{AreAbsent, IsDecodable, IsDecoded, fragment_in_place, byte_in_place}
use Rattle.decode.specs.DecodePlan.{IsPlanned, HasAllOf, WeighsNothing, at_target}
use Rattle.decode.proofs.Equations.{remainder_bytes}
use Rattle.decode.proofs.Places.{rebuilt_by}

-- the sum of the syndromes, fragment by fragment
module _ (code : Code) (shares : List ℕ) (small : (e : ℕ) → e < 4 → get_or shares e 0 < 256) (b : ℕ → ℕ) (bytes : (i : ℕ) → i < fragment_count code → b i < 256) where
  abbrev n : ℕ
  n = fragment_count code

  abbrev a : ℕ → ℕ
  a e = get_or shares e 0

  adds : (i : ℕ) → i < n → xor_sum 4 (λ e. product (a e) (product (weight code e i) (b i))) ≡ product (b i) (factored_weight code shares i)
  adds i l =
      xor_sum_same 4 _ _ (λ e m.
      let w : weight code e i < 256 = weight-lt code e i m (omega arith) in
      sym (product_assoc (a e) (weight code e i) (b i) (small e m) w (bytes i l))
      ∙ product_comm (product (a e) (weight code e i)) (b i) (product-lt (a e) (weight code e i) (small e m) w) (bytes i l))
      ∙ xor_sum-scaled 4 (b i) (λ e. product (a e) (weight code e i))

  pub by_fragments : sum_by shares (λ e. syndrome code e b) ≡ xor_sum n (λ i. product (b i) (factored_weight code shares i))
  by_fragments =
      xor_sum_same 4 _ _ (λ e l. sym (xor_sum-scaled n (a e) (λ i. product (weight code e i) (b i))))
      ∙ xor_sum_swap 4 n (λ e i. product (a e) (product (weight code e i) (b i)))
      ∙ xor_sum_same n _ _ adds

-- what remains of a column if these are lost
abbrev remainder : (ℕ → Bool) → (ℕ → ℕ) → ℕ → ℕ
remainder lost c i = cond (lost i) 0 (c i)

-- shares give a fragment also from fewer fragments, if those that are left out weigh nothing
pub from_fewer : (code : Code) (lost missing : ℕ → Bool) (f : ℕ) (shares : List ℕ) → ((e : ℕ) → e < 4 → get_or shares e 0 < 256)
    → ((i : ℕ) → i < fragment_count code → lost i ≡ true → missing i ≡ true)
    → ((i : ℕ) → i < fragment_count code → missing i ≡ true → lost i ≡ false → factored_weight code shares i ≡ 0)
    → AreShares code lost f shares → AreShares code missing f shares
from_fewer code lost missing f shares small all rest are c b is left =
    let d : ℕ → ℕ = remainder lost c in
    let remains : IsRemainderOf code lost c d = λ i l. refl in
    let same : (i : ℕ) → i < fragment_count code → product (d i) (factored_weight code shares i) ≡ product (b i) (factored_weight code shares i) =
    λ i l. elim (cases_Bool (missing i)) [
      | inl gone ↦ elim (cases_Bool (lost i)) [
        | inl lo ↦ ap (λ t. product t (factored_weight code shares i)) (ap (λ t. cond t 0 (c i)) lo ∙ sym (left i l ∙ ap (λ t. cond t 0 (c i)) gone))
        | inr le ↦ ap (product (d i)) (rest i l gone le) ∙ product-zero_right (d i) ∙ sym (ap (product (b i)) (rest i l gone le) ∙ product-zero_right (b i))
      ]
      | inr here ↦ elim (cases_Bool (lost i)) [
        | inl lo ↦ absurd (true≢false (sym (all i l lo) ∙ here))
        | inr le ↦ ap (λ t. product t (factored_weight code shares i)) (ap (λ t. cond t 0 (c i)) le ∙ sym (left i l ∙ ap (λ t. cond t 0 (c i)) here))
      ]
    ] in
    are c d is remains
    ∙ by_fragments code shares small d (remainder_bytes code lost c d is remains)
    ∙ xor_sum_same (fragment_count code) _ _ same
    ∙ sym (by_fragments code shares small b (remainder_bytes code missing c b is left))

-- a fragment that shares give is not open
pub given_not_open : (code : Code) (lost : ℕ → Bool) (f : ℕ) (shares : List ℕ) → AreShares code lost f shares → Open code lost f → ⊥
given_not_open code lost f shares are it =
    let b : ℕ → ℕ = remainder lost it.one in
    let of_other : IsRemainderOf code lost it.other b =
    λ i l. elim (cases_Bool (lost i)) [
      | inl lo ↦ ap (λ t. cond t 0 (it.one i)) lo ∙ sym (ap (λ t. cond t 0 (it.other i)) lo)
      | inr le ↦ ap (λ t. cond t 0 (it.one i)) le ∙ it.agree i l le ∙ sym (ap (λ t. cond t 0 (it.other i)) le)
    ] in
    it.differ (are it.one b it.one_is (λ i l. refl) ∙ sym (are it.other b it.other_is of_other))

-- the same set by its bits and by what is absent
pub shares_same : (code : Code) (lost missing : ℕ → Bool) (f : ℕ) (shares : List ℕ) → ((i : ℕ) → i < fragment_count code → lost i ≡ missing i)
    → AreShares code lost f shares → AreShares code missing f shares
shares_same code lost missing f shares same are c b is left = are c b is (λ i l. left i l ∙ ap (λ t. cond t 0 (c i)) (sym (same i l)))

-- a target that was made by the shares of a plan
pub decoded_by : (code : Code) (fragments lists : List (Option (Bor (List ℕ)))) (missing : ℕ) (chosen : Option ℕ) (shares : List ℕ) (used : Option (List ℕ)) (from to : ℕ) (old new : List ℕ) → from ≤ to
    → AreAbsent code fragments missing → IfSome chosen (λ f. IsPlanned code missing f shares) → MatchOption chosen (used ≡ None) (λ f. used ≡ Some shares)
    → IfSome chosen (λ _. length old ≡ to - from) → length new ≡ length old → HasSums lists used (to - from) new → (used ≡ None → new ≡ old)
    → ((p k : ℕ) → p < 16 → k < to - from → column_at lists k p ≡ byte_in_place (fragment_in_place code p) (byte_at fragments (from + k))) → IsDecoded code fragments chosen from to old new
decoded_by code fragments lists missing None shares used from to old new order absent known given room long sums kept at = kept given
decoded_by code fragments lists missing (Some f) shares used from to old new order absent known given room long sums kept at =
    rebuilt_by code fragments lists f from to shares new known.inside order
    (shares_same code (is_lost missing) (is_absent fragments) f shares absent known.gives)
    (long ∙ room) (subst (λ u. HasSums lists u (to - from) new) given sums) at

-- a fragment that is chosen is planned
pub planned : (code : Code) (lost missing : ℕ) (chosen : Option ℕ) (shares : List (List ℕ)) (k : ℕ) → k < 4 → IfSome chosen (λ f. (f < fragment_count code) × (is_lost lost f ≡ true))
    → IfSome chosen (λ f. AreShares code (is_lost lost) f (at_target shares k)) → ((e : ℕ) → e < 4 → get_or (at_target shares k) e 0 < 256)
    → HasAllOf code lost missing → WeighsNothing code lost missing shares → IfSome chosen (λ f. IsPlanned code missing f (at_target shares k))
planned code lost missing None shares k l known are small all rest = tt
planned code lost missing (Some f) shares k l known are small all rest = record {
  inside = known.0;
  gone = all f known.0 known.1;
  gives = from_fewer code (is_lost lost) (is_lost missing) f (at_target shares k) small all (λ i il gone le. rest i il gone le k l) are;
}

-- none that shares give is open
pub none_is_open : (code : Code) (lost : ℕ) (chosen : Option ℕ) (shares : List ℕ) → IfSome chosen (λ f. AreShares code (is_lost lost) f shares) → IsSomeAnd chosen (Open code (is_lost lost)) → ⊥
none_is_open code lost None shares are h = h
none_is_open code lost (Some f) shares are h = given_not_open code (is_lost lost) f shares are h

-- a fragment that is planned can be decoded
pub decodable_by : (code : Code) (fragments : List (Option (Bor (List ℕ)))) (missing : ℕ) (chosen : Option ℕ) (shares : List ℕ) → AreAbsent code fragments missing
    → IfSome chosen (λ f. IsPlanned code missing f shares) → IsDecodable code fragments chosen
decodable_by code fragments missing None shares absent known = tt
decodable_by code fragments missing (Some f) shares absent known =
    (known.inside, sym (absent f known.inside) ∙ known.gone, given_not_open code (is_absent fragments) f shares (shares_same code (is_lost missing) (is_absent fragments) f shares absent known.gives))
