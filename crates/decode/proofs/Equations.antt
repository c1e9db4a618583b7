-- Shares by which, of the lost fragments, one weighs 1 in the equations and the others nothing.
use Rattle.lrc_code.specs.declared.Code.{Code}
use Rattle.std.proofs.Common.{◌≡◌, ◌≢◌, ℕ, ◌<◌, Bool, true, cond, bit_xor, List, get_or, refl, sym, ap, ◌∙◌, subst, arith, inl, inr}
use Rattle.std.proofs.lemmas.Bool.{cases_Bool, eq-eqb, ne_eqb}
use Rattle.std.proofs.lemmas.Nat.{xor_of_8}
use lib.Bits.{xor_self, xor_zero_r}
use Rattle.gf256.specs.Field.{product}
use Rattle.gf256.proofs.Linear.{product-xor_right}
use Rattle.gf256.proofs.Laws.{product-lt, product_comm, product_assoc, product-zero_left, product-zero_right, product-one_right}
use Rattle.kernels.proofs.Sums.{xor_sum_same, xor_sum-xor, xor_sum-scaled, xor_sum_swap, xor_sum_one}
use Rattle.lrc_code.specs.Code.{fragment_count, xor_sum, weight, IsColumn}
use Rattle.lrc_code.specs.Factors.{factored_weight, WeighsAlone}
use Rattle.lrc_code.proofs.Witness.{weight-lt}
use Rattle.decode.specs.Syndrome.{syndrome, IsRemainderOf, AreShares}

-- what remains of a column is bytes
pub remainder_bytes : (code : Code) (lost : ℕ → Bool) (c b : ℕ → ℕ) → IsColumn code c → IsRemainderOf code lost c b → (i : ℕ) → i < fragment_count code → b i < 256
remainder_bytes code lost c b is left i l =
    elim (cases_Bool (lost i)) [
      | inl lo ↦ subst (λ x. x < 256) (sym (left i l ∙ ap (λ t. cond t 0 (c i)) lo)) (omega arith)
      | inr le ↦ subst (λ x. x < 256) (sym (left i l ∙ ap (λ t. cond t 0 (c i)) le)) (is.bytes i l)
    ]

module _ (code : Code) (lost : ℕ → Bool) (f : ℕ) (shares : List ℕ) (c b : ℕ → ℕ) (is : IsColumn code c) (left : IsRemainderOf code lost c b) where
  abbrev n : ℕ
  n = fragment_count code

  abbrev a : ℕ → ℕ
  a e = get_or shares e 0

  -- the lost bytes, and 0 for each remaining one
  abbrev d : ℕ → ℕ
  d i = bit_xor (c i) (b i)

  d-lt : (i : ℕ) → i < n → d i < 256
  d-lt i l = xor_of_8 _ _ (is.bytes i l) (remainder_bytes code lost c b is left i l)

  -- an equation has the same sum over the lost bytes as over the remaining ones
  same_sum : (e : ℕ) → e < 4 → syndrome code e b ≡ xor_sum n (λ i. product (weight code e i) (d i))
  same_sum e l =
      sym (xor_sum_same n _ _ (λ i m. product-xor_right (weight code e i) (c i) (b i))
      ∙ xor_sum-xor n (λ i. product (weight code e i) (c i)) (λ i. product (weight code e i) (b i))
      ∙ ap (λ x. bit_xor x (syndrome code e b)) (is.sums e l))

  -- what a fragment adds to the sum of the equations
  adds : ((e : ℕ) → e < 4 → a e < 256) → (i : ℕ) → i < n → xor_sum 4 (λ e. product (a e) (product (weight code e i) (d i))) ≡ product (d i) (factored_weight code shares i)
  adds small i l =
      xor_sum_same 4 _ _ (λ e m.
      let w : weight code e i < 256 = weight-lt code e i m (omega arith) in
      sym (product_assoc (a e) (weight code e i) (d i) (small e m) w (d-lt i l))
      ∙ product_comm (product (a e) (weight code e i)) (d i) (product-lt (a e) (weight code e i) (small e m) w) (d-lt i l))
      ∙ xor_sum-scaled 4 (d i) (λ e. product (a e) (weight code e i))

  adds_none : WeighsAlone code lost f shares → (i : ℕ) → i < n → i ≢ f → product (d i) (factored_weight code shares i) ≡ 0
  adds_none alone i l other =
      elim (cases_Bool (lost i)) [
        | inl lo ↦ ap (product (d i)) (alone i l lo ∙ ap (λ t. cond t 1 0) (ne_eqb i f other)) ∙ product-zero_right (d i)
        | inr le ↦ ap (λ x. product x (factored_weight code shares i)) (ap (bit_xor (c i)) (left i l ∙ ap (λ t. cond t 0 (c i)) le) ∙ xor_self (c i)) ∙ product-zero_left (factored_weight code shares i)
      ]

  pub sum_by_shares : ((e : ℕ) → e < 4 → a e < 256) → f < n → lost f ≡ true → WeighsAlone code lost f shares → c f ≡ xor_sum 4 (λ e. product (a e) (syndrome code e b))
  sum_by_shares small below gone alone =
      let own : d f ≡ c f = ap (bit_xor (c f)) (left f below ∙ ap (λ t. cond t 0 (c f)) gone) ∙ xor_zero_r (c f) in
      sym (xor_sum_same 4 _ _ (λ e l. ap (product (a e)) (same_sum e l) ∙ sym (xor_sum-scaled n (a e) (λ i. product (weight code e i) (d i))))
      ∙ xor_sum_swap 4 n (λ e i. product (a e) (product (weight code e i) (d i)))
      ∙ xor_sum_same n _ _ (adds small)
      ∙ xor_sum_one n f (λ i. product (d i) (factored_weight code shares i)) below (adds_none alone)
      ∙ ap (product (d f)) (alone f below gone ∙ ap (λ t. cond t 1 0) (eq-eqb f f refl))
      ∙ product-one_right (d f) (d-lt f below) ∙ own)

pub shares_alone : (code : Code) (lost : ℕ → Bool) (f : ℕ) (shares : List ℕ) → ((e : ℕ) → e < 4 → get_or shares e 0 < 256) → f < fragment_count code → lost f ≡ true → WeighsAlone code lost f shares
    → AreShares code lost f shares
shares_alone code lost f shares small below gone alone c b is left = sum_by_shares code lost f shares c b is left small below gone alone
