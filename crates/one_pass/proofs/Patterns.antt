-- Targets that are computed in one pass over the lists, at one place.
use Rattle.std.proofs.Common.{◌≡◌, ℕ, ◌<◌, Bool, true, false, List, [], ◌∷◌, length, get_or, bit_xor, refl, sym, ap, ap₂, ◌∙◌, arith}
use Rattle.std.proofs.lemmas.Bool.{true≢false}
use Rattle.gf256.specs.Field.{product}
use Rattle.gf256.proofs.Linear.{product-xor_left}
use Rattle.kernels.specs.Lists.{xor_sum, combined}
use Rattle.kernels.proofs.GroupLemmas.{each_of_four}
use Rattle.kernels.proofs.Sums.{xor_sum_same, xor_sum-xor}
use Rattle.one_pass.specs.declared.weights.Weights.{Weights}
use Rattle.one_pass.specs.Syndromes.{sum_by}
use Rattle.one_pass.specs.Weights.{AreWeights, UsesOnly, weighed, unit}
use Rattle.one_pass.specs.Patterns.{group, AreSums}
use Rattle.one_pass.proofs.Taken.{combined_taken}

-- the lanes are syndromes, where these are computed
pub record AreLanes (s t : ℕ → ℕ) (second third fourth : Bool) : Type 0 where
  pub first : s 0 ≡ t 0
  pub second_is : second ≡ true → s 1 ≡ t 1
  pub third_is : third ≡ true → s 2 ≡ t 2
  pub fourth_is : fourth ≡ true → s 3 ≡ t 3

pub length-unit : (e : ℕ) → e < 4 → length (unit e) ≡ 4
length-unit = each_of_four (λ e. length (unit e) ≡ 4) refl refl refl refl

pub below_four : (of_second : Bool) → group of_second < 4
below_four false = omega arith
below_four true = omega arith

-- a syndrome that is taken
pub plain_taken : (e : ℕ) (s t : ℕ → ℕ) (second third fourth : Bool) → e < 4 → AreLanes s t second third fourth → UsesOnly (unit e) second third fourth → combined (unit e) s ≡ combined (unit e) t
plain_taken e s t second third fourth l are takes = combined_taken (unit e) s t second third fourth (length-unit e l) are.first are.second_is are.third_is are.fourth_is takes.0 takes.1 takes.2

-- a weighted sum of syndromes
pub weighed_taken : (w : Weights) (s t : ℕ → ℕ) (second fourth : Bool) → AreLanes s t second true fourth → (second ≡ false → w.second.scale ≡ 0) → (fourth ≡ false → w.fourth.scale ≡ 0) → weighed w s ≡ weighed w t
weighed_taken w s t second fourth are no_second no_fourth =
    combined_taken (w.first.scale ∷ w.second.scale ∷ w.third.scale ∷ w.fourth.scale ∷ []) s t second true fourth refl are.first are.second_is are.third_is are.fourth_is no_second (λ off. absurd (true≢false off)) no_fourth

-- the syndrome of a group is taken
pub takes_group : (of_second third fourth : Bool) → UsesOnly (unit (group of_second)) of_second third fourth
takes_group false third fourth = ((λ off. refl), (λ off. refl), (λ off. refl))
takes_group true third fourth = ((λ off. absurd (true≢false off)), (λ off. refl), (λ off. refl))

pub takes_all : (factors : List ℕ) → UsesOnly factors true true true
takes_all factors = ((λ off. absurd (true≢false off)), (λ off. absurd (true≢false off)), (λ off. absurd (true≢false off)))

-- neither the third nor the fourth syndrome takes the second
pub takes_globals : (e : ℕ) → get_or (unit e) 1 0 ≡ 0 → UsesOnly (unit e) false true true
takes_globals e none = ((λ off. none), (λ off. absurd (true≢false off)), (λ off. absurd (true≢false off)))

-- the sum by the weights is that by the shares
pub by_weights : (w : Weights) (shares : List ℕ) (s t : ℕ → ℕ) → AreWeights w shares → ((e : ℕ) → e < 4 → s e ≡ t e) → weighed w s ≡ sum_by shares t
by_weights w shares s t are same = xor_sum_same 4 _ _ (λ e l. ap₂ product (are e l) (same e l))

pub by_unit : (e : ℕ) (s t : ℕ → ℕ) → e < 4 → ((i : ℕ) → i < 4 → s i ≡ t i) → combined (unit e) s ≡ sum_by (unit e) t
by_unit e s t l same =
    ap (λ n. xor_sum n (λ i. product (get_or (unit e) i 0) (s i))) (length-unit e l)
    ∙ xor_sum_same 4 _ _ (λ i m. ap (product (get_or (unit e) i 0)) (same i m))

pub sum_same : (shares : List ℕ) (s t : ℕ → ℕ) → ((e : ℕ) → e < 4 → s e ≡ t e) → sum_by shares s ≡ sum_by shares t
sum_same shares s t same = xor_sum_same 4 _ _ (λ e l. ap (product (get_or shares e 0)) (same e l))

-- the sum by sums of shares
pub by_sums : (sums a b : List ℕ) (t : ℕ → ℕ) → AreSums sums a b → bit_xor (sum_by a t) (sum_by b t) ≡ sum_by sums t
by_sums sums a b t are =
    sym (xor_sum_same 4 _ _ (λ e l. ap (λ x. product x (t e)) (are e l) ∙ product-xor_left (get_or a e 0) (get_or b e 0) (t e))
    ∙ xor_sum-xor 4 (λ e. product (get_or a e 0) (t e)) (λ e. product (get_or b e 0) (t e)))

pub by_three : (sums a b c : List ℕ) (t : ℕ → ℕ) → ((e : ℕ) → e < 4 → get_or sums e 0 ≡ bit_xor (bit_xor (get_or a e 0) (get_or b e 0)) (get_or c e 0))
    → bit_xor (bit_xor (sum_by a t) (sum_by b t)) (sum_by c t) ≡ sum_by sums t
by_three sums a b c t are =
    sym (xor_sum_same 4 _ _ (λ e l. ap (λ x. product x (t e)) (are e l) ∙ product-xor_left (bit_xor (get_or a e 0) (get_or b e 0)) (get_or c e 0) (t e)
    ∙ ap (λ x. bit_xor x (product (get_or c e 0) (t e))) (product-xor_left (get_or a e 0) (get_or b e 0) (t e)))
    ∙ xor_sum-xor 4 (λ e. bit_xor (product (get_or a e 0) (t e)) (product (get_or b e 0) (t e))) (λ e. product (get_or c e 0) (t e))
    ∙ ap (λ x. bit_xor x (sum_by c t)) (xor_sum-xor 4 (λ e. product (get_or a e 0) (t e)) (λ e. product (get_or b e 0) (t e))))
