-- The syndromes of a column, from the sums of its two groups.
use Rattle.std.proofs.Common.{◌≡◌, ℕ, ◌<◌, List, [], ◌∷◌, get_or, refl, ap, ◌∙◌}
use lib.Lanes.{Each1}
use Rattle.gf256.specs.Field.{product}
use Rattle.kernels.specs.Lists.{bytes_at}
use Rattle.kernels.specs.Parities.{parity, parity_coefficients}
use Rattle.kernels.proofs.GroupLemmas.{twelve, at_below, parities_of_groups, first_of, second_of, third_by_groups, fourth_by_groups}
use Rattle.kernels.proofs.Sums.{xor_sum_same}

-- what the sums of the two groups come to, equation by equation
abbrev pub by_groups : List ℕ → ℕ → ℕ
by_groups xs e = get_or (first_of xs ∷ second_of xs ∷ third_by_groups xs ∷ fourth_by_groups xs ∷ []) e 0

module _ (sources : List (List ℕ)) (place : ℕ) (fits : Each1 (λ x. x < 256) (twelve sources place)) where
  pub parity_by_groups : (e : ℕ) → e < 4 → by_groups (twelve sources place) e ≡ parity e (bytes_at sources place)
  parity_by_groups e l =
      parities_of_groups (twelve sources place) fits (by_groups (twelve sources place)) refl refl refl refl e l
      ∙ xor_sum_same 12 _ _ (λ i m. ap (product (get_or (get_or parity_coefficients e []) i 0)) (at_below (λ i. get_or (twelve sources place) i 0 ≡ bytes_at sources place i) 12 ((((((((((((tt, refl), refl), refl), refl), refl), refl), refl), refl), refl), refl), refl), refl) i m))
