use Rattle.std.proofs.Common.{◌≡◌, ℕ, ◌+◌, ◌<◌, [], ◌∷◌, List, bit_xor, map, get_or, slice_index, sym, ap, ◌∙◌, arith}
use Rattle.gf256.specs.Field.{product}
use Rattle.kernels.specs.Lists.{bytes_at, list_at}
use Rattle.kernels.specs.Parities.{parity}
use Rattle.kernels.proofs.GroupLemmas.{each_of_four, source_is}
use Rattle.kernels.proofs.Sums.{xor_sum_same}
use Rattle.syndromes.specs.Syndromes.{wide_syndrome, column_at}
use Rattle.syndromes.proofs.blocks.write_syndromes.Goals as goal

pub returns : goal.returns
returns c e k el kl =
    let sources : List (List ℕ) = map (λ s. s.now) c.loop-i.sources in
    let column : ℕ → ℕ = column_at c.args.lists.now (c.args.at + k) in
    let parities = c.write_parities.new in
    let at_source : (i : ℕ) → i < 12 → bytes_at sources k i ≡ column i =
    λ i l. ap (λ xs. get_or xs k 0) (sym (source_is c.loop-i.sources i)) ∙ c.loop-i.invariant.bytes i k (omega arith) kl in
    let is = λ (j : ℕ) (l : j < 4).
    c.write_parities.ensures k (omega (arith, kl, c.write_parities.auto.first, c.requires.same)) j l
    ∙ xor_sum_same 12 _ _ (λ i m. ap (product (get_or (get_or Rattle.kernels.specs.Parities.parity_coefficients j []) i 0)) (at_source i m)) in
    each_of_four (λ j. slice_index (list_at (c.add_part.new.target ∷ c.add_part-2.new.target ∷ c.add_part-3.new.target ∷ c.add_part-4.new.target ∷ []) j) k ≡ wide_syndrome j column)
    (c.add_part.ensures k (omega (arith, kl, c.add_part.auto.target, c.write_parities.auto.first, c.requires.same)) ∙ ap (λ x. bit_xor x (column 12)) (is 0 (omega arith)))
    (c.add_part-2.ensures k (omega (arith, kl, c.add_part-2.auto.target, c.write_parities.auto.second, c.requires.same_second)) ∙ ap (λ x. bit_xor x (column 13)) (is 1 (omega arith)))
    (c.add_part-3.ensures k (omega (arith, kl, c.add_part-3.auto.target, c.write_parities.auto.third, c.requires.same_third)) ∙ ap (λ x. bit_xor x (column 14)) (is 2 (omega arith)))
    (c.add_part-4.ensures k (omega (arith, kl, c.add_part-4.auto.target, c.write_parities.auto.fourth, c.requires.same_fourth)) ∙ ap (λ x. bit_xor x (column 15)) (is 3 (omega arith)))
    e el
