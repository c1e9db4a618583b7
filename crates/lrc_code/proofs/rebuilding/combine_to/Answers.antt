use Rattle.std.proofs.Common.{◌≡◌, ℕ, ◌<◌, length, take, get_or, refl, sym, ap, ◌∙◌, arith, length-take-le, get_or-take}
use Rattle.std.proofs.lemmas.List.{length-set}
use Rattle.kernels.proofs.GroupLemmas.{nothing, source_is}
use Rattle.lrc_code.specs.declared.recipes.Term.{Term}
use Rattle.lrc_code.proofs.CombineLemmas.{set_more, no_term, coefficient_at, recipe_sum_is, mapped_at}
use Rattle.lrc_code.proofs.rebuilding.combine_to.Goals as goal

pub loop-i-preserved : goal.loop-i-preserved
loop-i-preserved c =
    let i : ℕ = c.loop-i.i in
    let inside : i < length c.loop-i.coefficients = omega (arith, c.loop-i.invariant.count) in
    record {
      count = length-set c.loop-i.coefficients i (coefficient_at c.args.terms.now i) ∙ c.loop-i.invariant.count;
      coefficients = set_more 0 (λ j x. x ≡ coefficient_at c.args.terms.now j) c.loop-i.coefficients i (coefficient_at c.args.terms.now i) inside c.loop-i.invariant.coefficients refl;
    }

pub returns : goal.returns
returns c k h column same =
    let n : ℕ = length c.args.terms.now in
    c.combine_lists.ensures k h
    ∙ recipe_sum_is c.args.terms.now column (take n c.loop-i.coefficients) _
    (length-take-le n c.loop-i.coefficients (omega (arith, c.loop-i.invariant.count)))
    (λ i l. get_or-take n c.loop-i.coefficients i 0 l ∙ c.loop-i.invariant.coefficients i (omega arith))
    (λ i l.
    sym (ap (λ xs. get_or xs k 0) (source_is c.args.sources.now i))
    ∙ mapped_at (λ s. get_or s.now k 0) (λ (term : Term). column term.fragment) c.args.sources.now c.args.terms.now nothing no_term i (omega (arith, c.requires.count)) l same)
