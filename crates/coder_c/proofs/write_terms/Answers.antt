use Rattle.std.proofs.Common.{length, slice_index, get_or, refl, sym, arith}
use Rattle.std.proofs.lemmas.List.FromFn.{fill_by_all}
use Rattle.coder_c.proofs.Slots.{no_term, same_term}
use Rattle.coder_c.proofs.write_terms.Goals as goal

pub returns : goal.returns
returns c =
    let terms = c.args.terms.now in
    sym (fill_by_all (λ k. record { fragment = slice_index c.loop-i.fragments k; coefficient = slice_index c.loop-i.coefficients k }) terms (length terms) no_term refl
    (λ k l. same_term (get_or terms k no_term) _ _ (c.loop-i.invariant.fragment k (omega (arith, l))) (c.loop-i.invariant.coefficient k (omega (arith, l)))))
