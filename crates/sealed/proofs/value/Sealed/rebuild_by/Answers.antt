use Rattle.std.proofs.Common.{◌≡◌, ℕ, List, Bor, Result, Ok, Err, length, take, get_or, sym, ap, subst, ◌∙◌, arith, length-take-le, get_or-take}
use Rattle.std.specs.Prelude.{IfOk}
use Rattle.lrc_code.proofs.CombineLemmas.{nothing}
use Rattle.lrc_code.proofs.CombineLemmas.{fragment_at as term_at}
use Rattle.sealed.specs.Rebuilding.{IsPartOf}
use Rattle.sealed.proofs.Rebuilt.{IsSource, part_by_recipe}
use Rattle.sealed.proofs.value.Sealed.rebuild_by.Goals as goal

-- what holds of a result's value by two facts of it
both : {V E : Type 0} (r : Result V E) (P Q R : V → Type 0) → ((v : V) → P v → Q v → R v) → IfOk r P → IfOk r Q → IfOk r R
both (Ok v) P Q R gives p q = gives v p q
both (Err e) P Q R gives p q = tt

pub returns-clause-ok : goal.returns-clause-ok
returns-clause-ok c =
    let n : ℕ = length c.as_slice-terms.result.now in
    let sources : List (Bor (List ℕ)) = take n c.loop-i.sources in
    let count : length c.as_slice-terms.result.now ≡ length c.args.recipe.now.items = ap length c.as_slice-terms.ensures.value in
    both c.combine.result _ _ (λ bytes. IsPartOf c.args.self.now c.args.stripe c.args.f c.args.from c.args.to bytes.items)
    (λ bytes long sums.
    part_by_recipe c.args.self.now c.args.stripe c.args.f c.args.from c.args.to c.args.recipe.now.items sources bytes.items c.requires.lost.has.0 c.requires.lost.has.1 c.requires.range.0 c.requires.range.1
    c.requires.recipe (length-take-le n c.loop-i.sources (omega (arith, c.loop-i.invariant.count)) ∙ count)
    (λ i l. subst (λ terms. IsSource c.args.self.now c.args.stripe (term_at terms i) c.args.from c.args.to (get_or sources i nothing)) c.as_slice-terms.ensures.value
    (subst (IsSource c.args.self.now c.args.stripe (term_at c.as_slice-terms.result.now i) c.args.from c.args.to) (sym (get_or-take n c.loop-i.sources i nothing (omega (arith, count)))) (c.loop-i.invariant.are i (omega (arith, count)))))
    long sums)
    c.combine.ensures.long c.combine.ensures.sums
