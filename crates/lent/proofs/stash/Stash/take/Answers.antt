use Rattle.std.proofs.Common.{◌≡◌, ◌∙◌, ℕ, None, IfSome, Vec, Global, length, sym, subst, rules, arith}
use Rattle.std.specs.Prelude.{slice_index_or, slice_set}
use Rattle.std.proofs.lemmas.List.{get_or_default}
use Rattle.lent.specs.Stash.{IsWholeFragment}
use Rattle.lent.proofs.Stashing.{without_part, nothing_there, at_chosen}
use Rattle.lent.proofs.stash.Stash.take.Goals as goal

pub returns-in-Some-clause-unchanged : goal.returns-in-Some-clause-unchanged
returns-in-Some-clause-unchanged c s known i l =
    let old = c.args.self.now in
    subst (λ o. IfSome (slice_index_or old.chosen i None) (λ f. IfSome (slice_index_or (slice_set old.parts c.in-Some.i o) i None) (λ bytes. IsWholeFragment s old.stripe f bytes.items))) (sym c.take.ensures.after)
    (without_part (λ n o. IfSome (slice_index_or old.chosen n None) (λ f. IfSome o (λ bytes. IsWholeFragment s old.stripe f bytes.items))) old.parts c.in-Some.i
    (λ n. nothing_there {A = Vec ℕ Global} (slice_index_or old.chosen n None) (λ f bytes. IsWholeFragment s old.stripe f bytes.items)) known i l)

pub returns-in-Some-clause-whole : goal.returns-in-Some-clause-whole
returns-in-Some-clause-whole c s known =
    let old = c.args.self.now in
    let four : length old.parts ≡ 4 = search rules in
    let here = c.in-Some.ensures in
    let e : c.take.result ≡ slice_index_or old.parts c.in-Some.i None = c.take.ensures.value ∙ sym (get_or_default old.parts c.in-Some.i None c.index-self-i.result (omega (arith, here.0))) in
    let stripe : old.stripe ≡ c.args.stripe = search rules in
    subst (λ o. IfSome o (λ bytes. IsWholeFragment s c.args.stripe c.args.f bytes.items)) (sym e)
    (subst (λ n. IfSome (slice_index_or old.parts c.in-Some.i None) (λ bytes. IsWholeFragment s n c.args.f bytes.items)) stripe
    (at_chosen {V = Vec ℕ Global} (λ f bytes. IsWholeFragment s old.stripe f bytes.items) (slice_index_or old.chosen c.in-Some.i None) (slice_index_or old.parts c.in-Some.i None) c.args.f here.1 (known c.in-Some.i here.0)))
