use Rattle.std.proofs.Common.{◌≡◌, ◌∙◌, ℕ, List, [], ◌∷◌, Option, None, Some, IfSome, Vec, Global, length, sym, ap, subst, rules, arith}
use Rattle.std.specs.Prelude.{slice_index_or, slice_set}
use Rattle.std.specs.Option.{option_map}
use Rattle.std.proofs.lemmas.List.{get_or_default}
use Rattle.sealed.specs.declared.value.Sealed.{Sealed}
use Rattle.sealed.specs.Rebuilding.{IsChosenPart}
use Rattle.lent.specs.Stash.{IsWholeFragment}
use Rattle.lent.proofs.Stashing.{without_part, nothing_there, whole_part}
use Rattle.lent.proofs.building.decode_from.Goals as goal

pub returns-clause-ok : goal.returns-clause-ok
returns-clause-ok c =
    let s : Sealed = c.args.grant.now.sealed.value in
    let f : ℕ = c.args.part.fragment in
    let parts : List (Option (Vec ℕ Global)) = c.in-Ok.parts in
    let four : length parts ≡ 4 = search rules in
    let wide : c.get-width.result ≡ s.width = c.get-width.ensures.value ∙ ap (λ (t : Sealed). t.width) c.deref-sealed.ensures in
    let known : IsChosenPart s c.args.part.stripe 0 c.get-width.result (Some f) (option_map (λ v. v.items) (slice_index_or parts 0 None)) =
    subst (λ (t : Sealed). IsChosenPart t c.args.part.stripe 0 c.get-width.result (Some f) (option_map (λ v. v.items) (slice_index_or parts 0 None))) c.deref-sealed.ensures (c.in-Ok.ensures 0 (omega arith)) in
    let is : slice_index_or parts 0 None ≡ Some c.in-Some.bytes = get_or_default parts 0 None c.index-stash-0.result (omega (arith, four)) ∙ sym c.take.ensures.value ∙ c.in-Some.is in
    subst (λ o. IfSome o (λ bytes. IsWholeFragment s c.args.part.stripe f bytes.items)) is
    (whole_part (λ v. v.items) s c.args.part.stripe c.get-width.result (Some f) (slice_index_or parts 0 None) wide known)

pub returns-clause-stash : goal.returns-clause-stash
returns-clause-stash c i l =
    let s : Sealed = c.args.grant.now.sealed.value in
    let parts : List (Option (Vec ℕ Global)) = c.in-Ok.parts in
    let chosen : List (Option ℕ) = Some c.args.part.fragment ∷ c.next_lost-second.result.0 ∷ c.next_lost-third.result.0 ∷ c.next_lost-fourth.result.0 ∷ [] in
    let wide : c.get-width.result ≡ s.width = c.get-width.ensures.value ∙ ap (λ (t : Sealed). t.width) c.deref-sealed.ensures in
    subst (λ o. IfSome (slice_index_or chosen i None) (λ f. IfSome (slice_index_or (slice_set parts 0 o) i None) (λ bytes. IsWholeFragment s c.args.part.stripe f bytes.items))) (sym c.take.ensures.after)
    (without_part (λ n o. IfSome (slice_index_or chosen n None) (λ f. IfSome o (λ bytes. IsWholeFragment s c.args.part.stripe f bytes.items))) parts 0
    (λ n. nothing_there {A = Vec ℕ Global} (slice_index_or chosen n None) (λ f bytes. IsWholeFragment s c.args.part.stripe f bytes.items))
    (λ n m. whole_part (λ v. v.items) s c.args.part.stripe c.get-width.result (slice_index_or chosen n None) (slice_index_or parts n None) wide
    (subst (λ (t : Sealed). IsChosenPart t c.args.part.stripe 0 c.get-width.result (slice_index_or chosen n None) (option_map (λ v. v.items) (slice_index_or parts n None))) c.deref-sealed.ensures (c.in-Ok.ensures n m)))
    i l)
