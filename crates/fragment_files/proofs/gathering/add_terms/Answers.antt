use Rattle.std.proofs.Common.{◌≡◌, ◌<◌, true, false, length, slice_index_or, sym, subst, inl, inr, arith}
use Rattle.std.specs.List.{All}
use Rattle.std.proofs.lemmas.Bool.{false≢true}
use Rattle.lrc_code.specs.Code.{first_group, second_group, is_lost}
use Rattle.lrc_code.proofs.Stripes.{recipe_not_open}
use Rattle.fragment_files.specs.Needed.{is_member}
use Rattle.fragment_files.proofs.Groups.{all_of_group}
use Rattle.fragment_files.proofs.gathering.add_terms.Goals as goal

pub returns-clause-lost : goal.returns-clause-lost
returns-clause-lost c =
    let recipe = c.in-Some.ensures.exact in
    (λ e. absurd (false≢true (sym e)), λ opened. absurd (recipe_not_open c.args.code (is_lost c.args.lost) c.args.f c.in-Some.recipe.items recipe opened))

pub returns-clause-added : goal.returns-clause-added
returns-clause-added c = λ i marked. elim (c.mark_all.ensures.added i marked) [
  | inl before ↦ inl before
  | inr (k, d, below, e) ↦
      let items = c.in-Some.recipe.items in
      let is = c.in-Some.ensures in
      let value = c.as_slice.ensures.value in
      let inside : k < length items = subst (λ xs. k < length xs) value below in
      let here : (slice_index_or items k d).fragment ≡ i = subst (λ xs. (slice_index_or xs k d).fragment ≡ i) value e in
      let term = is.exact.each k d inside in
      inr (record {
        below = omega (arith, term.0, here);
        remains = subst (λ n. is_lost c.args.lost n ≡ false) here term.1;
        first = λ alone. subst (λ n. is_member (first_group c.args.code) n ≡ true) here
            (subst (λ xs. All (λ term. is_member (first_group c.args.code) term.fragment ≡ true) xs) (sym (is.first alone)) (all_of_group (first_group c.args.code) c.args.f) k d inside);
        second = λ alone. subst (λ n. is_member (second_group c.args.code) n ≡ true) here
            (subst (λ xs. All (λ term. is_member (second_group c.args.code) term.fragment ≡ true) xs) (sym (is.second alone)) (all_of_group (second_group c.args.code) c.args.f) k d inside);
      })
]
