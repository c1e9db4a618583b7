use Rattle.std.proofs.Common.{◌≡◌, ◌<◌, ◌≤◌, ◌-◌, ℕ, suc, List, length, get_or, Some, refl, subst, ap, arith, inl, inr, ◌∙◌}
use Rattle.std.specs.List.{last_or}
use Rattle.std.proofs.lemmas.Bool.{cases_lt, false≢true}
use Rattle.book.specs.declared.plan.Item.{Item}
use Rattle.session.proofs.RepairSteps.{last_of_none, last_of_some}
use Rattle.session.proofs.repairs.Repairs.of.Goals as goal
use Rattle.session.proofs.repairs.Repairs.of.Goals.{in-Some, in-None}

pub returns-clause-last : goal.returns-clause-last
returns-clause-last c =
    let items : List Item = c.from-items.result.items in
    let long = c.from-items.result.ok.0 in
    let same = ap (last_or c.args.after) c.from-items.ensures.0 in
    elim c.match-back.branch [
      | in-Some w ↦ (
          let item : Item = w.in-Some.item.now in
          let inside = w.in-Some.ensures.variant.0 refl in
          let last = subst (λ n. item ≡ get_or items n item) (ap (λ k. k - 1) long) w.in-Some.ensures.lookup in
          w.last-is ∙ ap Some w.duplicate.ensures ∙ last_of_some c.args.after items (length items - 1) item (omega (arith, inside, long)) last ∙ same)
      | in-None w ↦ elim (cases_lt 0 (length items)) [
        | inl some ↦ absurd (false≢true (w.in-None.ensures.variant.1 (omega (arith, some, long))))
        | inr none ↦ w.last-is ∙ last_of_none c.args.after items (omega (arith, none)) ∙ same
      ]
    ]
