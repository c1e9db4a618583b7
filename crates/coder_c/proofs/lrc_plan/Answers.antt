use Rattle.std.proofs.Common.{◌≡◌, ◌≤◌, ℕ, true, [], ◌∷◌, Some, None, refl, sym, subst, ◌∙◌}
use mathlib.Core.Path.{fun_ext}
use Rattle.std.specs.Prelude.{count_by}
use Rattle.std.proofs.lemmas.Bool.{true≢false}
use Rattle.lrc_code.specs.Code.{data_count, all_fragments, is_lost}
use Rattle.decode.specs.Decoding.{HasOpen}
use Rattle.decode.specs.DecodePlan.{IsDecodePlan, HasAllOf, IsRest}
use Rattle.decode.specs.FewReads.{AreAlone, HasMate}
use Rattle.decode.proofs.FewReads.{read_count_of}
use Rattle.coder_c.specs.Call.{code_with, chosen_of, AreLostIn}
use Rattle.coder_c.specs.PlanBytes.{missing_in, plan_in}
use Rattle.coder_c.proofs.Asked.{at_code}
use Rattle.coder_c.proofs.Chosen.{some_and, and_some, has_open_same, are_lost_same}
use Rattle.coder_c.proofs.Planned.{is_plan_of_bytes}
use Rattle.coder_c.proofs.lrc_plan.Goals as goal

pub returns-then-not-are_lost-clause-taken : goal.returns-then-not-are_lost-clause-taken
returns-then-not-are_lost-clause-taken c =
    let given = chosen_of c.args.numbers.now in
    let t : ℕ = c.of_bits-lost.result in (
      λ h. absurd (h refl),
      λ h. absurd (true≢false (sym (c.if-not-are_lost.ensures.1 (subst (AreLostIn c.in-Some.code t) (sym c.chosen_of-chosen.ensures)
          (are_lost_same c.in-Some.code c.args.lost t given (λ i. sym (c.of_bits-lost.ensures i)) (and_some (code_with c.args.data_fragments) c.in-Some.code (λ code. AreLostIn code c.args.lost given) (sym c.in-Some.ensures) h)))))),
    )

pub returns-in_default-plan_for-clause-open : goal.returns-in_default-plan_for-clause-open
returns-in_default-plan_for-clause-open c =
    let given = chosen_of c.args.numbers.now in
    let t : ℕ = c.of_bits-lost.result in (
      λ _. (
        λ e. absurd (cc e),
        some_and (code_with c.args.data_fragments) c.in-Some.code (λ code. HasOpen code (is_lost c.args.lost) given) (sym c.in-Some.ensures)
            (has_open_same c.in-Some.code t c.args.lost given c.of_bits-lost.ensures (subst (HasOpen c.in-Some.code (is_lost t)) c.chosen_of-chosen.ensures (c.in_default-plan_for.ensures.open.0 refl))),
      ),
      λ _. refl,
    )

pub returns-in_default-plan_for-clause-taken : goal.returns-in_default-plan_for-clause-taken
returns-in_default-plan_for-clause-taken c =
    let given = chosen_of c.args.numbers.now in (
      λ _. some_and (code_with c.args.data_fragments) c.in-Some.code (λ code. AreLostIn code c.args.lost given) (sym c.in-Some.ensures)
          (are_lost_same c.in-Some.code c.of_bits-lost.result c.args.lost given c.of_bits-lost.ensures (subst (AreLostIn c.in-Some.code c.of_bits-lost.result) c.chosen_of-chosen.ensures (c.if-not-are_lost.ensures.0 refl))),
      λ _ e. absurd (cc e),
    )

pub returns-clause-plan : goal.returns-clause-plan
returns-clause-plan c = λ _.
    let made = c.in-Some-plan_for.made in
    at_code (code_with c.args.data_fragments) c.in-Some.code (λ code. IsDecodePlan (plan_in code c.plan_bytes.result)) (sym c.in-Some.ensures)
    (is_plan_of_bytes c.in-Some.code c.plan_bytes.result made c.in-Some-plan_for.ensures.code c.plan_bytes.ensures.missing c.plan_bytes.ensures.chosen c.plan_bytes.ensures.shares c.in-Some-plan_for.ensures.plan)

pub returns-clause-lost : goal.returns-clause-lost
returns-clause-lost c = λ _.
    at_code (code_with c.args.data_fragments) c.in-Some.code (λ code. HasAllOf code c.args.lost (missing_in c.plan_bytes.result)) (sym c.in-Some.ensures)
    (subst (λ m. HasAllOf c.in-Some.code c.args.lost m) (sym c.plan_bytes.ensures.missing) (λ i l gone. c.in-Some-plan_for.ensures.lost i l (c.of_bits-lost.ensures i ∙ gone)))

pub returns-clause-reads : goal.returns-clause-reads
returns-clause-reads c = λ _.
    at_code (code_with c.args.data_fragments) c.in-Some.code (λ code. IsRest code (missing_in c.plan_bytes.result) c.reads.result) (sym c.in-Some.ensures)
    (subst (λ m. IsRest c.in-Some.code m c.reads.result) (sym c.plan_bytes.ensures.missing) (subst (λ code. IsRest code c.in-Some-plan_for.made.missing c.reads.result) c.in-Some-plan_for.ensures.code c.reads.ensures))

-- what is read is what the plan does not miss
rest : (c : goal.After-reads) → IsRest c.in-Some.code c.in-Some-plan_for.made.missing c.reads.result
rest c = subst (λ code. IsRest code c.in-Some-plan_for.made.missing c.reads.result) c.in-Some-plan_for.ensures.code c.reads.ensures

pub returns-clause-near : goal.returns-clause-near
returns-clause-near c = λ _.
    let given = chosen_of c.args.numbers.now in
    let code = c.in-Some.code in
    at_code (code_with c.args.data_fragments) code (λ code. AreAlone code (is_lost c.args.lost) given → (i : ℕ) → is_lost c.reads.result i ≡ true → HasMate code given i) (sym c.in-Some.ensures)
    (λ alone i read.
    subst (λ chosen. HasMate code chosen i) c.chosen_of-chosen.ensures
    (c.in-Some-plan_for.ensures.near
    (subst (λ t. AreAlone code t c.chosen_of-chosen.result) (sym (fun_ext c.of_bits-lost.ensures)) (subst (AreAlone code (is_lost c.args.lost)) (sym c.chosen_of-chosen.ensures) alone))
    i ((rest c i).0 read).0 ((rest c i).0 read).1))

pub returns-clause-few : goal.returns-clause-few
returns-clause-few c = λ _.
    let given = chosen_of c.args.numbers.now in
    let code = c.in-Some.code in
    at_code (code_with c.args.data_fragments) code (λ code. (f : ℕ) → given ≡ Some f ∷ None ∷ None ∷ None ∷ [] → count_by (is_lost c.reads.result) (all_fragments code) ≤ data_count code) (sym c.in-Some.ensures)
    (λ f only. subst (λ n. n ≤ data_count code) (sym (read_count_of code c.reads.result c.in-Some-plan_for.made.missing (rest c))) (c.in-Some-plan_for.ensures.few f (c.chosen_of-chosen.ensures ∙ only)))

pub returns-clause-open : goal.returns-clause-open
returns-clause-open c =
    let given = chosen_of c.args.numbers.now in
    let t : ℕ = c.of_bits-lost.result in (
      λ e. absurd (cc e),
      λ h. absurd (cc (c.in-Some-plan_for.ensures.open.1 (subst (HasOpen c.in-Some.code (is_lost t)) (sym c.chosen_of-chosen.ensures)
          (has_open_same c.in-Some.code c.args.lost t given (λ i. sym (c.of_bits-lost.ensures i)) (and_some (code_with c.args.data_fragments) c.in-Some.code (λ code. HasOpen code (is_lost c.args.lost) given) (sym c.in-Some.ensures) h.1))))),
    )

pub returns-clause-taken : goal.returns-clause-taken
returns-clause-taken c =
    let given = chosen_of c.args.numbers.now in (
      λ _. some_and (code_with c.args.data_fragments) c.in-Some.code (λ code. AreLostIn code c.args.lost given) (sym c.in-Some.ensures)
          (are_lost_same c.in-Some.code c.of_bits-lost.result c.args.lost given c.of_bits-lost.ensures (subst (AreLostIn c.in-Some.code c.of_bits-lost.result) c.chosen_of-chosen.ensures (c.if-not-are_lost.ensures.0 refl))),
      λ _ e. absurd (cc e),
    )
