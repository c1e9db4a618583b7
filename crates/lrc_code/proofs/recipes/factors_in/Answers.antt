use Rattle.std.proofs.Common.{◌≡◌, ◌≤◌, Some, ap, ◌∙◌, subst, sym, length, inl, inr}
use Rattle.std.proofs.lemmas.Bool.{cases_eq, eq-eqb, ne_eqb}
use Rattle.lrc_code.specs.Code.{fragment_count, data_count}
use Rattle.lrc_code.specs.Factors.{factored_weight}
use Rattle.lrc_code.specs.ParityCheck.{check_weight}
use Rattle.lrc_code.specs.declared.recipes.ParityCheck.{ParityCheck}
use Rattle.lrc_code.specs.declared.recipes.ParityCheck.TheVariants.{First, Second}
use Rattle.lrc_code.proofs.RowTerms.{terms_same_weights}
use Rattle.lrc_code.proofs.recipes.factors_in.Goals as goal

same_check : (v w : ParityCheck) → Some v ≡ Some w → v ≡ w
same_check v w e = cc

pub returns-in-Some-clause-weighs : goal.returns-in-Some-clause-weighs
returns-in-Some-clause-weighs c i l gone =
    c.factors_of.ensures i l
    ∙ elim (cases_eq i c.args.f) [
      | inl same ↦ rw (eq-eqb i c.args.f same) (ap (check_weight c.args.code c.in-Some.check) same ∙ c.in-Some.ensures.one)
      | inr differ ↦ rw (ne_eqb i c.args.f differ) (c.in-Some.ensures.exact.1.only_left i l gone differ)
    ]

pub returns-in-Some-clause-first : goal.returns-in-Some-clause-first
returns-in-Some-clause-first c h i l = c.factors_of.ensures i l ∙ ap (λ check. check_weight c.args.code check i) (same_check c.in-Some.check First (c.in-Some.ensures.first.0 h))

pub returns-in-Some-clause-second : goal.returns-in-Some-clause-second
returns-in-Some-clause-second c h i l = c.factors_of.ensures i l ∙ ap (λ check. check_weight c.args.code check i) (same_check c.in-Some.check Second (c.in-Some.ensures.second.0 h))

pub returns-in-Some-clause-short : goal.returns-in-Some-clause-short
returns-in-Some-clause-short c =
    subst (λ t. length t ≤ data_count c.args.code)
    (sym (terms_same_weights (factored_weight c.args.code c.factors_of.result) (check_weight c.args.code c.in-Some.check) c.args.f (fragment_count c.args.code) c.factors_of.ensures))
    c.in-Some.ensures.short
