use Rattle.std.proofs.Common.{◌≡◌, ◌∙◌, true, false, refl, inl, inr}
use Rattle.std.proofs.lemmas.Bool.{cases_Bool}
use Rattle.script.specs.Names.{is_name}
use Rattle.script.proofs.NameFacts.{name-from_test, name-is-text, test-from_name}
use Rattle.script.proofs.fields.name_of.Goals as goal

pub returns-in-Ok-new : goal.returns-in-Ok-new
returns-in-Ok-new c =
    let same = c.in-Ok.ensures.cases.0 in
    let named = rw same at (c.in-Ok-new.ensures.variant.0 refl) in
    (test-from_name c.args.text.now named, c.in-Ok-new.ensures.ok ∙ same)

pub returns-in-Err-new : goal.returns-in-Err-new
returns-in-Err-new c =
    let same = c.in-Ok.ensures.cases.0 in
    elim (cases_Bool (is_name c.args.text.now)) [
      | inl named ↦ (let ok : false ≡ true = c.in-Err-new.ensures.variant.1 (rw same (name-from_test c.args.text.now named)) in cc)
      | inr unnamed ↦ unnamed
    ]

pub returns-in-Err : goal.returns-in-Err
returns-in-Err c =
    elim (cases_Bool (is_name c.args.text.now)) [
      | inl named ↦ absurd (c.in-Err.ensures.cases.0 (name-is-text c.args.text.now (name-from_test c.args.text.now named)))
      | inr unnamed ↦ unnamed
    ]
