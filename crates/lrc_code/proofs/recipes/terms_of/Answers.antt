use Rattle.std.proofs.Common.{◌<◌, length, sym, ◌∙◌, subst, arith, inl, inr}
use Rattle.lrc_code.specs.Recipe.{terms}
use Rattle.lrc_code.specs.Factors.{factored_weight}
use Rattle.lrc_code.proofs.RowTerms.{terms_room, terms_pushed, terms_skipped}
use Rattle.lrc_code.proofs.recipes.terms_of.Goals as goal
use Rattle.lrc_code.proofs.recipes.terms_of.Goals.{then-fragment-f+then-coefficient-ne0, else-fragment-f, else-fragment-f-via-then-fragment-f+else-coefficient-ne0, else-fragment-f-via-else-fragment-f}

pub loop-fragment-init : goal.loop-fragment-init
unfolding terms
loop-fragment-init c = c.new-recipe.ensures

pub push-requires : goal.push-requires
push-requires c =
    (omega arith, subst (λ ps. length ps < 15) (sym c.loop-fragment.invariant) (terms_room c.args.code (factored_weight c.args.code c.args.factors.now) c.args.f c.loop-fragment.fragment (omega arith) c.requires.f_below c.if-fragment-f.true))

pub loop-fragment-preserved : goal.loop-fragment-preserved
loop-fragment-preserved c =
    elim c.if-fragment-f.branch [
      | then-fragment-f+then-coefficient-ne0 w ↦
          rw (w.recipe-is, w.push.ensures.items)
          (terms_pushed (factored_weight c.args.code c.args.factors.now) c.args.f c.loop-fragment.fragment c.factored_weight_of-coefficient.result _ c.loop-fragment.invariant c.factored_weight_of-coefficient.ensures
          w.if-fragment-f.true w.if-coefficient-ne0.true)
      | else-fragment-f w ↦
          rw w.recipe-is
          (terms_skipped (factored_weight c.args.code c.args.factors.now) c.args.f c.loop-fragment.fragment _ c.loop-fragment.invariant
          (elim w.else-fragment-f.branch [
            | else-fragment-f-via-then-fragment-f+else-coefficient-ne0 v ↦ inr (sym c.factored_weight_of-coefficient.ensures ∙ v.if-coefficient-ne0.false)
            | else-fragment-f-via-else-fragment-f v ↦ inl v.if-fragment-f.false
          ]))
    ]
