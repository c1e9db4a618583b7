use Rattle.std.proofs.Common.{◌≡◌, ℕ, ◌+◌, ◌&&◌, ◌||◌, ◌==◌, Bool, ltb, true, false, refl, sym, ap, arith, ◌∙◌}
use Rattle.std.specs.Prelude.{IsTrue, ◌↔◌}
use Rattle.std.proofs.lemmas.Bool.{false≢true}
use Rattle.std.proofs.lemmas.Grind.{common_steps}
use Rattle.lrc_code.specs.Code.{is_lost}
use Rattle.lrc_code.proofs.Sets.{with_bit}
use Rattle.session.proofs.version.bits_of.Goals.{then-not-left, else-not-left}
use Rattle.session.proofs.version.bits_of.Goals as goal

added : (lost bits f g : ℕ) → is_lost lost f ≡ true → is_lost bits g ≡ (ltb g f && is_lost lost g) → (g == f || is_lost bits g) ≡ (ltb g (f + 1) && is_lost lost g)
added lost bits f g gone is = grind (arith, common_steps)

left_out : (lost bits f g : ℕ) → is_lost lost f ≡ false → is_lost bits g ≡ (ltb g f && is_lost lost g) → is_lost bits g ≡ (ltb g (f + 1) && is_lost lost g)
left_out lost bits f g here is = grind (arith, common_steps)

-- what the test says of a fragment
lost_if : (lost left : Bool) → (IsTrue left ↔ (lost ≡ false)) → left ≡ false → lost ≡ true
lost_if true left i e = refl
lost_if false left i e = absurd (false≢true (sym e ∙ i.1 refl))

left_if : (lost left : Bool) → (IsTrue left ↔ (lost ≡ false)) → left ≡ true → lost ≡ false
left_if lost left i e = i.0 e

pub loop-f-preserved : goal.loop-f-preserved
loop-f-preserved c g =
    let l = c.loop-f in
    let lost = c.args.lost in
    elim c.if-not-left.branch [
      | then-not-left w ↦
          ap (λ n. is_lost n g) w.bits-is ∙ with_bit l.bits l.bits l.f refl c.loop-f-test.true g
          ∙ added lost l.bits l.f g (lost_if (is_lost lost l.f) c.left.result c.left.ensures w.if-not-left.true) (l.invariant g)
      | else-not-left w ↦
          ap (λ n. is_lost n g) w.bits-is ∙ left_out lost l.bits l.f g (left_if (is_lost lost l.f) c.left.result c.left.ensures w.if-not-left.false) (l.invariant g)
    ]
