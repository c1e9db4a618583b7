use Rattle.std.proofs.Common.{◌≡◌, ℕ, ◌&&◌, ◌==◌, length, cond, refl, sym, subst}
use Rattle.std.specs.Prelude.{IfSome}
use Rattle.std.proofs.lemmas.Result.{on_ok_weaker, on_err_weaker}
use Rattle.sealed.specs.Stripes.{Stripes, fragment_at, IsShaped}
use Rattle.sealed.proofs.Changing.{shape_kept, either_way, same_fields}
use Rattle.sealed.proofs.value.Sealed.change.Goals as goal

pub invariant_of-self : goal.invariant_of-self
invariant_of-self c =
    let s = c.args.self.now in
    let At : ℕ → Type 0 = λ h. (i g : ℕ) → fragment_at c.set.new.self i g ≡ cond ((i == c.args.stripe) && (g == h)) c.args.slot (fragment_at s.stripes i g) in
    record {
      shaped = either_way c.set.result
          (λ at. shape_kept s c.args.stripe c.args.f c.args.slot c.set.new.self c.set.ensures.count c.requires.f_below
          (λ y e. subst (λ o. IfSome o (λ bytes. length bytes ≡ s.width)) e c.requires.long) (subst At c.from.ensures at))
          (λ same. subst (λ (t : Stripes). IsShaped t s.code s.width s.len) (sym same) s.shaped)
          c.set.ensures.ok c.set.ensures.err;
    }

pub returns-clause-ok : goal.returns-clause-ok
returns-clause-ok c =
    let s = c.args.self.now in
    let At : ℕ → Type 0 = λ h. (i g : ℕ) → fragment_at c.set.new.self i g ≡ cond ((i == c.args.stripe) && (g == h)) c.args.slot (fragment_at s.stripes i g) in
    on_ok_weaker c.set.result (λ at. record { version = refl; len = refl; width = refl; code = refl; fragments = subst At c.from.ensures at }) c.set.ensures.ok

pub returns-clause-err : goal.returns-clause-err
returns-clause-err c = on_err_weaker c.set.result (λ same. same_fields c.args.self.now c.set.new.self _ same) c.set.ensures.err
