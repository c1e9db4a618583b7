use Rattle.std.proofs.Common.{◌≡◌, Bool, false, true, IsTrue, ◌∙◌, sym, subst}
use Rattle.sealed.specs.declared.value.Sealed.{Sealed}
use Rattle.sealed.specs.Layout.{HasFragment}
use Rattle.lent.proofs.Present.{none_outside}
use Rattle.lent.proofs.snapshot.Snapshot.fragment.Goals as goal

never : (b : Bool) → b ≡ false → IsTrue b → ⊥
never true e t = cc (e)
never false e t = cc (t)

pub returns-then-not-has_fragment-clause-value : goal.returns-then-not-has_fragment-clause-value
returns-then-not-has_fragment-clause-value c =
    sym (none_outside c.args.self.now c.args.stripe c.args.fragment
    (λ has. never _ c.if-not-has_fragment.true (c.has_fragment.ensures.1 (subst (λ (s : Sealed). HasFragment s.code s.width s.len c.args.stripe c.args.fragment) (sym (c.deref-sealed.ensures ∙ c.self.view_is)) has))))
