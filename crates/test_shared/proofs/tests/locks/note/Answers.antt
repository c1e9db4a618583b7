use Rattle.std.proofs.Common.{◌≡◌, ◌++◌, ◌∷◌, [], ℕ, List, Bool, true, false, IfSome, IsTrue, MatchBool, ap, sym, subst, ◌∙◌}
use Rattle.gate.specs.Places.{last_of}
use Rattle.gate.proofs.Lists.{last_of-snoc}
use Rattle.test_shared.proofs.tests.locks.note.Goals as goal

where_true : (b : Bool) (P Q : Type 0) → MatchBool b P Q → IsTrue b → P
where_true true P Q m t = m
where_true false P Q m t = absurd (cc)

pub returns-clause-noted : goal.returns-clause-noted
returns-clause-noted g c = λ done.
    subst (λ o. IfSome o (λ notes. (before : List ℕ) × (notes ≡ before ++ c.args.x ∷ []))) (sym (ap last_of c.leave.ensures.list ∙ last_of-snoc c.enter-inside.new.seat.list c.note-done.new.self))
    (c.enter-inside.result.value, where_true _ _ _ c.note-done.ensures done)
