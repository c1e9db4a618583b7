use Rattle.std.proofs.Common.{◌≡◌, ℕ, Bool, List, ◌∷◌, ◌++◌, [], ap, sym, ◌∙◌, rules}
use Rattle.std.specs.Option.{is_some}
use Rattle.std.specs.BTreeMap.{get}
use Rattle.history.specs.Names.{name_cmp}
use Rattle.history.proofs.Settling.{absent_push, absent_stay}
use Rattle.history.proofs.settle.absent.Goals as goal

pub loop-name-preserved-in-Continue-1 : goal.loop-name-preserved-in-Continue-1
loop-name-preserved-in-Continue-1 c =
    let n = c.in-Some.name.now in
    let k = c.in-Some.field-0-1.now in
    let m : List ℕ → Bool = λ p. is_some (get name_cmp c.args.names.now p) in
    let at : c.loop-name.name-iterator ≡ (n, k) ∷ c.next.new.self = search rules in
    λ q. absent_push c.loop-name.fresh.items n q k c.next.new.self c.loop-name.name-iterator m _ at (c.loop-name.invariant q) _ (c.in_ok-push.ensures.items ∙ ap (λ p. c.loop-name.fresh.items ++ p ∷ []) c.duplicate.ensures)
    (sym c.contains_key.ensures ∙ c.if-not-contains_key.true)

pub loop-name-preserved : goal.loop-name-preserved
loop-name-preserved c =
    let n = c.in-Some.name.now in
    let k = c.in-Some.field-0-1.now in
    let m : List ℕ → Bool = λ p. is_some (get name_cmp c.args.names.now p) in
    let at : c.loop-name.name-iterator ≡ (n, k) ∷ c.next.new.self = search rules in
    λ q. absent_stay c.loop-name.fresh.items n q k c.next.new.self c.loop-name.name-iterator m _ at (c.loop-name.invariant q) (sym c.contains_key.ensures ∙ c.if-not-contains_key.false)
