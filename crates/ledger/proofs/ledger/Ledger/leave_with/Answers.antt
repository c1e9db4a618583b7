use Rattle.std.proofs.Common.{◌≡◌, ◌∷◌, ◌++◌, [], ap, ◌∙◌}
use Rattle.gate.specs.Places.{last_of}
use Rattle.gate.proofs.Moves.{if_some}
use Rattle.ledger.specs.Values.{grown}
use Rattle.ledger.proofs.Values.{keeps_left}
use Rattle.ledger.proofs.ledger.Ledger.leave_with.Goals as goal

pub returns-clause-keeps : goal.returns-clause-keeps
returns-clause-keeps g c = λ k has.
    let keeper = c.args.inside.value.keeper in
    keeps_left g.T.Changes.between c.args.self.now.table k c.args.seat.now.list c.leave.new.seat.list keeper
    (record { value = c.args.inside.value.value; keeper = c.record.new.keeper })
    has
    (λ x e. (if_some (λ found. g.T.Follows.follows found.value c.args.inside.value.value × (keeper ≡ found.keeper)) (last_of c.args.seat.now.list) x e c.requires.found).1)
    (c.record.ensures.keeper ∙ ap (grown keeper) c.requires.acts)
    c.leave.ensures.list

pub returns-clause-list : goal.returns-clause-list
returns-clause-list g c =
    c.leave.ensures.list
    ∙ ap (λ keeper. c.args.seat.now.list ++ record { value = c.args.inside.value.value; keeper = keeper } ∷ []) c.record.ensures.keeper
