use Rattle.std.proofs.Common.{ℕ, subst}
use Rattle.store_c.specs.Sessions.{IsOpeningWith, within}
use Rattle.store_c.proofs.sessions.open.Goals as goal

pub returns : goal.returns
returns c =
    within (subst (λ (limit : ℕ). IsOpeningWith c.args.width limit c.args.number c.open_with.result c.open_with.new.slot.held) c.in-Some.ensures.value c.open_with.ensures)
