use Rattle.std.proofs.Common.{Option, refl, sym, subst}
use Rattle.session.specs.declared.held.Held.{Held}
use Rattle.store_c.specs.Sessions.{IsSplitTo, split_off}
use Rattle.store_c.proofs.sessions.split_to.Goals as goal

pub returns-in-Ok : goal.returns-in-Ok
returns-in-Ok c =
    let made = c.in-Ok in
    subst (λ (other : Option Held). IsSplitTo c.args.session.now c.args.number other c.args.who 0 c.split.new.self c.fill.new.slot.held)
    (sym (c.is_vacant.ensures.vacant.0 c.if-not-is_vacant.false)) (split_off made.session refl made.ensures.unchanged made.ensures.given c.fill.ensures)
