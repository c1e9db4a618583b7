use Rattle.std.proofs.Common.{Option, sym, subst}
use Rattle.session.specs.declared.held.Held.{Held}
use Rattle.store_c.specs.Sessions.{IsOpenCall}
use Rattle.store_c.proofs.lrc_store_open.Goals as goal

pub returns : goal.returns
returns c =
    subst (λ (slot : Option Held). IsOpenCall slot c.args.width c.args.limit c.args.number c.open.result c.open.new.slot.held)
    (sym (c.is_vacant.ensures.vacant.0 c.if-not-is_vacant.false)) c.open.ensures
