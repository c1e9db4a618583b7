use Rattle.std.proofs.Common.{Option, sym, subst}
use Rattle.session.specs.declared.held.Held.{Held}
use Rattle.store_c.specs.Sessions.{IsUnjournaledCall}
use Rattle.store_c.proofs.lrc_store_open_unjournaled.Goals as goal

pub returns : goal.returns
returns c =
    subst (λ (slot : Option Held). IsUnjournaledCall slot c.args.width c.args.number c.open_with.result c.open_with.new.slot.held)
    (sym (c.is_vacant.ensures.vacant.0 c.if-not-is_vacant.false)) c.open_with.ensures
