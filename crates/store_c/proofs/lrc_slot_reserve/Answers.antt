use Rattle.std.proofs.Common.{Option, sym, subst}
use Rattle.session.specs.declared.held.Held.{Held}
use Rattle.store_c.specs.Buffers.{IsReserveCall}
use Rattle.store_c.proofs.lrc_slot_reserve.Goals as goal

pub returns : goal.returns
returns c =
    subst (λ (slot : Option Held). IsReserveCall slot c.args.len c.reserve.result c.reserve.new.slot.held)
    (sym (c.is_vacant.ensures.vacant.0 c.if-not-is_vacant.false)) c.reserve.ensures
