use Rattle.std.proofs.Common.{Option, sym, subst}
use Rattle.session.specs.declared.held.Held.{Held}
use Rattle.store_c.specs.Hold.{IsHoldTo}
use Rattle.store_c.proofs.versions.hold_to.Goals as goal

pub returns : goal.returns
returns c =
    let hold = c.hold in
    subst (λ (other : Option Held). IsHoldTo c.args.session.now c.args.number other c.args.name.now hold.result (c.args.version.now, c.args.len.now) (hold.new.version, hold.new.len) hold.new.session hold.new.other.held)
    (sym (c.is_vacant.ensures.vacant.0 c.if-not-is_vacant.false)) hold.ensures
