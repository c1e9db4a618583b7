use Rattle.std.proofs.Common.{Option, sym, subst}
use Rattle.session.specs.declared.held.Held.{Held}
use Rattle.store_c.specs.Get.{IsGetTo}
use Rattle.store_c.proofs.whole.get_to.Goals as goal

pub returns : goal.returns
returns c =
    let get = c.get in
    subst (λ (other : Option Held). IsGetTo c.args.session.now other c.args.name.now get.result (c.args.version.now, c.args.len.now, c.args.pieces.now) (get.new.version, get.new.len, get.new.pieces) get.new.session get.new.other.held)
    (sym (c.is_vacant.ensures.vacant.0 c.if-not-is_vacant.false)) get.ensures
