use Rattle.std.proofs.Common.{Option, sym, subst}
use Rattle.session.specs.declared.held.Held.{Held}
use Rattle.store_c.specs.Versions.{IsRangeTo}
use Rattle.store_c.proofs.versions.lend_to.Goals as goal

pub returns : goal.returns
returns c =
    let lend = c.lend in
    subst (λ (other : Option Held). IsRangeTo c.args.version.now other c.args.start c.args.len lend.result (c.args.pieces.now, lend.new.pieces) lend.new.other.held)
    (sym (c.is_vacant.ensures.vacant.0 c.if-not-is_vacant.false)) lend.ensures
