use Rattle.std.proofs.Common.{Option, sym, subst}
use Rattle.session.specs.declared.held.Held.{Held}
use Rattle.store_c.specs.Plan.{IsPlanTo}
use Rattle.store_c.proofs.repairs.plan_to.Goals as goal

pub returns : goal.returns
returns c =
    let plan = c.plan in
    subst (λ (other : Option Held). IsPlanTo c.args.session.now other plan.result (c.args.items.now, plan.new.items) plan.new.session plan.new.other.held)
    (sym (c.is_vacant.ensures.vacant.0 c.if-not-is_vacant.false)) plan.ensures
