use Rattle.std.proofs.Common.{Option, Some, sym, ap, subst, arith, ◌∙◌}
use Rattle.session.specs.declared.held.Held.{Held}
use Rattle.session.specs.declared.held.Held.TheVariants.{Repairs}
use Rattle.store_c.specs.Plan.{IsPlanPartTo}
use Rattle.store_c.proofs.Plans.{next_of}
use Rattle.store_c.proofs.repairs.plan_part_to.Goals as goal

pub returns-then-is_vacant : goal.returns-then-is_vacant
returns-then-is_vacant c =
    let part = c.first_part in
    subst (λ (other : Option Held). IsPlanPartTo c.args.session.now other c.args.most part.result (c.args.items.now, part.new.items) part.new.session part.new.other.held)
    (sym (c.is_vacant.ensures.vacant.0 c.if-is_vacant.true)) part.ensures

pub returns-in-Some-Repairs : goal.returns-in-Some-Repairs
returns-in-Some-Repairs c =
    let part = c.next_part in
    let left = c.in-Some-Repairs.repairs in
    subst (λ (other : Option Held). IsPlanPartTo c.args.session.now other c.args.most part.result (c.args.items.now, part.new.items) part.new.session (Some (Repairs part.new.repairs)))
    (ap Some (sym c.in-Some-Repairs.field-0-is) ∙ sym c.in-Some-Repairs.is ∙ c.get_mut.ensures.value ∙ c.is_vacant.ensures.unchanged)
    (next_of c.args.session.now left.items left.last c.args.most part.result (c.args.items.now, part.new.items) part.new.session (Some (Repairs part.new.repairs)) (omega (arith, c.len.ensures, c.if-len-eq0.true)) part.ensures)
