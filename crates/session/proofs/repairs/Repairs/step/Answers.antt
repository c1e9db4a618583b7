use Rattle.std.proofs.Common.{◌≡◌, ◌<◌, List, length, drop, true, false, Some, refl, subst, sym, ap, arith, ◌∙◌}
use Rattle.std.specs.Prelude.{is_ok}
use Rattle.std.proofs.lemmas.Bool.{false≢true}
use Rattle.book.specs.declared.plan.Item.{Item}
use Rattle.session.specs.RepairStep.{IsRepairStep}
use Rattle.session.proofs.RepairSteps.{popped, repaired, stepped}
use Rattle.session.proofs.repairs.Repairs.step.Goals as goal
use Rattle.session.proofs.repairs.Repairs.step.Goals.{then-is_ok, else-is_ok}

pub returns-clause-step : goal.returns-clause-step
returns-clause-step c =
    let items : List Item = c.self.inside.items.items in let item : Item = c.in_ok-item.item.now in let reply = c.repair-reply.result in
    let inside : 0 < length items = omega (arith, c.in_ok-item.ensures.variant.0 refl, c.self.inside.items.ok) in
    let long : 0 < c.self.inside.items.len = omega (arith, inside, c.self.inside.items.ok.0) in
    let has = repaired item c.duplicate-name.result c.from-fragment.result c.args.session.now reply c.repair-reply.new.self c.duplicate-name.ensures c.from-fragment.ensures c.repair-reply.ensures.called
    c.repair-reply.ensures.faults c.repair-reply.ensures.busy c.repair-reply.ensures.lone in
    let done : is_ok reply ≡ true → c.if-is_ok.self.items ≡ drop 1 items = λ ok. elim c.if-is_ok.branch [
      | then-is_ok w ↦ ap (λ r. r.items) w.self-is ∙ popped items w.pop_front-item.result w.pop_front-item.new.self.items w.pop_front-item.ensures.items (w.pop_front-item.ensures.variant.1 long)
      | else-is_ok w ↦ absurd (false≢true (sym w.if-is_ok.false ∙ c.is_ok.ensures.value ∙ ok))
    ] in
    let kept : is_ok reply ≡ false → c.if-is_ok.self.items ≡ items = λ err. elim c.if-is_ok.branch [
      | then-is_ok w ↦ absurd (false≢true (sym err ∙ sym c.is_ok.ensures.value ∙ w.if-is_ok.true))
      | else-is_ok w ↦ ap (λ r. r.items) (w.self-is ∙ sym c.self.view_is)
    ] in
    subst (λ (all : List Item). IsRepairStep all c.args.session.now (Some reply) c.if-is_ok.self.items c.repair-reply.new.self) (ap (λ r. r.items) c.self.view_is)
    (stepped items item c.args.session.now reply c.if-is_ok.self.items c.repair-reply.new.self inside c.in_ok-item.ensures.lookup has done kept)

pub returns-clause-last : goal.returns-clause-last
returns-clause-last c = elim c.if-is_ok.branch [
  | then-is_ok w ↦ ap (λ r. r.last) w.self-is ∙ ap (λ r. r.last) c.self.view_is
  | else-is_ok w ↦ ap (λ r. r.last) w.self-is
]
