use Rattle.std.proofs.Common.{Err, ap, sym, subst, ◌∙◌}
use Rattle.history.specs.Step.{put}
use Rattle.named_calls.specs.Asked.{CanAskIn, operation_name}
use Rattle.named_calls.proofs.waiting.WaitingCalls.put_copy.Goals as goal

pub make-requires-clause-can : goal.make-requires-clause-can
make-requires-clause-can g c = subst (λ o. CanAskIn (g.Self.Makes.seen c.args.pass.now (operation_name o)) (g.Self.Makes.width c.args.self.now (operation_name o)) c.in-Ok.request) (sym c.in-Ok.ensures.put) (c.in-Ok.ensures.can c.args.pass.now)

pub returns-in-Ok-clause-called : goal.returns-in-Ok-clause-called
returns-in-Ok-clause-called g c = subst (λ o. g.Self.Makes.called c.args.pass.now o c.make.result c.make.new.pass) c.in-Ok.ensures.put c.make.ensures.called

pub returns-in-Ok-clause-listed : goal.returns-in-Ok-clause-listed
returns-in-Ok-clause-listed g c = subst (λ o. g.Self.Makes.listed c.args.pass.now o c.make.result c.make.new.pass) c.in-Ok.ensures.put c.make.ensures.listed

pub returns-in-Err-clause-called : goal.returns-in-Err-clause-called
returns-in-Err-clause-called g c =
    subst (λ r. g.Self.Makes.called c.args.pass.now (put c.args.name c.args.code c.args.bytes.now) r c.args.pass.now) (sym c.refuse.ensures.refused)
    (c.refuse.ensures.called c.args.name c.args.code c.args.bytes.now c.in-Err.ensures.faults (λ long. c.prepare_copy.ensures.too_long.0 (c.in-Err.is ∙ ap Err long)))

pub returns-in-Err-clause-listed : goal.returns-in-Err-clause-listed
returns-in-Err-clause-listed g c =
    subst (λ r. g.Self.Makes.listed c.args.pass.now (put c.args.name c.args.code c.args.bytes.now) r c.args.pass.now) (sym c.refuse.ensures.refused)
    (c.refuse.ensures.listed c.args.name c.args.code c.args.bytes.now c.in-Err.ensures.faults)
