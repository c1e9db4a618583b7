use Rattle.std.proofs.Common.{Err, ap, sym, subst, ◌∙◌, inl, inr, refl}
use Rattle.history.specs.Step.{put}
use Rattle.named_calls.specs.Asked.{CanAskIn, operation_name}
use Rattle.named_calls.proofs.Refused.{refused_before}
use Rattle.named_calls.proofs.try_calls.TryCalls.try_put_copy.Goals as goal

pub try_make-requires-clause-can : goal.try_make-requires-clause-can
try_make-requires-clause-can g c = subst (λ o. CanAskIn (g.Self.Makes.seen c.args.pass.now (operation_name o)) (g.Self.Makes.width c.args.self.now (operation_name o)) c.in-Ok.request) (sym c.in-Ok.ensures.put) (c.in-Ok.ensures.can c.args.pass.now)

pub returns-in-Ok-clause-called : goal.returns-in-Ok-clause-called
returns-in-Ok-clause-called g c = subst (λ o. g.Self.Makes.called c.args.pass.now o c.try_make.result c.try_make.new.pass) c.in-Ok.ensures.put c.try_make.ensures.called

pub returns-in-Ok-clause-listed : goal.returns-in-Ok-clause-listed
returns-in-Ok-clause-listed g c = subst (λ o. g.Self.Makes.listed c.args.pass.now o c.try_make.result c.try_make.new.pass) c.in-Ok.ensures.put c.try_make.ensures.listed

pub returns-in-Err-clause-called : goal.returns-in-Err-clause-called
returns-in-Err-clause-called g c =
    subst (λ r. g.Self.Makes.called c.args.pass.now (put c.args.name c.args.code c.args.bytes.now) r c.args.pass.now) (sym c.refuse.ensures.refused)
    (c.refuse.ensures.called c.args.name c.args.code c.args.bytes.now c.in-Err.ensures.faults (λ long. c.prepare_copy.ensures.too_long.0 (c.in-Err.is ∙ ap Err long)))

pub returns-in-Err-clause-listed : goal.returns-in-Err-clause-listed
returns-in-Err-clause-listed g c =
    subst (λ r. g.Self.Makes.listed c.args.pass.now (put c.args.name c.args.code c.args.bytes.now) r c.args.pass.now) (sym c.refuse.ensures.refused)
    (c.refuse.ensures.listed c.args.name c.args.code c.args.bytes.now c.in-Err.ensures.faults)

pub returns-in-Ok-clause-busy : goal.returns-in-Ok-clause-busy
returns-in-Ok-clause-busy g c busy = subst (λ o. g.Self.Makes.busy c.args.pass.now o c.try_make.new.pass) c.in-Ok.ensures.put (c.try_make.ensures.busy busy)

pub returns-in-Ok-clause-entered : goal.returns-in-Ok-clause-entered
returns-in-Ok-clause-entered g c free = inl (subst (λ o. g.Self.Makes.entered c.args.pass.now o c.try_make.new.pass) c.in-Ok.ensures.put (c.try_make.ensures.entered free))

pub returns-in-Err-clause-entered : goal.returns-in-Err-clause-entered
returns-in-Err-clause-entered g c free = inr (refl, refused_before c.refuse.result c.in-Err.fault c.refuse.ensures.refused c.in-Err.ensures.faults)
