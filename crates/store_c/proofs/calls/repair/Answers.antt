use Rattle.history.specs.Step.{repair}
use Rattle.store_c.specs.OnSession.{named}
use Rattle.store_c.proofs.Replies.{replied}
use Rattle.store_c.proofs.calls.repair.Goals as goal

pub returns : goal.returns
returns c =
    let name = c.in-Some in
    let call = c.repair-reply in
    let is = replied c.args.session.now (repair name.name c.args.stripe c.args.fragment) (repair c.args.name.now c.args.stripe c.args.fragment) call.result c.write_version.result c.args.version.now c.write_version.new.version call.new.self
    (λ i. repair (name.ensures.0 i) c.args.stripe c.args.fragment) call.ensures.called call.ensures.faults c.write_version.ensures.number c.write_version.ensures.version call.ensures.busy call.ensures.lone in
    named name.ensures.1 (call.result, is)
