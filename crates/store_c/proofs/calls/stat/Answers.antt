use Rattle.history.specs.Step.{stat}
use Rattle.store_c.specs.OnSession.{answered_stat}
use Rattle.store_c.proofs.Replies.{replied}
use Rattle.store_c.proofs.calls.stat.Goals as goal

pub returns : goal.returns
returns c =
    let name = c.in-Some in
    let call = c.stat-reply in
    let is = replied c.args.session.now (stat name.name) (stat c.args.name.now) call.result c.write_version.result c.args.version.now c.write_version.new.version call.new.self
    (λ i. stat (name.ensures.0 i)) call.ensures.called call.ensures.faults c.write_version.ensures.number c.write_version.ensures.version call.ensures.busy call.ensures.lone in
    answered_stat name.ensures.1 call.result is c.write_shape.ensures
