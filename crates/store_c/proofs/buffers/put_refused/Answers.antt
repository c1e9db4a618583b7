use Rattle.store_c.specs.OnSession.{answered_put}
use Rattle.store_c.proofs.Puts.{accepted}
use Rattle.store_c.proofs.buffers.put_refused.Goals as goal

pub returns-clause-put : goal.returns-clause-put
returns-clause-put c =
    let is = c.in-Ok in
    let put = c.put_blob in
    accepted c.args.session.now is.arguments.0 c.args.name.now c.args.refused c.args.data_fragments is.arguments.1 put.result c.args.version.now put.new.version put.new.session is.ensures.0 is.ensures.1 is.ensures.2
    (answered_put put.ensures.put)
