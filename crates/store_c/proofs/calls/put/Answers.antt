use Rattle.store_c.specs.OnSession.{answered_put}
use Rattle.store_c.proofs.Puts.{accepted}
use Rattle.store_c.proofs.calls.put.Goals as goal

pub returns : goal.returns
returns c =
    let name = c.in-Ok.arguments.0 in
    let code = c.in-Ok.arguments.1 in
    let put = c.put_copy in
    accepted c.args.session.now name c.args.name.now c.args.blob.now c.args.data_fragments code put.result c.args.version.now put.new.version put.new.session c.in-Ok.ensures.0 c.in-Ok.ensures.1 c.in-Ok.ensures.2
    (answered_put put.ensures)
