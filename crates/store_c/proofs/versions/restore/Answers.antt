use Rattle.store_c.specs.Restore.{restored}
use Rattle.store_c.proofs.versions.restore.Goals as goal

pub returns-clause-call : goal.returns-clause-call
returns-clause-call c = restored c.if-theirs-number.false c.restore-reply.result c.restore-reply.ensures.restored c.write_version.ensures.number c.write_version.ensures.version
