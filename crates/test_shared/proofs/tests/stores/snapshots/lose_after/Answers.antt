use Rattle.shared.proofs.Snapshots.{fragments_still}
use Rattle.test_shared.proofs.tests.stores.snapshots.lose_after.Goals as goal

pub returns-clause-known : goal.returns-clause-known
returns-clause-known g c =
    fragments_still c.args.pass.now c.lose-lost.new.pass _ c.lose-lost.result c.args.store.now.width c.args.name.now c.args.snapshot.now c.requires.pass.1 c.lose-lost.ensures.called c.requires.known
