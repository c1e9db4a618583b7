use Rattle.shared.proofs.Steps.{unchanged}
use Rattle.test_shared.proofs.tests.stores.entered.entries_found.Goals as goal

pub leave-requires-clause-follows : goal.leave-requires-clause-follows
leave-requires-clause-follows g c = unchanged _ c.in-Some.inside.value c.in-Some.ensures.found.1
