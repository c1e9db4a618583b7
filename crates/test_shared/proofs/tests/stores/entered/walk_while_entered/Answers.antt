use Rattle.shared.proofs.Steps.{unchanged}
use Rattle.test_shared.proofs.tests.stores.entered.walk_while_entered.Goals as goal

pub leave-requires-clause-follows : goal.leave-requires-clause-follows
leave-requires-clause-follows c c' = unchanged _ c'.in-Some.inside.value c'.in-Some.ensures.found.1
