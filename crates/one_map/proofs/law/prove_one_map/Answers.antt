use Rattle.one_map.proofs.OneMap.{legal_both_ways, map_has, map_puts}
use Rattle.one_map.proofs.law.prove_one_map.Goals as goal

pub returns-clause-legal : goal.returns-clause-legal
returns-clause-legal c count w h some = legal_both_ways count w some h

pub returns-clause-names : goal.returns-clause-names
returns-clause-names c count h n = map_has count h n

pub returns-clause-puts : goal.returns-clause-puts
returns-clause-puts c count h k = map_puts count h k
