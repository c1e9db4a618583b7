use Rattle.std.proofs.Common.{arith}
use Rattle.demo_survey.specs.Survey.{has_size}
use Rattle.demo_survey.proofs.Counts.{counted, count_at_most, byte_small}
use Rattle.demo_survey.proofs.sets.Goals as goal

pub overflow_add-count : goal.overflow_add-count
overflow_add-count c = omega (arith, c.loop-set.invariant, count_at_most (has_size c.args.size) c.loop-set.set, byte_small c.has_size.result, c.from-count.ensures)

pub loop-set-preserved : goal.loop-set-preserved
loop-set-preserved c = counted (has_size c.args.size) c.loop-set.set c.loop-set.count c.from-count.result c.has_size.result c.loop-set.invariant c.from-count.ensures c.has_size.ensures
