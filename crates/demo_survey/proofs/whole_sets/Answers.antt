use Rattle.std.proofs.Common.{arith}
use Rattle.demo_survey.specs.Survey.{is_counted}
use Rattle.demo_survey.proofs.Counts.{counted, count_at_most, byte_small}
use Rattle.demo_survey.proofs.whole_sets.Goals as goal

pub overflow_add-count : goal.overflow_add-count
overflow_add-count c = omega (arith, c.loop-set.invariant, count_at_most (is_counted c.args.code c.args.size) c.loop-set.set, byte_small c.is_counted.result, c.from-count.ensures)

pub loop-set-preserved : goal.loop-set-preserved
loop-set-preserved c = counted (is_counted c.args.code c.args.size) c.loop-set.set c.loop-set.count c.from-count.result c.is_counted.result c.loop-set.invariant c.from-count.ensures c.is_counted.ensures.value
