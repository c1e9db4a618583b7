use Rattle.std.proofs.Common.{◌≡◌, count_by}
use Rattle.std.specs.List.{range_with_len}
use Rattle.demo_survey.specs.Survey.{has_size}
use Rattle.demo_survey.proofs.sets.Given as goal

abbrev pub invariant-loop-set : goal.invariant-loop-set
invariant-loop-set l = l.count ≡ count_by (has_size l.size) (range_with_len 0 l.set)
