use Rattle.std.proofs.Common.{◌≡◌, count_by}
use Rattle.std.specs.List.{range_with_len}
use Rattle.demo_survey.specs.Survey.{is_counted_by_any_four}
use Rattle.demo_survey.proofs.whole_sets_by_any_four.Given as goal

abbrev pub invariant-loop-set : goal.invariant-loop-set
invariant-loop-set l = l.count ≡ count_by (is_counted_by_any_four l.size) (range_with_len 0 l.set)
