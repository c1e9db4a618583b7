use Rattle.std.proofs.Common.{◌≡◌, count_by}
use Rattle.std.specs.List.{range_with_len}
use Rattle.demo_survey.specs.Survey.{is_counted}
use Rattle.demo_survey.proofs.whole_sets.Given as goal

abbrev pub invariant-loop-set : goal.invariant-loop-set
invariant-loop-set l = l.count ≡ count_by (is_counted l.code l.size) (range_with_len 0 l.set)
