use Rattle.std.proofs.Common.{◌-◌, length}
use Rattle.std.specs.List.{concat}
use Rattle.lent.specs.Granted.{cut_of}
use Rattle.lent.specs.Spans.{spans_of}
use Rattle.session.specs.LentFrom.{pieces_of, lists_of}
use Rattle.session.proofs.Running.{IsLendingRuns}
use Rattle.session.proofs.lending.Lending.lend_runs.Given as goal

abbrev pub invariant-loop-count : goal.invariant-loop-count
invariant-loop-count l =
    let g = l.self-inside.grant in
    IsLendingRuns (concat (pieces_of (spans_of g.sealed.value (cut_of g)) (lists_of l.self-inside.rebuilt.items))) l.initial.from l.from l.count l.initial.target l.target

abbrev pub decreases-loop-count : goal.decreases-loop-count
decreases-loop-count l = length l.target - l.count
