use Rattle.std.proofs.Common.{◌≡◌, ◌+◌, ◌≤◌, length, slice_range}
use Rattle.lent.specs.Cut.{cut}
use Rattle.lent.specs.Planned.{ahead_of, plans_of}
use Rattle.transcript.proofs.Walked.{IsReadSoFar}
use Rattle.transcript.proofs.line.walked.Given as goal

abbrev pub invariant-loop-reading : goal.invariant-loop-reading
invariant-loop-reading l =
    let s = l.grant.sealed.value in
    record {
      so_far : IsReadSoFar s (λ b. slice_range b l.grant.start (l.grant.start + l.grant.len)) (cut s.code s.width l.grant.start l.grant.len) l.reading (ahead_of l.walk);
      same : (plans_of l.walk).ghost_name ≡ (plans_of l.initial.walk).ghost_name;
      more : (plans_of l.initial.walk).now ≤ (plans_of l.walk).now;
    }

abbrev pub decreases-loop-reading : goal.decreases-loop-reading
decreases-loop-reading l = length (ahead_of l.walk).parts
