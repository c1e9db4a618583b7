use Rattle.std.proofs.Common.{take}
use Rattle.mender.proofs.Judged.{Judging}
use Rattle.mender.proofs.results.judge.Given as goal

abbrev pub invariant-loop-one : goal.invariant-loop-one
invariant-loop-one l = Judging l.plan.items.items (take l.one-index l.done) l.seen.items l.report
