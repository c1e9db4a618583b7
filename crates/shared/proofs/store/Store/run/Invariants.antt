use Rattle.std.proofs.Common.{◌≡◌, length, ◌≤◌, ◌++◌}
use Rattle.std.specs.Vec.{vec_capacity}
use Rattle.shared.specs.Paced.{AreLetThrough}
use Rattle.shared.specs.Serving.{asks_of, replies_in, rows_asked, rows_replied, Serves}
use Rattle.shared.proofs.store.Store.run.Given as goal

abbrev pub invariant-loop-job : goal.invariant-loop-job
invariant-loop-job g l =
    (l.pass.store ≡ l.fn.self)
    × (length l.done.items ≡ length l.yielded)
    × (l.yielded ++ l.job-iterator.rest.items ≡ l.fn.jobs.items)
    × (length l.fn.jobs.items ≤ vec_capacity l.done)
    × Serves l.fn.pass (asks_of l.yielded) (replies_in l.done.items) l.pass
    × AreLetThrough (g.P.Pace.may_answer l.fn.pace) l.yielded
    × (rows_replied l.done.items ≡ rows_asked l.yielded)
