-- The effects of the two kinds of tasks: calls, and parts in a mend.
use Rattle.std.specs.Prelude.{◌≡◌, ◌⊎◌, ◌≤◌, ℕ, Bool, true, false, not, List, length, Result, Ok, Err, Vec}
use Rattle.std.specs.Global.{Global}
use mathlib.Core.List.{IsPrefix}
use Rattle.sealed.specs.declared.fault.Fault.{Fault}
use Rattle.sealed.specs.declared.fault.Fault.TheVariants.{JournalFull}
use Rattle.book.specs.Holds.{IsCallFault}
use Rattle.requests.specs.declared.jobs.Cause.{Cause}
use Rattle.requests.specs.declared.jobs.Cause.TheVariants as cause
use Rattle.requests.specs.declared.jobs.Job.{Job}
use Rattle.requests.specs.declared.jobs.RowReply.{RowReply}
use Rattle.requests.specs.declared.jobs.Stopped.{Stopped}
use Rattle.shared.specs.Paced.{AreLetThrough, HasNotBegun, StoppedAt}
use Rattle.shared.specs.Passes.{Shows}
use Rattle.shared.specs.Serving.{asks_of, replies_in, rows_asked, rows_replied, Serves}
use Rattle.mender.specs.Drawn.{DrawerState}
use Rattle.mender.specs.Worked.{Finished, AreMended, StoppedFull, IfFull}
use Rattle.mender.specs.Worked as worked
use Rattle.rounds.specs.declared.kinds.Called.{Called}
use Rattle.rounds.specs.declared.kinds.Calls.{Calls}
use Rattle.rounds.specs.declared.kinds.Mended.{Mended}
use Rattle.rounds.specs.declared.kinds.Mended.TheVariants.{Paused, Worked}
use Rattle.rounds.specs.declared.kinds.Mending.{Mending}
use Rattle.rounds.specs.declared.kinds.Returned.{Returned}

-- ---- calls
-- calls can be made with any pass
abbrev pub FitsCalls : Calls → Type 0
FitsCalls calls = Unit {0}

-- each reply is to the next job's row, and is that of the sequential specification at its place,
-- and nothing else was done; if the run did not stop, each job has a reply
abbrev pub HaveReplies : Shows → List Job → Result (Vec RowReply Global) Stopped → Shows → Type 0
HaveReplies v jobs (Ok replies) w =
    (length replies.items ≡ length jobs)
    × Serves v (asks_of jobs) (replies_in replies.items) w
    × (rows_replied replies.items ≡ rows_asked jobs)
HaveReplies v jobs (Err stopped) w =
    Serves v (asks_of jobs) (replies_in stopped.done.items) w
    × IsPrefix (rows_replied stopped.done.items) (rows_asked jobs)

abbrev pub DidCalls : Shows → Calls → Called → Shows → Type 0
DidCalls v calls called w = HaveReplies v calls.0.items called.0 w

-- the pace may have admitted the rows that ran, and may have stopped the row at which a worker
-- paused
abbrev pub ArePacedJobs : (ℕ → Bool → Type 0) → Shows → List Job
    → Result (Vec RowReply Global) Stopped → Shows → Type 0
ArePacedJobs may_answer v jobs (Ok replies) w = AreLetThrough may_answer jobs
ArePacedJobs may_answer v jobs (Err stopped) w =
    HasNotBegun v stopped w ⊎ StoppedAt may_answer jobs stopped

abbrev pub ArePacedCalls : (ℕ → Bool → Type 0) → Shows → Calls → Called → Shows → Type 0
ArePacedCalls may_answer v calls called w = ArePacedJobs may_answer v calls.0.items called.0 w

-- ---- a part in a mend
-- the drawer of a part is one of its tickets
abbrev pub FitsPart : Mending → Type 0
FitsPart m = m.drawer.tickets ≡ m.tickets.value

-- a worker stops if memory runs out, or at a full journal: then it has seen as many calls as the
-- limit
abbrev pub IsStop : Fault → Shows → Type 0
IsStop fault w = IsCallFault fault × IfFull fault (w.store.limit ≤ length w.seen)

-- exactly the repairs with a result were made, in order, each by a ticket that was drawn
abbrev pub DidPart : Shows → Mending → DrawerState → Mended → Shows → Type 0
DidPart v m drawer (Worked (Ok done)) w =
    Finished m.plan.value.items.items m.drawer drawer done.items × AreMended v done.items w
DidPart v m drawer (Worked (Err stop)) w =
    worked.Stopped m.plan.value.items.items m.drawer drawer stop.done.items
    × AreMended v stop.done.items w
    × IfFull stop.fault (StoppedFull m.plan.value.items.items m.drawer drawer v stop.done.items w)
    × IsStop stop.fault w
DidPart v m drawer Paused w = (drawer ≡ m.drawer) × (w ≡ v)

abbrev pub DidMend : Shows → Mending → Returned → Shows → Type 0
DidMend v m back w = DidPart v m back.drawer back.mended w

abbrev pub IsPacedPart : (ℕ → Bool → Type 0) → Mending → Mended → Type 0
IsPacedPart may_answer m (Worked r) = may_answer m.row true
IsPacedPart may_answer m Paused = may_answer m.row false

abbrev pub IsPacedMend : (ℕ → Bool → Type 0) → Shows → Mending → Returned → Shows → Type 0
IsPacedMend may_answer v m back w = IsPacedPart may_answer m back.mended

-- ---- how they end
abbrev pub is_journal_full : Fault → Bool
is_journal_full JournalFull = true
is_journal_full fault = false

abbrev pub is_no_memory : Cause → Bool
is_no_memory cause.NoMemory = true
is_no_memory cause.Paused = false

-- a worker ran out of memory
abbrev pub calls_lack_memory : Result (Vec RowReply Global) Stopped → Bool
calls_lack_memory (Ok replies) = false
calls_lack_memory (Err stopped) = is_no_memory stopped.cause

-- a mend that meets a full journal comes to its end
abbrev pub mend_lacks_memory : Mended → Bool
mend_lacks_memory (Worked (Ok done)) = false
mend_lacks_memory (Worked (Err stop)) = not (is_journal_full stop.fault)
mend_lacks_memory Paused = false

-- the pace stopped a worker
abbrev pub calls_are_paused : Result (Vec RowReply Global) Stopped → Bool
calls_are_paused (Ok replies) = false
calls_are_paused (Err stopped) = not (is_no_memory stopped.cause)

abbrev pub mend_is_paused : Mended → Bool
mend_is_paused (Worked r) = false
mend_is_paused Paused = true
