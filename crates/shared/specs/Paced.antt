-- How far a run came, and why it stopped.
use Rattle.std.specs.Prelude.{◌≡◌, ℕ, Bool, true, false, All, List, [], ◌∷◌, ◌++◌, length}
use Rattle.requests.specs.declared.jobs.Ask.{Ask}
use Rattle.requests.specs.declared.jobs.Ask.TheVariants.{Delete, Stat}
use Rattle.requests.specs.declared.jobs.Cause.{Cause}
use Rattle.requests.specs.declared.jobs.Cause.TheVariants.{NoMemory, Paused}
use Rattle.requests.specs.declared.jobs.Job.{Job}
use Rattle.requests.specs.declared.jobs.Stopped.{Stopped}
use Rattle.shared.specs.Passes.{Shows}

-- the pace, of which is known what it may answer for a row, may have let the rows of these jobs
-- through
abbrev pub AreLetThrough : (ℕ → Bool → Type 0) → List Job → Type 0
AreLetThrough may_answer jobs = All (λ job. may_answer job.row true) jobs

-- a deletion and a question for the shape do not allocate
abbrev pub AsksMemory : Ask → Type 0
AsksMemory (Delete name) = ⊥
AsksMemory (Stat name) = ⊥
AsksMemory ask = Unit {0}

-- why a run stops at this job: the pace may hold its row back; or it may let it through, and memory
-- was refused to the call
abbrev pub IsCause : (ℕ → Bool → Type 0) → Job → Cause → Type 0
IsCause may_answer job Paused = may_answer job.row false
IsCause may_answer job NoMemory = may_answer job.row true × AsksMemory job.ask

-- a run stopped at a job, for this cause: all jobs before it were let through, and have their
-- replies
pub record StoppedAt (may_answer : ℕ → Bool → Type 0) (jobs : List Job) (stopped : Stopped) : Type 0 where
  pub before : List Job
  pub job : Job
  pub after : List Job
  pub jobs_are : jobs ≡ before ++ job ∷ after
  pub replies : length stopped.done.items ≡ length before
  pub let_through : AreLetThrough may_answer before
  pub cause : IsCause may_answer job stopped.cause

-- room for the replies was refused, and nothing was done
pub record HasNotBegun (v : Shows) (stopped : Stopped) (w : Shows) : Type 0 where
  pub none : stopped.done.items ≡ []
  pub memory : stopped.cause ≡ NoMemory
  pub pass : w ≡ v
