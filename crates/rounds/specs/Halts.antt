-- Why a run stopped before its end.
use Rattle.std.specs.Prelude.{◌≡◌, ℕ, Bool, false, List, Option, None, Some, if◌then◌else◌}
use Rattle.std.specs.List.{list_any}
use Rattle.rounds.specs.Errands.{DidCalls, DidMend, ArePacedCalls, IsPacedMend, calls_lack_memory, calls_are_paused, mend_lacks_memory, mend_is_paused}
use Rattle.rounds.specs.declared.kinds.Called.{Called}
use Rattle.rounds.specs.declared.kinds.Calls.{Calls}
use Rattle.rounds.specs.declared.kinds.Mending.{Mending}
use Rattle.rounds.specs.declared.kinds.Returned.{Returned}
use Rattle.rounds.specs.Rounds.{ArePaced, AtPace, DidAll, Effect}
use Rattle.rounds.specs.declared.work.NotRun.{NotRun}
use Rattle.rounds.specs.declared.work.NotRun.TheVariants as not_run
use Rattle.rounds.specs.declared.work.Ran.{Ran}
use Rattle.rounds.specs.declared.work.Work.{Work}
use Rattle.rounds.specs.Pools.{outcomes_of}
use Rattle.rounds.specs.declared.halt.Halt.{Halt}
use Rattle.rounds.specs.declared.halt.Halt.TheVariants as halt

-- the halt for a round that could not be run
abbrev pub halt_by : {E O : Type 0} → NotRun E O → Halt
halt_by (not_run.Memory left) = halt.Memory
halt_by (not_run.Start rans left) = halt.Start

-- why a round ends the run, if it does. Memory takes precedence over a pause
abbrev pub halt_after : {O : Type 0} → (O → Bool) → (O → Bool) → List O → Option Halt
halt_after lacks_memory is_paused outcomes =
    if list_any lacks_memory outcomes then Some halt.Memory
    else if list_any is_paused outcomes then Some halt.Paused
    else None

-- a worker came to the end of its part
abbrev pub GoesOn : {O : Type 0} → (O → Bool) → (O → Bool) → O → Type 0
GoesOn lacks_memory is_paused o = (lacks_memory o ≡ false) × (is_paused o ≡ false)

-- a round of such works, at such a pace, was run, and ended the run for this reason, or for none
pub record HasRound {E O : Type 0} (did : Effect E O) (paced : AtPace E O)
    (lacks_memory is_paused : O → Bool) (AreWorks : List (Work E) → Type 0)
    (may_answer : ℕ → Bool → Type 0) (reason : Option Halt) : Type 0 where
  pub works : List (Work E)
  pub rans : List (Ran O)
  pub are : AreWorks works
  pub did_all : DidAll did works rans
  pub are_paced : ArePaced paced may_answer works rans
  pub ends : halt_after lacks_memory is_paused (outcomes_of rans) ≡ reason

-- ---- of calls, and of a mend
abbrev pub called_lacks : Called → Bool
called_lacks o = calls_lack_memory o.0

abbrev pub called_paused : Called → Bool
called_paused o = calls_are_paused o.0

abbrev pub mend_lacks : Returned → Bool
mend_lacks o = mend_lacks_memory o.mended

abbrev pub mend_paused : Returned → Bool
mend_paused o = mend_is_paused o.mended

abbrev pub HasCallRound : (List (Work Calls) → Type 0) → (ℕ → Bool → Type 0) → Option Halt → Type 0
HasCallRound AreWorks may_answer reason =
    HasRound DidCalls ArePacedCalls called_lacks called_paused AreWorks may_answer reason

abbrev pub HasMendRound : (List (Work Mending) → Type 0) → (ℕ → Bool → Type 0) → Option Halt
    → Type 0
HasMendRound AreWorks may_answer reason =
    HasRound DidMend IsPacedMend mend_lacks mend_paused AreWorks may_answer reason
