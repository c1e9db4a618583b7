-- The effect of a round's workers.
use Rattle.std.specs.Prelude.{◌≡◌, ℕ, Bool, List, [], ◌∷◌, ◌++◌}
use Rattle.shared.specs.Passes.{Shows, Which}
use Rattle.rounds.specs.declared.work.NotRun.{NotRun}
use Rattle.rounds.specs.declared.work.NotRun.TheVariants.{Memory, Start}
use Rattle.rounds.specs.declared.work.Ran.{Ran}
use Rattle.rounds.specs.declared.work.Started.{Started}
use Rattle.rounds.specs.declared.work.Started.TheVariants.{Busy, Idle, Done}
use Rattle.rounds.specs.declared.work.Work.{Work}

-- what the outcome of a task may be, with the pass before and after it
abbrev pub Effect : Type 0 → Type 0 → Type 1
Effect E O = Shows → E → O → Shows → Type 0

-- the same at a pace, of which is known what it may answer for a row
abbrev pub AtPace : Type 0 → Type 0 → Type 1
AtPace E O = (ℕ → Bool → Type 0) → Effect E O

-- the pass is one to this store
abbrev pub IsWorkFor : {E : Type 0} → (E → Type 0) → Which → Work E → Type 0
IsWorkFor fits store w = (w.pass.store ≡ store) × fits w.errand

abbrev pub AllBelongTo : {E : Type 0} → (E → Type 0) → Which → List (Work E) → Type 0
AllBelongTo fits store [] = Unit {0}
AllBelongTo fits store (w ∷ ws) = IsWorkFor fits store w × AllBelongTo fits store ws

abbrev pub Did : {E O : Type 0} → Effect E O → Work E → Ran O → Type 0
Did did work ran = did work.pass work.errand ran.outcome ran.pass

-- a relation of each work and its result
abbrev pub EachRan : {E O : Type 0} → (Work E → Ran O → Type 0) → List (Work E) → List (Ran O)
    → Type 0
EachRan P [] [] = Unit {0}
EachRan P [] (r ∷ rs) = ⊥
EachRan P (w ∷ ws) [] = ⊥
EachRan P (w ∷ ws) (r ∷ rs) = P w r × EachRan P ws rs

-- each worker ran its task
abbrev pub DidAll : {E O : Type 0} → Effect E O → List (Work E) → List (Ran O) → Type 0
DidAll did works rans = EachRan (Did did) works rans

-- each worker was paced
abbrev pub ArePaced : {E O : Type 0} → AtPace E O → (ℕ → Bool → Type 0) → List (Work E)
    → List (Ran O) → Type 0
ArePaced paced may_answer works rans = EachRan (Did (paced may_answer)) works rans

-- a worker ran its task at this pace
abbrev pub DidAt : {E O : Type 0} → Effect E O → AtPace E O → (ℕ → Bool → Type 0) → Work E → Ran O
    → Type 0
DidAt did paced may_answer work ran = Did did work ran × Did (paced may_answer) work ran

-- the works of a round without results: unchanged, or the first ones are done and the others
-- unchanged
abbrev pub AreReturned : {E O : Type 0} → Effect E O → List (Work E) → NotRun E O → Type 0
AreReturned did works (Memory left) = left.items ≡ works
AreReturned {E} did works (Start rans left) =
    (done : List (Work E)) × (works ≡ done ++ left.items) × DidAll did done rans.items

-- ---- between the start and the end of a round
-- the work of a worker
abbrev pub work_of : {E P O : Type 0} → Started E P O → Work E
work_of (Busy handle) = handle.promise.0.value
work_of (Idle work) = work
work_of (Done promise ran) = promise.0.value

abbrev pub IsReady : {E P O : Type 0} → (E → Type 0) → Effect E O → AtPace E O → Which → P
    → (ℕ → Bool → Type 0) → Started E P O → Type 0
IsReady fits did paced store pace may_answer (Busy handle) = handle.promise.1.value ≡ pace
IsReady fits did paced store pace may_answer (Idle work) = IsWorkFor fits store work
IsReady fits did paced store pace may_answer (Done promise ran) =
    DidAt did paced may_answer promise.0.value ran

abbrev pub AreReady : {E P O : Type 0} → (E → Type 0) → Effect E O → AtPace E O → Which → P
    → (ℕ → Bool → Type 0) → List (Started E P O) → Type 0
AreReady fits did paced store pace may_answer [] = Unit {0}
AreReady fits did paced store pace may_answer (s ∷ ss) =
    IsReady fits did paced store pace may_answer s
    × AreReady fits did paced store pace may_answer ss
