-- A step at one shard: a call at the shard of its name, a trim, or a plan.
use Rattle.std.specs.Prelude.{◌≡◌, ℕ, zero, suc, List, [], ◌∷◌, length, slice_get, slice_set}
use Rattle.std.specs.Prelude.{take, Option, None, Some, Result, IfOk}
use Rattle.sealed.specs.declared.fault.Fault.{Fault}
use Rattle.history.specs.Step.{Operation, repair}
use Rattle.history.specs.History.{History, state_of}
use Rattle.book.specs.Plan.{plan_of, items_after}
use Rattle.book.specs.declared.plan.Item.{Item}
use Rattle.book.specs.declared.plan.Plan.{Plan}
use Rattle.book.specs.declared.answer.Answer.{Answer}
use Rattle.shared.specs.Passes.{Which, Shows, FindsBusy}
use Rattle.shared.specs.Deeds.{Takes}
use Rattle.shared.specs.Calls.{Called}
use Rattle.shared.specs.Mends.{FoundBusy}
use Rattle.one_map.specs.Hash.{shard_of}
use Rattle.one_map.specs.OneMap.{operation_shard}

-- The pass to one shard made this step, and each other pass is as it was
pub record IsStepAt (k : ℕ) (P : Shows → Shows → Type 0) (vs ws : List Shows) : Type 0 where
  pub old : Shows
  pub new : Shows
  pub there : slice_get vs k ≡ Some old
  pub only : ws ≡ slice_set vs k new
  pub does : P old new

-- a call with this result, at the shard of its name
abbrev pub IsCallAt : List Shows → Operation → Result Answer Fault → List Shows → Type 0
IsCallAt vs o r ws = IsStepAt (operation_shard (length vs) o) (λ v w. Called v o r w) vs ws

-- a call that does not wait found another caller inside, at the shard of its name
abbrev pub IsBusyAt : List Shows → Operation → List Shows → Type 0
IsBusyAt vs o ws = IsStepAt (operation_shard (length vs) o) FindsBusy vs ws

-- a repair that does not wait found another caller inside, at the shard of its name
abbrev pub IsBusyRepairAt : List Shows → List ℕ → ℕ → ℕ → List Shows → Type 0
IsBusyRepairAt vs n j f ws =
    IsStepAt (operation_shard (length vs) (repair n j f)) (λ v w. FoundBusy v n j f w) vs ws

-- the plan of a shard, after all that its pass has then seen
abbrev pub IsPlanAt : List Shows → ℕ → Result Plan Fault → List Shows → Type 0
IsPlanAt vs k r ws =
    IsStepAt k
    (λ v w. Takes v None w × IfOk r (λ p. p.items.items ≡ plan_of (state_of w.seen))) vs ws

-- the first `most` items of the plan of a shard that come behind an item
abbrev pub IsPlanPartAt : Option Item → ℕ → List Shows → ℕ → Result Plan Fault → List Shows → Type 0
IsPlanPartAt a most vs k r ws =
    IsStepAt k
    (λ v w. Takes v None w
    × IfOk r (λ p. p.items.items ≡ take most (items_after a (plan_of (state_of w.seen)))))
    vs ws

-- ---- the shard of a name
abbrev pub width_at : List Which → ℕ → ℕ
width_at [] k = 0
width_at (s ∷ ss) zero = s.width
width_at (s ∷ ss) (suc k) = width_at ss k

-- how many bytes the fragments of a name's blob have
abbrev pub width_for : List Which → List ℕ → ℕ
width_for ss n = width_at ss (shard_of (length ss) n)

abbrev pub seen_at : List Shows → ℕ → History
seen_at [] k = []
seen_at (v ∷ vs) zero = v.seen
seen_at (v ∷ vs) (suc k) = seen_at vs k

-- the history that the pass to the shard of a name has seen
abbrev pub seen_for : List Shows → List ℕ → History
seen_for vs n = seen_at vs (shard_of (length vs) n)
