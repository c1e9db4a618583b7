-- Steps at all shards, one after the other: trims, plans, and looks.
use Rattle.std.specs.Prelude.{◌≡◌, ℕ, zero, suc, List, [], ◌∷◌, length, None, Some}
use Rattle.std.specs.List.{flat_map}
use Rattle.history.specs.History.{state_of}
use Rattle.book.specs.Serial.{trimmed}
use Rattle.book.specs.Plan.{plan_of}
use Rattle.book.specs.declared.plan.Item.{Item}
use Rattle.shared.specs.Deeds.{Takes}
use Rattle.shared.specs.Passes.{Shows, FindsBusy}
use Rattle.sharded.specs.Steps.{IsStepAt}

module _ (P : Shows → Shows → Type 0) where
  -- the passes to the first n shards made this step, and the others are as they were
  abbrev pub AreStepsTo : ℕ → List Shows → List Shows → Type 0
  AreStepsTo n [] ws = ws ≡ []
  AreStepsTo n (v ∷ vs) [] = ⊥
  AreStepsTo zero (v ∷ vs) (w ∷ ws) = (w ≡ v) × AreStepsTo zero vs ws
  AreStepsTo (suc n) (v ∷ vs) (w ∷ ws) = P v w × AreStepsTo n vs ws

  -- every pass made it
  abbrev pub AreSteps : List Shows → List Shows → Type 0
  AreSteps vs ws = AreStepsTo (length vs) vs ws

  -- the passes to some first shards made it, and the others are as they were
  abbrev pub AreFirstSteps : List Shows → List Shows → Type 0
  AreFirstSteps vs ws = (n : ℕ) × AreStepsTo n vs ws

-- the pass may have seen more, and did nothing
abbrev pub HasLooked : Shows → Shows → Type 0
HasLooked v w = Takes v None w

-- the passes to the first shards have looked, and that to the next found another caller inside
abbrev pub HaveLookedToBusy : List Shows → List Shows → Type 0
HaveLookedToBusy vs ws =
    (n : ℕ) × (us : List Shows) × AreStepsTo HasLooked n vs us × IsStepAt n FindsBusy us ws

-- a journal was trimmed to its last entries
abbrev pub IsTrimmed : ℕ → Shows → Shows → Type 0
IsTrimmed keep v w = (n : ℕ) × Takes v (Some (trimmed keep n)) w

-- the first journals were trimmed, and the pass to the next shard did nothing
abbrev pub AreTrimmedInPart : ℕ → List Shows → List Shows → Type 0
AreTrimmedInPart keep vs ws =
    (n : ℕ) × (us : List Shows)
    × AreStepsTo (IsTrimmed keep) n vs us × IsStepAt n HasLooked us ws

-- the first journals were trimmed, and the pass to the next shard found another caller inside
abbrev pub AreTrimmedToBusy : ℕ → List Shows → List Shows → Type 0
AreTrimmedToBusy keep vs ws =
    (n : ℕ) × (us : List Shows)
    × AreStepsTo (IsTrimmed keep) n vs us × IsStepAt n FindsBusy us ws

-- what is lost at each shard, by the histories that the passes have seen
abbrev pub lost_in_all : List Shows → List Item
lost_in_all vs = flat_map (λ v. plan_of (state_of v.seen)) vs
