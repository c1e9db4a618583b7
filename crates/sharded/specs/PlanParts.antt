-- Parts of the plan of all shards, which goes from shard to shard.
use Rattle.std.specs.Prelude.{◌≡◌, ◌⊎◌, ℕ, zero, suc, List, [], ◌∷◌, ◌++◌, length, Option, None, Some}
use Rattle.history.specs.History.{state_of}
use Rattle.book.specs.Plan.{plan_of, items_after}
use Rattle.book.specs.declared.plan.Item.{Item}
use Rattle.one_map.specs.Hash.{shard_of}
use Rattle.shared.specs.Passes.{Shows, FindsBusy}
use Rattle.sharded.specs.Steps.{IsStepAt}
use Rattle.sharded.specs.StepsTo.{AreStepsTo, HasLooked, lost_in_all}

-- the pass did nothing: it may have seen more if its shard was visited
abbrev pub MayHaveLooked : Shows → Shows → Type 0
MayHaveLooked v w = (w ≡ v) ⊎ HasLooked v w

-- this holds of the passes to the first shards, and that to the next found another caller inside
abbrev pub MayHaveLookedToBusy : List Shows → List Shows → Type 0
MayHaveLookedToBusy vs ws =
    (n : ℕ) × (us : List Shows) × AreStepsTo MayHaveLooked n vs us × IsStepAt n FindsBusy us ws

-- the first shard that has items behind this one: the shard of its name
abbrev pub first_shard : ℕ → Option Item → ℕ
first_shard count None = 0
first_shard count (Some a) = shard_of count a.name

-- what is lost behind an item at this shard, and all that is lost at the shards after it
abbrev pub lost_from : ℕ → Option Item → List Shows → List Item
lost_from k a [] = []
lost_from zero a (v ∷ vs) = items_after a (plan_of (state_of v.seen)) ++ lost_in_all vs
lost_from (suc k) a (v ∷ vs) = lost_from k a vs

-- what is lost behind an item, by the histories that the passes have seen; all for `None`
abbrev pub lost_behind : Option Item → List Shows → List Item
lost_behind a vs = lost_from (first_shard (length vs) a) a vs
