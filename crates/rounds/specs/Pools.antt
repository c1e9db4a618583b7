-- The passes of a run's workers.
use Rattle.std.specs.Prelude.{◌≡◌, ℕ, ◌+◌, ◌<◌, List, [], ◌∷◌, map, length}
use Rattle.std.specs.List.{flat_map}
use mathlib.Core.List.{IsPrefix}
use Rattle.gate.specs.Places.{times}
use Rattle.book.specs.Serial.{Act}
use Rattle.shared.specs.Passes.{Shows, Which}
use Rattle.rounds.specs.declared.work.Ran.{Ran}
use Rattle.rounds.specs.declared.work.Work.{Work}
use Rattle.rounds.specs.declared.pool.Pool.{Pool}

-- each is a pass to this store with a room of 1
abbrev pub AreWorkers : Which → List Shows → Type 0
AreWorkers store [] = Unit {0}
AreWorkers store (p ∷ ps) = ((p.store ≡ store) × (p.room ≡ 1)) × AreWorkers store ps

-- the places of what these passes did, one pass after the other
abbrev pub did_by : List Shows → List ℕ
did_by passes = flat_map (λ p. p.did) passes

-- each has seen a prefix of these acts
abbrev pub HaveSeen : List Act → List Shows → Type 0
HaveSeen acts [] = Unit {0}
HaveSeen acts (p ∷ ps) = IsPrefix p.acts acts × HaveSeen acts ps

-- each act that it has seen is its own
abbrev pub IsAllOwn : Shows → Type 0
IsAllOwn v = (k : ℕ) → k < length v.acts → times k v.did ≡ 1

-- all passes to the store, at least one worker's among them, whose rooms add up to the 64 of its
-- first one
pub record IsPool (store : Which) (pool : Pool) : Type 0 where
  pub first : pool.first.store ≡ store
  pub workers : AreWorkers store pool.passes.items
  pub some : 0 < length pool.passes.items
  pub rooms : pool.first.room + length pool.passes.items ≡ 64

-- passes with the labels from this one on, which have seen these acts and did nothing
abbrev pub AreNew : List Act → ℕ → List Shows → Type 0
AreNew acts who [] = Unit {0}
AreNew acts who (p ∷ ps) = ((p.who ≡ who) × (p.acts ≡ acts) × (p.did ≡ [])) × AreNew acts (who + 1) ps

-- a pool before a round. The first pass has all acts as its own. Each worker has its number as
-- label, has seen all acts, and has done none since
pub record IsFresh (store : Which) (pool : Pool) : Type 0 where
  pub pool_is : IsPool store pool
  pub new : AreNew pool.first.acts 1 pool.passes.items
  pub own : IsAllOwn pool.first

-- the passes that go into a round
abbrev pub passes_of : {E : Type 0} → List (Work E) → List Shows
passes_of works = map (λ w. w.pass) works

-- and those that come back from it
abbrev pub passes_back : {O : Type 0} → List (Ran O) → List Shows
passes_back rans = map (λ r. r.pass) rans

abbrev pub outcomes_of : {O : Type 0} → List (Ran O) → List O
outcomes_of rans = map (λ r. r.outcome) rans
