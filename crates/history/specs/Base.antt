-- What remains of a state whose calls are discarded: all except the bytes.
use Rattle.std.specs.Prelude.{◌≡◌, ℕ, List, [], map, All, length}
use Rattle.std.specs.FinMap as finite
use Rattle.std.specs.FinSet as set
use Rattle.std.specs.List.Sorted.{IsStrictlySortedBy}
use Rattle.lrc_code.specs.declared.Code.{Code}
use Rattle.sealed.specs.Blob.{Lost, pair_cmp}
use Rattle.history.specs.Names.{name_cmp}
use Rattle.history.specs.State.{Blob, State}

-- a name with its blob, whose bytes are replaced by their length. The lost pairs are sorted
pub record Outline : Type 0 where
  pub name : List ℕ
  pub version : ℕ
  pub len : ℕ
  pub code : Code
  pub lost : List (ℕ × ℕ)

-- what contracts see of a base: the numbers of discarded calls and of their puts, and the names in
-- order
pub record Checkpoint : Type 0 where
  pub trimmed : ℕ
  pub puts : ℕ
  pub names : List Outline

abbrev pub empty_base : Checkpoint
empty_base = record { trimmed = 0; puts = 0; names = [] }

-- the names are sorted without repeats, and so are the pairs of each
abbrev pub IsRising : List Outline → Type 0
IsRising names = IsStrictlySortedBy name_cmp (map (λ o. o.name) names) × All (λ o. IsStrictlySortedBy pair_cmp o.lost) names

-- the lost pairs, sorted. Std specifies the members of a set and not their order, but a map's keys
-- are sorted
abbrev pub pairs_of : Lost → List (ℕ × ℕ)
pairs_of lost = finite.keys (finite.from_entries {X = Unit {0}} {R = pair_cmp} (map (λ pair. (pair, tt)) (set.items lost)))

abbrev pub outline_of : List ℕ × Blob → Outline
outline_of e = record { name = e.0; version = e.1.version; len = length e.1.bytes; code = e.1.code; lost = pairs_of e.1.lost }

-- the base has the state's puts, and the outline of each of its names
pub record Outlines (base : Checkpoint) (s : State) : Type 0 where
  pub puts : base.puts ≡ s.puts
  pub names : base.names ≡ map outline_of (finite.entries s.names)
