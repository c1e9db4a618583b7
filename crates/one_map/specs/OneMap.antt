-- A sharded store as one object of one thread: one map from names to blobs.
use Rattle.std.specs.Prelude.{ℕ, ◌<◌, ◌==◌, cond, List, [], ◌∷◌}
use Rattle.std.specs.List.{filter}
use Rattle.std.specs.FinMap as map
use Rattle.history.specs.Names.{name_cmp}
use Rattle.history.specs.Parts as call
use Rattle.history.specs.State.{Blob, State}
use Rattle.history.specs.declared.note.Note.{Note}
use Rattle.history.specs.Step.{Operation, IsReply, after}
use Rattle.history.specs.History.{History, IsLegal, call_of}
use Rattle.one_map.specs.Hash.{shard_of}

-- The map, and how many puts each shard has had. A version is a shard and a number of a put there
pub record OneMap : Type 0 where
  pub names : map.FinMap name_cmp Blob
  pub puts : ℕ → ℕ

abbrev pub empty_map : OneMap
empty_map = record { names = map.empty; puts = λ k. 0 }

-- the state that a call at a shard finds: the whole map, with the puts of this shard
abbrev pub state_at : OneMap → ℕ → State
state_at s k = record { names = s.names; puts = s.puts k }

-- the name that an operation is on
abbrev pub name_of : Operation → List ℕ
name_of o = call.name_of (call_of o)

module _ (count : ℕ) where
  -- the shard of an operation: that of its name
  abbrev pub operation_shard : Operation → ℕ
  operation_shard o = shard_of count (name_of o)

  abbrev pub map_after : OneMap → Operation → Note → OneMap
  map_after s o note = record {
    names = (after (state_at s (operation_shard o)) o note).names;
    puts = λ k. cond (operation_shard o == k)
        (after (state_at s (operation_shard o)) o note).puts (s.puts k);
  }

  abbrev pub map_after_all : OneMap → History → OneMap
  map_after_all s [] = s
  map_after_all s (e ∷ es) = map_after_all (map_after s e.operation e.note) es

  -- each note is the reply of the object of one thread to its operation, over the one map
  abbrev pub IsLegalOneMapFrom : ℕ → OneMap → History → Type 0
  IsLegalOneMapFrom w s [] = Unit {0}
  IsLegalOneMapFrom w s (e ∷ es) =
      IsReply w (state_at s (operation_shard e.operation)) e.operation e.note
      × IsLegalOneMapFrom w (map_after s e.operation e.note) es

  abbrev pub map_of : History → OneMap
  map_of h = map_after_all empty_map h

  abbrev pub IsLegalOneMap : ℕ → History → Type 0
  IsLegalOneMap w h = IsLegalOneMapFrom w empty_map h

  -- the calls of one shard, in their order
  abbrev pub part : ℕ → History → History
  part k h = filter (λ e. operation_shard e.operation == k) h

  -- the calls of each shard are a legal history of a store
  abbrev pub AreLegalParts : ℕ → History → Type 0
  AreLegalParts w h = (k : ℕ) → k < count → IsLegal w (part k h)
