-- Snapshots: versions of blobs that are taken out of a store.
use Rattle.std.specs.Prelude.{◌≡◌, ℕ, List, Option, Result}
use Rattle.sealed.specs.declared.fault.Fault.{Fault}
use Rattle.sealed.specs.declared.value.Sealed.{Sealed}
use Rattle.history.specs.Step.{Operation, read}
use Rattle.book.specs.declared.answer.Answer.{Answer}
use Rattle.shared.specs.Passes.{Shows}
use Rattle.shared.specs.Calls.{Called}
use Rattle.shared.specs.Snapshots.{version_held_by}

-- what is between two passes by a call and its result
abbrev pub Calling : Type 0 → Type 1
Calling V = V → Operation → Result Answer Fault → V → Type 0

-- no byte of the name was read, and the result is what the answer gives
pub record TakesVersion {V : Type 0} (Does Lists : Calling V) (v : V) (n : List ℕ)
    (result : Result (Option Sealed) Fault) (w : V) : Type 0 where
  pub answer : Result Answer Fault
  pub called : Does v (read n 0 0) answer w
  pub listed : Lists v (read n 0 0) answer w
  pub held : result ≡ version_held_by answer

-- the same of a store alone, which is in no list
abbrev pub TakesSnapshot : Shows → List ℕ → Result (Option Sealed) Fault → Shows → Type 0
TakesSnapshot v n result w = TakesVersion Called (λ _ _ _ _. Unit {0}) v n result w
