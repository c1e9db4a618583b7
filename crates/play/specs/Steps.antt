-- The steps of a run: what the sequential specification does for the rows of a script.
use Rattle.std.specs.Prelude.{ℕ, List, [], ◌∷◌, All}
use Rattle.std.specs.List.{flat_map, fold}
use Rattle.history.specs.History.{History}
use Rattle.book.specs.Serial.{Standing, opening, Deed, Does, next, act_of, events_in}

-- a step: the row of the script, counted from 1, the worker that takes it, and the deed
pub record Step : Type 0 where
  pub row : ℕ
  pub who : ℕ
  pub deed : Deed

-- the standing after these steps
abbrev pub standing_after : List Step → Standing
standing_after steps = fold (λ s x. next s x.deed) opening steps

-- each step with the standing that it finds
abbrev pub Found : Type 0
Found = Standing × Step

abbrev pub found_from : Standing → List Step → List Found
found_from s [] = []
found_from s (x ∷ xs) = (s, x) ∷ found_from (next s x.deed) xs

abbrev pub found : List Step → List Found
found steps = found_from opening steps

-- each step is what the sequential specification does there
abbrev pub AreDone : ℕ → ℕ → List Step → Type 0
AreDone w limit steps = All (λ (f : Found). Does w limit f.0 f.1.deed) (found steps)

-- the calls that have an answer, in order: the history
abbrev pub calls_in : List Step → History
calls_in steps = flat_map (λ (x : Step). events_in (act_of x.who x.deed)) steps
