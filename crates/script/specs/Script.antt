-- Which records of a script are refused, and why.
use Rattle.std.specs.Prelude.{ℕ, List, [], ◌∷◌, All, Bool, true, false, Option, Some, None, is_some, ◌&&◌, ◌||◌, ◌==◌, ◌≡◌, ◌<◌, ◌+◌, ◌-◌, ◌≤◌, not, length, map, take, slice_get, slice_index_or, nat_le, if◌then◌else◌}
use Rattle.std.specs.List.{list_any}
use Rattle.csv.specs.Reading.{default_config, records, strip_bom}
use Rattle.script.specs.Numbers.{value}
use Rattle.script.specs.Fields.{Record, a_field, b_field, fits_arguments, fits_name, is_number_in, is_worker, name_field, operation_field, operation_named, round_field, row_of, worker_field}
use Rattle.script.specs.declared.rows.BadScript.{BadScript}
use Rattle.script.specs.declared.rows.BadScript.TheVariants as bad
use Rattle.script.specs.declared.rows.Head.{Head}
use Rattle.script.specs.declared.rows.NotRead.{NotRead}
use Rattle.script.specs.declared.rows.NotRead.TheVariants as not_read
use Rattle.script.specs.declared.rows.Operation.{Operation}
use Rattle.script.specs.declared.rows.Refusal.{Refusal}
use Rattle.script.specs.declared.rows.Refusal.TheVariants as refusal_is
use Rattle.script.specs.declared.rows.Row.{Row}
use Rattle.script.specs.declared.rows.Task.{Task}
use Rattle.script.specs.declared.rows.Task.TheVariants as task
use Rattle.script.specs.declared.rows.Word.{Word}
use Rattle.script.specs.declared.rows.Word.TheVariants as word

-- whether a task is a `mend`
abbrev pub is_mend : Task → Bool
is_mend task.Mend = true
is_mend (task.Make a) = false

-- the round of the last row, 0 if there is none
abbrev pub last_round : List Row → ℕ
last_round rows = slice_index_or (map (λ row. row.round) rows) (length rows - 1) 0

-- a row of the round
abbrev pub is_in_round : ℕ → Row → Bool
is_in_round round row = row.round == round

-- a `mend` of the round
abbrev pub is_mend_in_round : ℕ → Row → Bool
is_mend_in_round round row = is_in_round round row && is_mend row.task

-- the round has an earlier row, and this row or an earlier one of the round is a `mend`
abbrev pub breaks_mend : List Row → Row → Bool
breaks_mend earlier row =
    list_any (is_in_round row.round) earlier && (is_mend row.task || list_any (is_mend_in_round row.round) earlier)

-- the word of the first test that refuses
abbrev pub first_word : List (Bool × Word) → Option Word
first_word [] = None
first_word ((refuses, w) ∷ rest) = if refuses then Some w else first_word rest

-- the tests of a record after these rows, in their order, each with its word
abbrev pub tests : ℕ → List Row → Record → List (Bool × Word)
tests workers earlier r =
    (length earlier == 65536, word.Rows)
    ∷ (not (length r == 6), word.Fields)
    ∷ (not (is_number_in 1 4294967295 (round_field r) && nat_le (last_round earlier) (value (round_field r))), word.Round)
    ∷ (not (is_worker workers (operation_named (operation_field r)) (worker_field r)), word.Worker)
    ∷ (not (is_some (operation_named (operation_field r))), word.Op)
    ∷ (not (fits_name (operation_named (operation_field r)) (name_field r)), word.Name)
    ∷ (not (fits_arguments (operation_named (operation_field r)) (a_field r) (b_field r)), word.Argument)
    ∷ (breaks_mend earlier (row_of r), word.Mend)
    ∷ []

-- the word that refuses a record after these rows, if one does
unfoldable pub refusal : ℕ → List Row → Record → Option Word
refusal workers earlier r = first_word (tests workers earlier r)

-- a refusal of one record has its word, or memory ran out
abbrev pub RefusesWith : Refusal → Option Word → Type 0
RefusesWith (refusal_is.Refused w) o = o ≡ Some w
RefusesWith refusal_is.NoMemory o = Unit {0}

-- the word that refuses a record's name or arguments, if one does
abbrev pub task_refusal : Option Operation → List ℕ → List ℕ → List ℕ → Option Word
task_refusal o name a b = first_word ((not (fits_name o name), word.Name) ∷ (not (fits_arguments o a b), word.Argument) ∷ [])

abbrev pub last_row : List Row → Option Row
last_row rows = slice_get rows (length rows - 1)

abbrev pub is_mend_row : Option Row → Bool
is_mend_row None = false
is_mend_row (Some row) = is_mend row.task

-- no row is of a later round than the last one, and the last round has a `mend` only if the last
-- row is one
pub record IsTidy (rows : List Row) : Type 0 where
  pub rises : All (λ row. row.round ≤ last_round rows) rows
  pub alone : list_any (is_mend_in_round (last_round rows)) rows ≡ is_mend_row (last_row rows)

-- a refusal of the row of this number
abbrev pub at_row : Refusal → ℕ → BadScript
at_row (refusal_is.Refused w) row = bad.Refused row w
at_row refusal_is.NoMemory row = bad.NoMemory

-- the last three tests of a record that passed the others
abbrev pub late_word : List Row → Record → Option Word
late_word earlier r =
    first_word (
    (not (fits_name (operation_named (operation_field r)) (name_field r)), word.Name)
    ∷ (not (fits_arguments (operation_named (operation_field r)) (a_field r) (b_field r)), word.Argument)
    ∷ (breaks_mend earlier (row_of r), word.Mend)
    ∷ [])

-- the first tests are passed, and these are the first three fields
pub record Heads (workers : ℕ) (earlier : List Row) (r : Record) (head : Head) : Type 0 where
  pub late : refusal workers earlier r ≡ late_word earlier r
  pub round : head.round ≡ value (round_field r)
  pub rises : last_round earlier ≤ head.round
  pub worker : head.worker ≡ value (worker_field r)
  pub operation : operation_named (operation_field r) ≡ Some head.operation

-- a call is by one of this many workers
abbrev pub IsWorkerOf : ℕ → ℕ → Task → Type 0
IsWorkerOf workers who (task.Make a) = (1 ≤ who) × (who ≤ workers)
IsWorkerOf workers who task.Mend = Unit {0}

-- the row's worker is one of this many, unless it is a `mend`
abbrev pub HasWorker : ℕ → Row → Type 0
HasWorker workers row = IsWorkerOf workers row.worker row.task

-- the records of a script's bytes
abbrev pub script_records : List ℕ → List Record
script_records text = records default_config (strip_bom text)

-- the word that refuses the record at an index, after the rows of those before it
unfoldable pub refused_at : ℕ → List Record → ℕ → Option Word
refused_at workers all i = refusal workers (map row_of (take i all)) (slice_index_or all i [])

-- no record is refused before an index
abbrev pub AcceptedBefore : ℕ → List Record → ℕ → Type 0
AcceptedBefore workers all n = (i : ℕ) → i < n → refused_at workers all i ≡ None

-- the error has the first record that is refused and its first word, or memory ran out
abbrev pub Explains : ℕ → List Record → BadScript → Type 0
Explains workers all (bad.Refused number w) = (i : ℕ) × (number ≡ i + 1) × (i < length all) × AcceptedBefore workers all i × (refused_at workers all i ≡ Some w)
Explains workers all bad.NoMemory = Unit {0}

-- why a script was not read: the error has the first record that is refused and its first word, or
-- memory ran out, or the reader failed
abbrev pub ExplainsFailure : ℕ → List Record → NotRead → Type 0
ExplainsFailure workers all (not_read.Bad error) = Explains workers all error
ExplainsFailure workers all (not_read.Reader kind) = Unit {0}
