-- What the six fields of a record represent.
use Rattle.std.specs.Prelude.{ℕ, List, [], ◌∷◌, Bool, true, false, Option, Some, None, ◌&&◌, ◌||◌, ◌==◌, ◌+◌, ◌*◌, ◌-◌, length, slice_index_or, nat_le, if◌then◌else◌, codes, bytes_eq}
use Rattle.std.specs.Char.{is_ascii_digit}
use Rattle.lrc_code.specs.declared.Code.TheVariants.{Wide, Small}
use Rattle.script.specs.Names.{is_name}
use Rattle.script.specs.Numbers.{is_number, value}
use Rattle.requests.specs.declared.jobs.Ask.TheVariants as ask
use Rattle.script.specs.declared.rows.Operation.{Operation}
use Rattle.script.specs.declared.rows.Operation.TheVariants.{Put, PutSmall, Read, Lose, Repair, Delete, Stat, Trim, Mend}
use Rattle.script.specs.declared.rows.Row.{Row}
use Rattle.script.specs.declared.rows.Task.{Task}
use Rattle.script.specs.declared.rows.Task.TheVariants as task

-- a record is the list of its fields
abbrev pub Record : Type 0
Record = List (List ℕ)

-- the six fields, each empty if the record has fewer
abbrev pub round_field : Record → List ℕ
round_field r = slice_index_or r 0 []

abbrev pub worker_field : Record → List ℕ
worker_field r = slice_index_or r 1 []

abbrev pub operation_field : Record → List ℕ
operation_field r = slice_index_or r 2 []

abbrev pub name_field : Record → List ℕ
name_field r = slice_index_or r 3 []

abbrev pub a_field : Record → List ℕ
a_field r = slice_index_or r 4 []

abbrev pub b_field : Record → List ℕ
b_field r = slice_index_or r 5 []

-- the operations by their words
unfoldable pub operation_named : List ℕ → Option Operation
operation_named text =
    if bytes_eq text (codes "put") then Some Put
    else if bytes_eq text (codes "put6") then Some PutSmall
    else if bytes_eq text (codes "read") then Some Read
    else if bytes_eq text (codes "lose") then Some Lose
    else if bytes_eq text (codes "repair") then Some Repair
    else if bytes_eq text (codes "delete") then Some Delete
    else if bytes_eq text (codes "stat") then Some Stat
    else if bytes_eq text (codes "trim") then Some Trim
    else if bytes_eq text (codes "mend") then Some Mend
    else None

-- the text is a number from low to high
abbrev pub is_number_in : ℕ → ℕ → List ℕ → Bool
is_number_in low high text = is_number text && nat_le low (value text) && nat_le (value text) high

-- the worker of a `mend` is `0`, any other is one of the workers
abbrev pub is_worker : ℕ → Option Operation → List ℕ → Bool
is_worker workers (Some Mend) text = bytes_eq text (codes "0")
is_worker workers operation text = is_number_in 1 workers text

-- a trim and a `mend` have no name
abbrev pub fits_name : Option Operation → List ℕ → Bool
fits_name (Some Trim) text = length text == 0
fits_name (Some Mend) text = length text == 0
fits_name operation text = is_name text

-- a digit of a byte in hexadecimal
abbrev pub is_hex_digit : ℕ → Bool
is_hex_digit c = is_ascii_digit c || (nat_le 97 c && nat_le c 102)

abbrev pub hex_digit : ℕ → ℕ
hex_digit c = if is_ascii_digit c then c - 48 else c - 87

-- two digits a byte
abbrev pub are_hex_bytes : List ℕ → Bool
are_hex_bytes [] = true
are_hex_bytes (high ∷ []) = false
are_hex_bytes (high ∷ low ∷ rest) = is_hex_digit high && is_hex_digit low && are_hex_bytes rest

abbrev pub hex_bytes : List ℕ → List ℕ
hex_bytes [] = []
hex_bytes (high ∷ []) = []
hex_bytes (high ∷ low ∷ rest) = (hex_digit high * 16 + hex_digit low) ∷ hex_bytes rest

-- the bytes of a put: a field as text, or in hexadecimal
abbrev pub are_bytes : List ℕ → List ℕ → Bool
are_bytes a b = bytes_eq a (codes "text") || (bytes_eq a (codes "hex") && are_hex_bytes b)

abbrev pub field_bytes : List ℕ → List ℕ → List ℕ
field_bytes a b = if bytes_eq a (codes "text") then b else hex_bytes b

abbrev pub are_numbers : List ℕ → List ℕ → Bool
are_numbers a b = is_number a && is_number b

abbrev pub are_empty : List ℕ → List ℕ → Bool
are_empty a b = (length a == 0) && (length b == 0)

-- the arguments that each operation takes: a delete, a stat and a `mend` none
abbrev pub fits_arguments : Option Operation → List ℕ → List ℕ → Bool
fits_arguments (Some Put) a b = are_bytes a b
fits_arguments (Some PutSmall) a b = are_bytes a b
fits_arguments (Some Read) a b = are_numbers a b
fits_arguments (Some Lose) a b = are_numbers a b
fits_arguments (Some Repair) a b = are_numbers a b
fits_arguments (Some Trim) a b = is_number a && (length b == 0)
fits_arguments operation a b = are_empty a b

-- the task of a record that is not refused. A record without an operation is refused
abbrev pub task_of : Option Operation → List ℕ → List ℕ → List ℕ → Task
task_of (Some Put) name a b = task.Make (ask.Put name Wide (field_bytes a b))
task_of (Some PutSmall) name a b = task.Make (ask.Put name Small (field_bytes a b))
task_of (Some Read) name a b = task.Make (ask.Read name (value a) (value b))
task_of (Some Lose) name a b = task.Make (ask.Lose name (value a) (value b))
task_of (Some Repair) name a b = task.Make (ask.Repair name (value a) (value b))
task_of (Some Delete) name a b = task.Make (ask.Delete name)
task_of (Some Stat) name a b = task.Make (ask.Stat name)
task_of (Some Trim) name a b = task.Make (ask.Trim (value a))
task_of operation name a b = task.Mend

-- the row that a record represents if it is not refused
abbrev pub row_of : Record → Row
row_of r = record {
  round = value (round_field r);
  worker = value (worker_field r);
  task = task_of (operation_named (operation_field r)) (name_field r) (a_field r) (b_field r);
}
