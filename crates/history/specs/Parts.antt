-- The names that entries can change.
use Rattle.std.specs.Prelude.{ℕ, Bool, true, false, ◌&&◌, List}
use Rattle.std.specs.List.{filter, list_any}
use Rattle.std.specs.Ordering.{eq_by_cmp}
use Rattle.history.specs.Names.{name_cmp}
use Rattle.history.specs.declared.note.Call.{Call}
use Rattle.history.specs.declared.note.Call.TheVariants.{Put, Read, Lose, Repair, Restore, Delete, Stat}
use Rattle.history.specs.declared.note.Entry.{Entry}

abbrev pub name_of : Call → List ℕ
name_of (Put n code len) = n
name_of (Read n start len) = n
name_of (Lose n j f) = n
name_of (Repair n j f) = n
name_of (Restore n v j f) = n
name_of (Delete n) = n
name_of (Stat n) = n

-- whether some reply to the call changes what its name has
abbrev pub can_change : Call → Bool
can_change (Put n code len) = true
can_change (Read n start len) = false
can_change (Lose n j f) = true
can_change (Repair n j f) = true
can_change (Restore n v j f) = true
can_change (Delete n) = true
can_change (Stat n) = false

-- the entries whose calls can change a state
abbrev pub changes_of : List Entry → List Entry
changes_of es = filter (λ e. can_change e.call) es

abbrev pub has_name : List (List ℕ) → List ℕ → Bool
has_name names q = list_any (eq_by_cmp name_cmp q) names

-- some entry can change what the name has
abbrev pub is_changed : List Entry → List ℕ → Bool
is_changed es q = list_any (λ e. can_change e.call && eq_by_cmp name_cmp q (name_of e.call)) es
