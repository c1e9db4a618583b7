-- What contracts see of a log.
use Rattle.std.specs.Prelude.{ℕ, ◌^◌, List, [], Option, None, Some, cond, nat_le}
use Rattle.history.specs.declared.note.Entry.{Entry}
use Rattle.history.specs.declared.log.Form.{Form}
use Rattle.history.specs.declared.log.Form.TheVariants.{Journaled, Counted}
use Rattle.history.specs.Stretch.{Stretch}

-- how many calls there may be between two trims: the limit of the journal, or 2^62 without one
abbrev pub call_limit : Option ℕ → ℕ
call_limit None = 2 ^ 62
call_limit (Some limit) = limit

-- which of the entries are kept: all, or none if the limit is above that of every journal
abbrev pub kept_of : ℕ → List Entry → List Entry
kept_of limit entries = cond (nat_le limit 1048576) entries []

-- the entries of all calls that were recorded, and how many there may be
abbrev pub logged : Form → Stretch
logged (Journaled j) = j
logged (Counted c) = record { limit = 2 ^ 62; entries = c.trail.entries }
