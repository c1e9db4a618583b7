-- The answers of a repair.
use Rattle.std.specs.Prelude.{◌≡◌, Bool, true, false}
use Rattle.book.specs.declared.answer.Answer.{Answer}
use Rattle.book.specs.declared.answer.Answer.TheVariants.{NoName, NoFragment, NotLost, Repaired, Unrecoverable}

-- the fragment is there again
abbrev pub is_repaired : Answer → Bool
is_repaired (Repaired v) = true
is_repaired answer = false

-- it was there already
abbrev pub is_not_lost : Answer → Bool
is_not_lost NotLost = true
is_not_lost answer = false

-- the blob is gone
abbrev pub is_gone : Answer → Bool
is_gone NoName = true
is_gone NoFragment = true
is_gone answer = false

-- the fragment is unrecoverable
abbrev pub is_unrecoverable : Answer → Bool
is_unrecoverable (Unrecoverable v) = true
is_unrecoverable answer = false

-- whether a repair can answer so
abbrev pub is_of_repair : Answer → Bool
is_of_repair NoName = true
is_of_repair NoFragment = true
is_of_repair NotLost = true
is_of_repair (Unrecoverable v) = true
is_of_repair (Repaired v) = true
is_of_repair answer = false

-- one of the five answers of a repair
abbrev pub IsOfRepair : Answer → Type 0
IsOfRepair answer = is_of_repair answer ≡ true
