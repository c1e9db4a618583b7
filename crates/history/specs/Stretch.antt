-- The entries of a journal, and how they lie in memory.
use Rattle.std.specs.Prelude.{◌≡◌, ℕ, ◌+◌, ◌-◌, ◌<◌, ◌≤◌, List, take, drop, length}
use Rattle.history.specs.declared.note.Entry.{Entry}

-- what contracts see of a journal: its entries, and how many there may be
pub record Stretch : Type 0 where
  pub limit : ℕ
  pub entries : List Entry

-- the slots from `start` up to `end` are at most `limit`, and each from `limit` on has a copy
pub record IsStretch (slots : List Entry) (limit start end : ℕ) : Type 0 where
  pub begins : start < limit
  pub ordered : start ≤ end
  pub fits : end ≤ start + limit
  pub reached : end ≤ length slots
  pub copied : drop limit (take end slots) ≡ take (end - limit) slots
