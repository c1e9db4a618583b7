-- Two calls in the list of all shards' acts.
use Rattle.std.specs.Prelude.{◌≡◌, ℕ, List, ◌∷◌, ◌++◌}
use Rattle.history.specs.declared.note.Note.{Note}
use Rattle.history.specs.Step.{Operation}
use Rattle.book.specs.Serial.{Act, call}
use Rattle.ledger.specs.declared.view.ShardAct.{ShardAct}

-- a call of this operation
pub record IsRecordedCall (o : Operation) (d : ShardAct Act) : Type 0 where
  pub who : ℕ
  pub note : Note
  pub is : d.act ≡ call (record { who = who; operation = o; note = note })

-- a call of the one operation stands before one of the other, at whichever shards
pub record StandsBefore (one other : Operation) (list : List (ShardAct Act)) : Type 0 where
  pub before : List (ShardAct Act)
  pub first : ShardAct Act
  pub between : List (ShardAct Act)
  pub second : ShardAct Act
  pub after : List (ShardAct Act)
  pub whole : list ≡ before ++ first ∷ (between ++ second ∷ after)
  pub first_is : IsRecordedCall one first
  pub second_is : IsRecordedCall other second
