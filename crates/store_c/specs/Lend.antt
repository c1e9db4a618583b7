-- A range that is lent to C.
use Rattle.std.specs.Prelude.{◌≡◌, ◌≢◌, ◌≤◌, ℕ, List, length, map, min, take, drop, Ok, Option, Some, None}
use Rattle.std.specs.List.{concat}
use Rattle.history.specs.Names.{IsName}
use Rattle.history.specs.Step.{read}
use Rattle.lent.specs.declared.grant.Grant.{Grant}
use Rattle.book.specs.declared.answer.Answer.TheVariants.{Granted}
use Rattle.shared.specs.Passes.{Shows}
use Rattle.session.specs.declared.held.Held.{Held}
use Rattle.session.specs.declared.held.Held.TheVariants.{Lending}
use Rattle.session.specs.declared.lending.LentSlice.{LentSlice}
use Rattle.session.specs.LentFrom.{IsLentFrom}
use Rattle.session.specs.Runs.{AreRunsFrom}
use Rattle.store_c.specs.Status.{bad_name, done, empty, no_memory, not_rebuilt, occupied}
use Rattle.store_c.specs.OnSession.{HasReply, HasSomeReply, HasBytes}

-- With `done` the other slot holds the pieces of the range, and C gets their number. Otherwise it
-- holds nothing
pub data IsLend (v : Shows) (name : List ℕ) (start len status before after : ℕ) (counts : ℕ × ℕ) (w : Shows) (given : Option Held) : Type 0 where
  unnamed_lend : (IsName name → ⊥) → status ≡ bad_name → after ≡ before → counts.1 ≡ counts.0 → w ≡ v → given ≡ None → IsLend v name start len status before after counts w given
  no_room_to_lend : status ≡ no_memory → after ≡ before → counts.1 ≡ counts.0 → w ≡ v → given ≡ None → IsLend v name start len status before after counts w given
  answered_lend : IsName name → HasSomeReply v (read name start len) status before after w → status ≢ done → counts.1 ≡ counts.0 → given ≡ None
      → IsLend v name start len status before after counts w given
  granted_lend : IsName name → (g : Grant) → HasReply v (read name start len) (Ok (Granted g)) done before after w → status ≡ done → (lent : List (List ℕ)) → IsLentFrom g lent
      → HasBytes w.seen name start len (concat lent) after → counts.1 ≡ length lent → given ≡ Some (Lending lent) → IsLend v name start len status before after counts w given
  unbuilt_lend : IsName name → (g : Grant) → HasReply v (read name start len) (Ok (Granted g)) done before after w → status ≡ not_rebuilt → counts.1 ≡ counts.0 → given ≡ None
      → IsLend v name start len status before after counts w given

-- the other slot is empty before; or nothing was done
abbrev pub IsLendTo : Shows → Option Held → List ℕ → ℕ → ℕ → ℕ → ℕ × ℕ → ℕ × ℕ → Shows → Option Held → Type 0
IsLendTo v None name start len status versions counts w given = IsLend v name start len status versions.0 versions.1 counts w given
IsLendTo v (Some x) name start len status versions counts w given = (status ≡ occupied) × (versions.1 ≡ versions.0) × (counts.1 ≡ counts.0) × (w ≡ v) × (given ≡ Some x)

abbrev pub bytes_of_all : List LentSlice → List (List ℕ)
bytes_of_all slices = map (λ s. s.bytes.now) slices

-- the first pieces of the range are lent, as many as there are and the target takes
pub record IsLentTo (lent : List (List ℕ)) (count : ℕ) (old new : List LentSlice) : Type 0 where
  pub count_is : count ≡ min (length old) (length lent)
  pub bytes_are : bytes_of_all (take count new) ≡ take count lent
  pub kept : drop count new ≡ drop count old

-- the slot holds a range that is lent; or nothing was done
abbrev pub IsSlicesCall : Option Held → ℕ → ℕ × ℕ → List LentSlice → List LentSlice → Type 0
IsSlicesCall (Some (Lending lent)) status counts old new = (status ≡ done) × IsLentTo lent counts.1 old new
IsSlicesCall held status counts old new = (status ≡ empty) × (counts.1 ≡ counts.0) × (new ≡ old)

-- runs of the range are lent, from its byte `from` on
pub record AreRunsTo (lent : List (List ℕ)) (from count : ℕ) (old new : List LentSlice) : Type 0 where
  pub few : count ≤ length old
  pub runs : AreRunsFrom lent from (length old) (take count new)
  pub kept : drop count new ≡ drop count old

-- the slot holds a range that is lent; or nothing was done
abbrev pub IsRunsCall : Option Held → ℕ → ℕ → ℕ × ℕ → List LentSlice → List LentSlice → Type 0
IsRunsCall (Some (Lending lent)) from status counts old new = (status ≡ done) × AreRunsTo lent from counts.1 old new
IsRunsCall held from status counts old new = (status ≡ empty) × (counts.1 ≡ counts.0) × (new ≡ old)
