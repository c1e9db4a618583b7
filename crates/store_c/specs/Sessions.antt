-- Slots whose sessions are opened, split, joined and closed.
use Rattle.std.specs.Prelude.{◌≡◌, ◌≢◌, ◌⊎◌, ◌+◌, ◌-◌, ◌≤◌, ◌++◌, ℕ, length, Option, Some, None}
use mathlib.Core.List.{IsPrefix}
use Rattle.gate.specs.Places.{AreApart}
use Rattle.history.specs.History.{History}
use Rattle.history.specs.Log.{call_limit}
use Rattle.book.specs.Contents.{Contents, journal_of}
use Rattle.book.specs.Holds.{HoldsHistory}
use Rattle.shared.specs.Passes.{Shows, IsWhole, seen_by}
use Rattle.session.specs.declared.held.Held.{Held}
use Rattle.session.specs.declared.held.Held.TheVariants.{Session}
use Rattle.session.specs.FreshSession.{IsFirstSession, IsSplitOff, IsClosing}
use Rattle.session.specs.Learns.{Learns}
use Rattle.store_c.specs.Status.{bad_argument, bad_width, done, empty, no_memory, no_pass, not_alone, occupied}

-- a store was opened, and its first session is held; or nothing was done
pub data IsOpeningWith (width limit number status : ℕ) (new : Option Held) : Type 0 where
  opened : (v : Shows) → status ≡ done → IsFirstSession width limit v → new ≡ Some (Session v number) → IsOpeningWith width limit number status new
  width_refused : status ≡ bad_width → ((1 ≤ width) × (width ≤ 65536) → ⊥) → new ≡ None → IsOpeningWith width limit number status new
  memory_refused : status ≡ no_memory → new ≡ None → IsOpeningWith width limit number status new

-- the same with a journal, unless its limit is refused
pub data IsOpening (width limit number status : ℕ) (new : Option Held) : Type 0 where
  within : IsOpeningWith width limit number status new → IsOpening width limit number status new
  limit_refused : status ≡ bad_argument → ((1 ≤ limit) × (limit ≤ 1048576) → ⊥) → new ≡ None → IsOpening width limit number status new

abbrev pub IsOpenCall : Option Held → ℕ → ℕ → ℕ → ℕ → Option Held → Type 0
IsOpenCall None width limit number status new = IsOpening width limit number status new
IsOpenCall (Some held) width limit number status new = (status ≡ occupied) × (new ≡ Some held)

-- the same without a journal
abbrev pub IsUnjournaledCall : Option Held → ℕ → ℕ → ℕ → Option Held → Type 0
IsUnjournaledCall None width number status new = IsOpeningWith width (call_limit None) number status new
IsUnjournaledCall (Some held) width number status new = (status ≡ occupied) × (new ≡ Some held)

-- the session was split, and the other slot holds the new one; or nothing was done
pub data IsSplit (v : Shows) (number who status : ℕ) (w : Shows) (given : Option Held) : Type 0 where
  split_off : (x : Shows) → status ≡ done → w ≡ record v { room = v.room - 1 } → IsSplitOff v who x → given ≡ Some (Session x number) → IsSplit v number who status w given
  none_left : status ≡ no_pass → v.room ≡ 1 → w ≡ v → given ≡ None → IsSplit v number who status w given
  no_room_for_it : status ≡ no_memory → w ≡ v → given ≡ None → IsSplit v number who status w given

-- the other slot is empty before; or nothing was done
abbrev pub IsSplitTo : Shows → ℕ → Option Held → ℕ → ℕ → Shows → Option Held → Type 0
IsSplitTo v number None who status w given = IsSplit v number who status w given
IsSplitTo v number (Some x) who status w given = (status ≡ occupied) × (w ≡ v) × (given ≡ Some x)

-- the first slot holds a session; or nothing was done
abbrev pub IsSplitCall : Option Held → Option Held → ℕ → ℕ → Option Held → Option Held → Type 0
IsSplitCall (Some (Session v number)) other who status (Some (Session w same)) given = IsSplitTo v number other who status w given × (same ≡ number)
IsSplitCall (Some (Session v number)) other who status new given = ⊥
IsSplitCall old other who status new given = (status ≡ empty) × (new ≡ old) × (given ≡ other)

-- the session v has x joined into it
pub record IsJoinOf (v x w : Shows) : Type 0 where
  pub store_is : w.store ≡ v.store
  pub who_is : w.who ≡ v.who
  pub room_is : w.room ≡ v.room + x.room
  pub one : ((w.seen ≡ v.seen) × (w.trimmed ≡ v.trimmed)) ⊎ ((w.seen ≡ x.seen) × (w.trimmed ≡ x.trimmed))
  pub seen : IsPrefix v.seen w.seen × IsPrefix x.seen w.seen
  pub made : w.made ≡ v.made ++ x.made
  pub acts : IsPrefix v.acts w.acts × IsPrefix x.acts w.acts
  pub did : w.did ≡ v.did ++ x.did
  pub whole : w.room ≡ 64 → IsWhole w
  pub apart : AreApart v.made x.made

-- two sessions with one number were joined; or nothing was done
pub data IsJoin (v : Shows) (number : ℕ) (x : Shows) (theirs status : ℕ) (new given : Option Held) : Type 0 where
  joined : (w : Shows) → status ≡ done → theirs ≡ number → IsJoinOf v x w → new ≡ Some (Session w number) → given ≡ None → IsJoin v number x theirs status new given
  of_two_stores : status ≡ bad_argument → theirs ≢ number → new ≡ Some (Session v number) → given ≡ Some (Session x theirs) → IsJoin v number x theirs status new given

abbrev pub IsJoinCall : Option Held → Option Held → ℕ → Option Held → Option Held → Type 0
IsJoinCall (Some (Session v number)) (Some (Session x theirs)) status new given = IsJoin v number x theirs status new given
IsJoinCall old other status new given = (status ≡ empty) × (new ≡ old) × (given ≡ other)

-- sessions with one number are of one store
abbrev pub AreOfOneStore : Option Held → Option Held → Type 0
AreOfOneStore (Some (Session v number)) (Some (Session x theirs)) = theirs ≡ number → x.store ≡ v.store
AreOfOneStore old other = Unit {0}

-- the session v learned all that x had seen; or nothing was done, since the two have two numbers
pub data IsLearn (v : Shows) (number : ℕ) (x : Shows) (theirs status : ℕ) (w : Shows) : Type 0 where
  learned : status ≡ done → theirs ≡ number → Learns v (seen_by x) w → IsLearn v number x theirs status w
  not_learned : status ≡ bad_argument → theirs ≢ number → w ≡ v → IsLearn v number x theirs status w

-- both slots hold sessions, and the other is as it was; or nothing was done
abbrev pub IsLearnCall : Option Held → Option Held → ℕ → Option Held → Option Held → Type 0
IsLearnCall (Some (Session v number)) (Some (Session x theirs)) status (Some (Session w same)) given = IsLearn v number x theirs status w × (same ≡ number) × (given ≡ Some (Session x theirs))
IsLearnCall (Some (Session v number)) (Some (Session x theirs)) status new given = ⊥
IsLearnCall old other status new given = (status ≡ empty) × (new ≡ old) × (given ≡ other)

-- C gets the number of the store of the session in the slot; or nothing was done. The slot is as it
-- was
abbrev pub IsNumberCall : Option Held → ℕ → ℕ × ℕ → Option Held → Type 0
IsNumberCall (Some (Session v number)) status numbers new = (status ≡ done) × (numbers.1 ≡ number) × (new ≡ Some (Session v number))
IsNumberCall old status numbers new = (status ≡ empty) × (numbers.1 ≡ numbers.0) × (new ≡ old)

-- The book that was closed. C gets the number of entries of its journal, and that these are lawful:
-- 1, or 2 if there was no memory to check it, or no journal
pub record IsReportOf (v : Shows) (entries lawful : ℕ) : Type 0 where
  pub book : Contents
  pub closes : IsClosing v book
  pub entries_is : entries ≡ length (journal_of book)
  pub lawful_is : (lawful ≡ 1) ⊎ (lawful ≡ 2)

-- the book represents some history
abbrev pub HasHistory : Contents → Type 0
HasHistory book = (h : History) × HoldsHistory book h

-- The slot held the only session of a store, whose room is 64, and holds nothing; or nothing was
-- done, since the store has other sessions
abbrev pub IsCloseCall : Option Held → ℕ → ℕ × ℕ → ℕ × ℕ → Option Held → Type 0
IsCloseCall (Some (Session v number)) status before after None = (status ≡ done) × IsReportOf v after.0 after.1
IsCloseCall (Some (Session v number)) status before after new = (status ≡ not_alone) × (v.room ≢ 64) × (after ≡ before) × (new ≡ Some (Session v number))
IsCloseCall old status before after new = (status ≡ empty) × (after ≡ before) × (new ≡ old)
