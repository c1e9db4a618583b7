-- The part of a state that replies depend on: all of a blob except its bytes. It determines the
-- reply and the part after it.
use Rattle.std.specs.Prelude.{◌≡◌, ℕ, zero, suc, ◌+◌, ◌-◌, ◌==◌, Bool, false, not, ◌&&◌, ◌||◌, List, [], ◌∷◌, Option, None, Some, cond, length, replicate, nat_le, nat_lt}
use Rattle.std.specs.Option.{option_map}
use Rattle.std.specs.FinMap as finite
use Rattle.std.specs.FinSet as set
use Rattle.std.specs.Ordering.{eq_by_cmp}
use Rattle.lrc_code.specs.declared.Code.{Code}
use Rattle.lrc_code.specs.Code.{fragment_count, excess_of, is_alone}
use Rattle.sealed.specs.Layout.{stripe_count, stripe_of, fragment_of}
use Rattle.sealed.specs.Blob.{IsBlob, lost_in, pair_cmp}
use Rattle.sealed.specs.Range.{is_outside}
use Rattle.history.specs.Names.{name_cmp}
use Rattle.history.specs.State.{State, Blob}
use Rattle.history.specs.Step.{Operation, put, read, lose, repair, restore, delete, stat}
use Rattle.history.specs.declared.note.Call.{Call}
use Rattle.history.specs.declared.note.Call.TheVariants.{Put, Read, Lose, Repair, Restore, Delete, Stat}
use Rattle.history.specs.declared.note.Entry.{Entry}
use Rattle.history.specs.declared.note.Note.{Note}
use Rattle.history.specs.declared.note.Note.TheVariants as note

pub record View : Type 0 where
  pub version : ℕ
  pub len : ℕ
  pub code : Code
  pub lost : ℕ → ℕ → Bool
  pub count : ℕ

pub record Views : Type 0 where
  pub names : List ℕ → Option View
  pub puts : ℕ

abbrev pub view_of : Blob → View
view_of blob = record { version = blob.version; len = length blob.bytes; code = blob.code; lost = lost_in blob.lost; count = set.len blob.lost }

abbrev pub view : State → Views
view s = record { names = λ n. option_map view_of (finite.get s.names n); puts = s.puts }

-- ---- the reply, computed
abbrev pub any_from : (ℕ → Bool) → ℕ → ℕ → Bool
any_from p a zero = false
any_from p a (suc n) = p a || any_from p (suc a) n

-- whether f is unrecoverable: the losses exceed what the two global parities restore, and f's group
-- has another loss
abbrev pub open_test : Code → (ℕ → Bool) → ℕ → Bool
open_test code lost f = lost f && (not (is_alone code lost f) && nat_lt 2 (excess_of code lost))

abbrev pub open_in_range : Code → ℕ → (ℕ → ℕ → Bool) → ℕ → ℕ → Bool
open_in_range code w lost start len = any_from (λ i. open_test code (lost (stripe_of code w i)) (fragment_of code w i)) start len

module _ (w : ℕ) where
  abbrev pub no_such : View → ℕ → ℕ → Bool
  no_such v j f = nat_le (stripe_count v.code w v.len) j || nat_le (fragment_count v.code) f

  abbrev pub read_reply : Option View → ℕ → ℕ → Note
  read_reply None start len = note.NoName
  read_reply (Some v) start len =
      cond (is_outside v.len start len) note.OutOfRange (cond (open_in_range v.code w v.lost start len) (note.Unrecoverable v.version) (note.Granted v.version))

  abbrev pub lose_reply : Option View → ℕ → ℕ → Note
  lose_reply None j f = note.NoName
  lose_reply (Some v) j f = cond (no_such v j f) note.NoFragment (cond (v.lost j f) note.AlreadyLost (note.Lost v.version))

  abbrev pub repair_reply : Option View → ℕ → ℕ → Note
  repair_reply None j f = note.NoName
  repair_reply (Some v) j f =
      cond (no_such v j f) note.NoFragment (cond (v.lost j f) (cond (open_test v.code (v.lost j) f) (note.Unrecoverable v.version) (note.Repaired v.version)) note.NotLost)

  abbrev pub restore_reply : Option View → ℕ → ℕ → ℕ → Note
  restore_reply None x j f = note.NoName
  restore_reply (Some v) x j f =
      cond (v.version == x) (cond (no_such v j f) note.NoFragment (cond (v.lost j f) (note.Repaired v.version) note.NotLost)) (note.Replaced v.version)

  abbrev pub delete_reply : Option View → Note
  delete_reply None = note.NoName
  delete_reply (Some v) = note.Deleted v.version

  abbrev pub stat_reply : Option View → Note
  stat_reply None = note.NoName
  stat_reply (Some v) = note.Shape v.version v.len (stripe_count v.code w v.len) v.count

  abbrev pub reply : Views → Operation → Note
  reply v (put n code b) = note.Stored (v.puts + 1)
  reply v (read n start len) = read_reply (v.names n) start len
  reply v (lose n j f) = lose_reply (v.names n) j f
  reply v (repair n j f) = repair_reply (v.names n) j f
  reply v (restore n x j f) = restore_reply (v.names n) x j f
  reply v (delete n) = delete_reply (v.names n)
  reply v (stat n) = stat_reply (v.names n)

  -- a put has bytes that can be stored
  abbrev pub CanPut : Operation → Type 0
  CanPut (put n code b) = IsBlob code w b
  CanPut operation = Unit {0}

abbrev pub added : ℕ → ℕ → View → View
added j f x = record x { lost = λ a b. eq_by_cmp pair_cmp (a, b) (j, f) || x.lost a b; count = cond (x.lost j f) x.count (x.count + 1) }

abbrev pub taken : ℕ → ℕ → View → View
taken j f x = record x { lost = λ a b. not (eq_by_cmp pair_cmp (a, b) (j, f)) && x.lost a b; count = cond (x.lost j f) (x.count - 1) x.count }

abbrev pub changed : Views → List ℕ → Option View → (View → View) → Views
changed v n None change = v
changed v n (Some x) change = record v { names = λ q. cond (eq_by_cmp name_cmp q n) (Some (change x)) (v.names q) }

abbrev pub view_after : Views → Operation → Note → Views
view_after v (put n code b) m = record {
  names = λ q. cond (eq_by_cmp name_cmp q n) (Some (record { version = v.puts + 1; len = length b; code = code; lost = λ j f. false; count = 0 })) (v.names q);
  puts = v.puts + 1;
}
view_after v (lose n j f) (note.Lost x) = changed v n (v.names n) (added j f)
view_after v (repair n j f) (note.Repaired x) = changed v n (v.names n) (taken j f)
view_after v (restore n y j f) (note.Repaired x) = changed v n (v.names n) (taken j f)
view_after v (delete n) (note.Deleted x) = record v { names = λ q. cond (eq_by_cmp name_cmp q n) None (v.names q) }
view_after v operation m = v

-- no name, and no put so far
abbrev pub empty_views : Views
empty_views = record { names = λ n. None; puts = 0 }

-- ---- entries
-- the operation of a call: a put has zero bytes, since no reply depends on bytes
abbrev pub call_operation : Call → Operation
call_operation (Put n code len) = put n code (replicate len 0)
call_operation (Read n start len) = read n start len
call_operation (Lose n j f) = lose n j f
call_operation (Repair n j f) = repair n j f
call_operation (Restore n v j f) = restore n v j f
call_operation (Delete n) = delete n
call_operation (Stat n) = stat n

-- the entry's note is the reply to its call
abbrev pub IsNoted : ℕ → Views → Entry → Type 0
IsNoted w v e = CanPut w (call_operation e.call) × (e.note ≡ reply w v (call_operation e.call))

abbrev pub next_views : Views → Entry → Views
next_views v e = view_after v (call_operation e.call) e.note

abbrev pub all_next : Views → List Entry → Views
all_next v [] = v
all_next v (e ∷ es) = all_next (next_views v e) es

-- the same for entries in order
abbrev pub AreNoted : ℕ → Views → List Entry → Type 0
AreNoted w v [] = Unit {0}
AreNoted w v (e ∷ es) = IsNoted w v e × AreNoted w (next_views v e) es
