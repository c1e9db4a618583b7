-- Worked examples, computed: each list of operations has these replies, at width 1 and from the empty state.
-- Each example states its whole list, so that a reader can compare it with the specification alone.
use Rattle.std.proofs.Common.{◌≡◌, ℕ, ◌<◌, ◌≤◌, Bool, true, ◌&&◌, List, [], ◌∷◌, length, refl, sym, ap, subst, arith}
use Rattle.std.specs.Prelude.{All, nat_le, nat_lt, slice_index_or}
use Rattle.std.specs.List.{range_with_len, list_all}
use Rattle.std.proofs.lemmas.Bool.{and_parts}
use Rattle.std.proofs.lemmas.List.Sums.{AllPass-from_list_all}
use Rattle.lrc_code.specs.declared.Code.{Code}
use Rattle.lrc_code.specs.declared.Code.TheVariants.{Wide, Small}
use Rattle.lrc_code.specs.Code.{excess_of, is_alone, is_only_lost_of}
use Rattle.sealed.specs.Layout.{stripe_count}
use Rattle.history.specs.State.{State}
use Rattle.history.specs.Step.{Operation, put, read, lose, repair, restore, delete, stat, IsReply}
use Rattle.history.specs.History.{IsLegal}
use Rattle.history.specs.declared.note.Note.{Note}
use Rattle.history.specs.declared.note.Note.TheVariants.{Stored, NoName, OutOfRange, Unrecoverable, Granted, Lost, NoFragment, AlreadyLost, Repaired, NotLost, Replaced, Deleted, Shape}
use Rattle.history.proofs.Replies.{told, legal_by, replies_by, CanPuts, replies}
use Rattle.history.specs.Views.{CanPut, empty_views}

byte : (x : ℕ) → nat_lt x 256 ≡ true → x < 256
byte x h = grind (arith, h)

-- bytes that can be stored, by a computed test
are_bytes : (b : List ℕ) → list_all (λ x. nat_lt x 256) b ≡ true → All (λ x. x < 256) b
are_bytes b h k d l = byte (slice_index_or b k d) (AllPass-from_list_all (λ x. nat_lt x 256) b h k d l)

few_stripes : (code : Code) (w : ℕ) (b : List ℕ) → nat_le (stripe_count code w (length b)) 4096 ≡ true → stripe_count code w (length b) ≤ 4096
few_stripes code w b h = grind (arith, h)

abbrev can_be_put : ℕ → Operation → Bool
can_be_put w (put n code b) = list_all (λ x. nat_lt x 256) b && nat_le (stripe_count code w (length b)) 4096
can_be_put w operation = true

can_put : (w : ℕ) (o : Operation) → can_be_put w o ≡ true → CanPut w o
can_put w (put n code b) h = let both = and_parts (list_all (λ x. nat_lt x 256) b) _ h in record { bytes = are_bytes b both.0; few = few_stripes code w b both.1 }
can_put w (read n start len) h = tt
can_put w (lose n j f) h = tt
can_put w (repair n j f) h = tt
can_put w (restore n v j f) h = tt
can_put w (delete n) h = tt
can_put w (stat n) h = tt

can_puts : (w : ℕ) (os : List Operation) → list_all (can_be_put w) os ≡ true → CanPuts w os
can_puts w [] h = tt
can_puts w (o ∷ os) h = let both = and_parts (can_be_put w o) (list_all (can_be_put w) os) h in (can_put w o both.0, can_puts w os both.1)

-- these operations have these replies, at width 1 and from the empty state
pub record Replied (os : List Operation) (ms : List Note) : Type 0 where
  pub legal : IsLegal 1 (told os ms)

by : (os : List Operation) (ms : List Note) → list_all (can_be_put 1) os ≡ true → replies 1 empty_views os ≡ ms → Replied os ms
by os ms can same = record { legal = legal_by 1 os ms (can_puts 1 os can) same }

-- ---- names and blobs of the examples
abbrev a : List ℕ
a = 97 ∷ []

abbrev e : List ℕ
e = 101 ∷ []

abbrev s : List ℕ
s = 115 ∷ []

-- the n letters from A on
abbrev letters : ℕ → List ℕ
letters n = range_with_len 65 n

abbrev put_a : Operation
put_a = put a Wide (letters 12)

abbrev put_s : Operation
put_s = put s Small (letters 6)

-- ---- LRC(12,2,2)
pub one_lost : Replied
    (put_a ∷ lose a 0 0 ∷ read a 0 12 ∷ [])
    (Stored 1 ∷ Lost 1 ∷ Granted 1 ∷ [])
unfolding excess_of is_alone is_only_lost_of
one_lost = by _ _ refl refl

pub two_lost_of_each : Replied
    (put_a ∷ lose a 0 0 ∷ lose a 0 1 ∷ lose a 0 6 ∷ lose a 0 7 ∷ read a 0 12 ∷ [])
    (Stored 1 ∷ Lost 1 ∷ Lost 1 ∷ Lost 1 ∷ Lost 1 ∷ Granted 1 ∷ [])
unfolding excess_of is_alone is_only_lost_of
two_lost_of_each = by _ _ refl refl

pub four_lost_of_one : Replied
    (put_a ∷ lose a 0 0 ∷ lose a 0 1 ∷ lose a 0 2 ∷ lose a 0 3 ∷ read a 0 1 ∷ read a 4 8 ∷ [])
    (Stored 1 ∷ Lost 1 ∷ Lost 1 ∷ Lost 1 ∷ Lost 1 ∷ Unrecoverable 1 ∷ Granted 1 ∷ [])
unfolding excess_of is_alone is_only_lost_of
four_lost_of_one = by _ _ refl refl

pub alone_beside_globals : Replied
    (put_a ∷ lose a 0 0 ∷ lose a 0 1 ∷ lose a 0 6 ∷ lose a 0 14 ∷ lose a 0 15 ∷ read a 6 1 ∷ read a 0 1 ∷ repair a 0 6 ∷ repair a 0 0 ∷ [])
    (Stored 1 ∷ Lost 1 ∷ Lost 1 ∷ Lost 1 ∷ Lost 1 ∷ Lost 1 ∷ Granted 1 ∷ Unrecoverable 1 ∷ Repaired 1 ∷ Unrecoverable 1 ∷ [])
unfolding excess_of is_alone is_only_lost_of
alone_beside_globals = by _ _ refl refl

pub three_and_two : Replied
    (put_a ∷ lose a 0 0 ∷ lose a 0 1 ∷ lose a 0 2 ∷ lose a 0 6 ∷ lose a 0 7 ∷ read a 8 4 ∷ read a 6 2 ∷ [])
    (Stored 1 ∷ Lost 1 ∷ Lost 1 ∷ Lost 1 ∷ Lost 1 ∷ Lost 1 ∷ Granted 1 ∷ Unrecoverable 1 ∷ [])
unfolding excess_of is_alone is_only_lost_of
three_and_two = by _ _ refl refl

pub all_parities : Replied
    (put_a ∷ lose a 0 12 ∷ lose a 0 13 ∷ lose a 0 14 ∷ lose a 0 15 ∷ read a 0 12 ∷ repair a 0 12 ∷ repair a 0 13 ∷ repair a 0 14 ∷ repair a 0 15 ∷ stat a ∷ [])
    (Stored 1 ∷ Lost 1 ∷ Lost 1 ∷ Lost 1 ∷ Lost 1 ∷ Granted 1 ∷ Repaired 1 ∷ Repaired 1 ∷ Repaired 1 ∷ Repaired 1 ∷ Shape 1 12 1 0 ∷ [])
unfolding excess_of is_alone is_only_lost_of
all_parities = by _ _ refl refl

pub empty_blob : Replied
    (put e Wide (letters 0) ∷ stat e ∷ read e 0 0 ∷ read e 0 1 ∷ lose e 0 0 ∷ [])
    (Stored 1 ∷ Shape 1 0 0 0 ∷ Granted 1 ∷ OutOfRange ∷ NoFragment ∷ [])
unfolding excess_of is_alone is_only_lost_of
empty_blob = by _ _ refl refl

pub second_stripe : Replied
    (put a Wide (letters 13) ∷ lose a 1 0 ∷ lose a 1 1 ∷ lose a 1 2 ∷ lose a 1 3 ∷ read a 12 1 ∷ read a 0 12 ∷ [])
    (Stored 1 ∷ Lost 1 ∷ Lost 1 ∷ Lost 1 ∷ Lost 1 ∷ Unrecoverable 1 ∷ Granted 1 ∷ [])
unfolding excess_of is_alone is_only_lost_of
second_stripe = by _ _ refl refl

pub second_stripe_beside : Replied
    (put a Wide (letters 13) ∷ lose a 1 1 ∷ lose a 1 2 ∷ lose a 1 3 ∷ lose a 1 4 ∷ read a 12 1 ∷ [])
    (Stored 1 ∷ Lost 1 ∷ Lost 1 ∷ Lost 1 ∷ Lost 1 ∷ Granted 1 ∷ [])
unfolding excess_of is_alone is_only_lost_of
second_stripe_beside = by _ _ refl refl

pub a_newer_version : Replied
    (put_a ∷ read a 0 12 ∷ lose a 0 0 ∷ put a Wide (range_with_len 77 12) ∷ stat a ∷ [])
    (Stored 1 ∷ Granted 1 ∷ Lost 1 ∷ Stored 2 ∷ Shape 2 12 1 0 ∷ [])
unfolding excess_of is_alone is_only_lost_of
a_newer_version = by _ _ refl refl

pub twice : Replied
    (put_a ∷ lose a 0 0 ∷ lose a 0 0 ∷ repair a 0 0 ∷ repair a 0 0 ∷ read a 18446744073709551615 2 ∷ read a 12 0 ∷ read a 13 0 ∷ lose a 0 16 ∷ [])
    (Stored 1 ∷ Lost 1 ∷ AlreadyLost ∷ Repaired 1 ∷ NotLost ∷ OutOfRange ∷ Granted 1 ∷ OutOfRange ∷ NoFragment ∷ [])
unfolding excess_of is_alone is_only_lost_of
twice = by _ _ refl refl

pub twice_lost : Replied
    (put_a ∷ lose a 0 0 ∷ lose a 0 0 ∷ [])
    (Stored 1 ∷ Lost 1 ∷ AlreadyLost ∷ [])
unfolding excess_of is_alone is_only_lost_of
twice_lost = by _ _ refl refl

pub stats : Replied
    (put_a ∷ stat a ∷ stat a ∷ [])
    (Stored 1 ∷ Shape 1 12 1 0 ∷ Shape 1 12 1 0 ∷ [])
unfolding excess_of is_alone is_only_lost_of
stats = by _ _ refl refl

pub mended : Replied
    (put_a ∷ lose a 0 0 ∷ lose a 0 6 ∷ repair a 0 0 ∷ repair a 0 6 ∷ stat a ∷ [])
    (Stored 1 ∷ Lost 1 ∷ Lost 1 ∷ Repaired 1 ∷ Repaired 1 ∷ Shape 1 12 1 0 ∷ [])
unfolding excess_of is_alone is_only_lost_of
mended = by _ _ refl refl

-- beyond what a repair can do, as long as the name has the version
pub restored : Replied
    (put_a ∷ lose a 0 0 ∷ lose a 0 1 ∷ lose a 0 2 ∷ lose a 0 3 ∷ repair a 0 0 ∷ restore a 1 0 0 ∷ restore a 1 0 0 ∷ repair a 0 1 ∷ restore a 1 0 16 ∷ put_a ∷ lose a 0 0 ∷ restore a 1 0 0 ∷ delete a ∷ restore a 2 0 0 ∷ [])
    (Stored 1 ∷ Lost 1 ∷ Lost 1 ∷ Lost 1 ∷ Lost 1 ∷ Unrecoverable 1 ∷ Repaired 1 ∷ NotLost ∷ Repaired 1 ∷ NoFragment ∷ Stored 2 ∷ Lost 2 ∷ Replaced 2 ∷ Deleted 2 ∷ NoName ∷ [])
unfolding excess_of is_alone is_only_lost_of
restored = by _ _ refl refl

pub deleted : Replied
    (put_a ∷ delete a ∷ read a 0 1 ∷ delete a ∷ put a Wide (0 ∷ 255 ∷ []) ∷ read a 0 2 ∷ [])
    (Stored 1 ∷ Deleted 1 ∷ NoName ∷ NoName ∷ Stored 2 ∷ Granted 2 ∷ [])
unfolding excess_of is_alone is_only_lost_of
deleted = by _ _ refl refl

-- ---- LRC(6,2,2)
pub small_two_of_each : Replied
    (put_s ∷ lose s 0 0 ∷ lose s 0 1 ∷ lose s 0 3 ∷ lose s 0 4 ∷ read s 0 6 ∷ [])
    (Stored 1 ∷ Lost 1 ∷ Lost 1 ∷ Lost 1 ∷ Lost 1 ∷ Granted 1 ∷ [])
unfolding excess_of is_alone is_only_lost_of
small_two_of_each = by _ _ refl refl

pub small_four_of_one : Replied
    (put_s ∷ lose s 0 0 ∷ lose s 0 1 ∷ lose s 0 2 ∷ lose s 0 6 ∷ read s 0 1 ∷ read s 3 3 ∷ [])
    (Stored 1 ∷ Lost 1 ∷ Lost 1 ∷ Lost 1 ∷ Lost 1 ∷ Unrecoverable 1 ∷ Granted 1 ∷ [])
unfolding excess_of is_alone is_only_lost_of
small_four_of_one = by _ _ refl refl

pub small_has_ten : Replied
    (put_s ∷ lose s 0 10 ∷ stat s ∷ [])
    (Stored 1 ∷ NoFragment ∷ Shape 1 6 1 0 ∷ [])
unfolding excess_of is_alone is_only_lost_of
small_has_ten = by _ _ refl refl

-- ---- blobs of the greatest length
pub greatest : (b : List ℕ) → All (λ x. x < 256) b → length b ≡ 49152 → Replied (put a Wide b ∷ stat a ∷ []) (Stored 1 ∷ Shape 1 49152 4096 0 ∷ [])
greatest b bytes l =
    record {
      legal = legal_by 1 (put a Wide b ∷ stat a ∷ []) _ (record { bytes = bytes; few = subst (λ n. stripe_count Wide 1 n ≤ 4096) (sym l) (omega arith) }, (tt, tt))
          (ap (λ n. Stored 1 ∷ Shape 1 n (stripe_count Wide 1 n) 0 ∷ []) l);
    }

pub too_long : (b : List ℕ) (t : State) (m : Note) → length b ≡ 49153 → IsReply 1 t (put a Wide b) m → ⊥
too_long b t m l reply = (let few : stripe_count Wide 1 49153 ≤ 4096 = subst (λ n. stripe_count Wide 1 n ≤ 4096) l reply.0.few in omega arith)

pub small_greatest : (b : List ℕ) → All (λ x. x < 256) b → length b ≡ 24576 → Replied (put s Small b ∷ stat s ∷ []) (Stored 1 ∷ Shape 1 24576 4096 0 ∷ [])
small_greatest b bytes l =
    record {
      legal = legal_by 1 (put s Small b ∷ stat s ∷ []) _ (record { bytes = bytes; few = subst (λ n. stripe_count Small 1 n ≤ 4096) (sym l) (omega arith) }, (tt, tt))
          (ap (λ n. Stored 1 ∷ Shape 1 n (stripe_count Small 1 n) 0 ∷ []) l);
    }

pub small_too_long : (b : List ℕ) (t : State) (m : Note) → length b ≡ 24577 → IsReply 1 t (put s Small b) m → ⊥
small_too_long b t m l reply = (let few : stripe_count Small 1 24577 ≤ 4096 = subst (λ n. stripe_count Small 1 n ≤ 4096) l reply.0.few in omega arith)

-- ---- no other notes are legal: not where the zero filling is taken for knowledge, nor where a sum of the range's ends wraps
only : (os : List Operation) (ms : List Note) → length os ≡ length ms → Replied os ms → ms ≡ replies 1 empty_views os
only os ms e r = replies_by 1 os ms e r.legal

pub filling_is_no_knowledge : Replied (put a Wide (letters 13) ∷ lose a 1 0 ∷ lose a 1 1 ∷ lose a 1 2 ∷ lose a 1 3 ∷ read a 12 1 ∷ [])
    (Stored 1 ∷ Lost 1 ∷ Lost 1 ∷ Lost 1 ∷ Lost 1 ∷ Granted 1 ∷ []) → ⊥
unfolding excess_of is_alone is_only_lost_of
filling_is_no_knowledge r =
    let same : Stored 1 ∷ Lost 1 ∷ Lost 1 ∷ Lost 1 ∷ Lost 1 ∷ Granted 1 ∷ [] ≡ Stored 1 ∷ Lost 1 ∷ Lost 1 ∷ Lost 1 ∷ Lost 1 ∷ Unrecoverable 1 ∷ [] =
    only (put a Wide (letters 13) ∷ lose a 1 0 ∷ lose a 1 1 ∷ lose a 1 2 ∷ lose a 1 3 ∷ read a 12 1 ∷ []) (Stored 1 ∷ Lost 1 ∷ Lost 1 ∷ Lost 1 ∷ Lost 1 ∷ Granted 1 ∷ []) refl r in
    cc

pub ends_do_not_wrap : Replied (put_a ∷ read a 18446744073709551615 2 ∷ []) (Stored 1 ∷ Granted 1 ∷ []) → ⊥
unfolding excess_of is_alone is_only_lost_of
ends_do_not_wrap r =
    let same : Stored 1 ∷ Granted 1 ∷ [] ≡ Stored 1 ∷ OutOfRange ∷ [] = only (put_a ∷ read a 18446744073709551615 2 ∷ []) (Stored 1 ∷ Granted 1 ∷ []) refl r in
    cc
