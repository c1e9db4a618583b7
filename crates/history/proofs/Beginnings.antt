-- Histories of which a beginning is discarded.
use Rattle.std.proofs.Common.{◌≡◌, ℕ, List, [], ◌∷◌, ◌++◌, map, length, refl, sym, ap, ◌∙◌, subst, arith}
use Rattle.std.specs.Prelude.{◌↔◌}
use Rattle.std.specs.FinMap as finite
use Rattle.std.specs.FinSet as set
use Rattle.std.specs.Cmp.Lexicographic.{nat_list_cmp_total}
use Rattle.std.proofs.lemmas.List.{length-map, nil_from_length}
use Rattle.std.specs.List.{range_with_len}
use Rattle.std.specs.List.Sorted.{IsStrictlySortedBy}
use Rattle.sealed.specs.Blob.{nothing, pair_cmp}
use Rattle.history.specs.declared.note.Note.TheVariants.{Stored, Lost, AlreadyLost}
use Rattle.history.proofs.Replies.{told}
use Rattle.history.proofs.Rising.{pairs_of-length}
use Rattle.history.proofs.Rows.{twice_lost}
use Rattle.lrc_code.specs.declared.Code.TheVariants.{Wide}
use Rattle.history.specs.Names.{name_cmp}
use Rattle.history.specs.State.{State, Blob, empty_state}
use Rattle.history.specs.Step.{put, lose, after}
use Rattle.history.specs.History.{History, after_all, IsLegalFrom, IsLegal, entry_of}
use Rattle.history.specs.Base.{Checkpoint, Outlines, outline_of, empty_base, IsRising, pairs_of}
use Rattle.history.specs.Lawful.{IsLawfulFrom, IsLawful}
use Rattle.history.specs.declared.note.Entry.{Entry}

pub after_all-append : (s : State) (one two : History) → after_all s (one ++ two) ≡ after_all (after_all s one) two
after_all-append s [] two = refl
after_all-append s (e ∷ one) two = after_all-append (after s e.operation e.note) one two

-- what comes after a legal beginning is legal from its state
pub legal_rest : (w : ℕ) (s : State) (one two : History) → IsLegalFrom w s (one ++ two) → IsLegalFrom w (after_all s one) two
legal_rest w s [] two legal = legal
legal_rest w s (e ∷ one) two legal = legal_rest w (after s e.operation e.note) one two legal.1

-- ---- the empty base outlines the empty state alone
no_entries : (names : finite.FinMap name_cmp Blob) → [] ≡ map outline_of (finite.entries names) → names ≡ finite.empty
no_entries names e =
    finite.empty_of_len names (finite.len-entries names ∙ sym (length-map (finite.entries names) outline_of) ∙ sym (ap length e))

pub empty_alone : (s : State) → Outlines empty_base s → s ≡ empty_state
empty_alone s is = λ i. record { names = no_entries s.names is.names i; puts = sym is.puts i }

pub no_names : finite.entries (finite.empty {X = Blob} {R = name_cmp}) ≡ []
no_names = nil_from_length _ (sym (finite.len-entries finite.empty) ∙ finite.len-empty name_cmp Blob)

pub empty_outlined : Outlines empty_base empty_state
empty_outlined = record { puts = refl; names = sym (ap (map outline_of) no_names) }

pub none_rise : IsRising []
unfolding IsStrictlySortedBy
none_rise = (tt, λ k d l. absurd (omega arith))

-- so, with nothing discarded, entries are lawful if and only if they are those of a legal history
pub lawful_is : (w : ℕ) (entries : List Entry) → IsLawful w entries ↔ ((h : History) × IsLegal w h × (map entry_of h ≡ entries))
lawful_is w entries = (
  λ l. (l.events, subst (λ (s : State). IsLegalFrom w s l.events) (empty_alone l.state l.outlined) l.legal, l.entries_are),
  λ l. record { state = empty_state; outlined = empty_outlined; events = l.0; legal = l.1; entries_are = l.2 },
)

-- ---- twelve letters were put, and that call was discarded: then the first loss is noted as one, and the second as none
abbrev pub a : List ℕ
a = 97 ∷ []

abbrev after_put : State
after_put = after empty_state (put a Wide (range_with_len 65 12)) (Stored 1)

abbrev base_of_put : Checkpoint
base_of_put = record { trimmed = 1; puts = 1; names = record { name = a; version = 1; len = 12; code = Wide; lost = [] } ∷ [] }

no_pairs : pairs_of nothing ≡ []
no_pairs = nil_from_length (pairs_of nothing) (pairs_of-length nothing ∙ set.len-empty pair_cmp)

outlined : Outlines base_of_put after_put
outlined =
    record {
      puts = refl;
      names =
          ap (λ (pairs : List (ℕ × ℕ)). record { name = a; version = 1; len = 12; code = Wide; lost = pairs } ∷ []) (sym no_pairs)
          ∙ sym (ap (map outline_of) (finite.entries-insert nat_list_cmp_total finite.empty a (record { version = 1; bytes = range_with_len 65 12; code = Wide; lost = nothing })
          ∙ ap (finite.put name_cmp a (record { version = 1; bytes = range_with_len 65 12; code = Wide; lost = nothing })) no_names));
    }

abbrev pub two_losses : History
two_losses = told (lose a 0 0 ∷ lose a 0 0 ∷ []) (Lost 1 ∷ AlreadyLost ∷ [])

pub lost_once : IsLawfulFrom base_of_put 1 (map entry_of two_losses)
lost_once =
    record {
      state = after_put;
      outlined = outlined;
      events = two_losses;
      legal = legal_rest 1 empty_state (told (put a Wide (range_with_len 65 12) ∷ []) (Stored 1 ∷ [])) two_losses twice_lost.legal;
      entries_are = refl;
    }
