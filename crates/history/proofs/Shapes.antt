-- Replies depend on no bytes. So entries are lawful if and only if each note is the reply, one
-- after the other.
use Rattle.std.proofs.Common.{◌≡◌, ℕ, ◌+◌, ◌≤◌, ◌<◌, false, List, [], ◌∷◌, map, Some, cond, length, replicate, get_or, refl, sym, ap, ◌∙◌, subst, arith, drop, suc, add-one, drop-cons}
use Rattle.std.specs.Prelude.{◌↔◌, All}
use Rattle.std.specs.Ordering.{eq_by_cmp}
use Rattle.std.proofs.lemmas.List.{length-replicate, length-map, get_or-map}
use Rattle.std.proofs.lemmas.Grind.{common_steps}
use Rattle.sealed.specs.Layout.{stripe_count}
use Rattle.history.specs.Names.{name_cmp}
use Rattle.history.specs.State.{State}
use Rattle.history.specs.Step.{Operation, put, read, lose, repair, restore, delete, stat, after}
use Rattle.history.specs.History.{Event, History, IsLegalFrom, after_all, call_of, entry_of}
use Rattle.history.specs.Base.{Checkpoint, Outlines, IsRising}
use Rattle.history.specs.Metadata.{outlines_of, views_of}
use Rattle.history.specs.Lawful.{IsLawfulFrom}
use Rattle.history.specs.Views.{Views, view, reply, CanPut, view_after, call_operation, IsNoted, AreNoted, next_views, all_next}
use Rattle.history.specs.declared.replay.Replay.{Replay}
use Rattle.history.specs.declared.note.Note.{Note}
use Rattle.history.specs.declared.note.Entry.{Entry}
use Rattle.history.specs.declared.note.Call.{Call}
use Rattle.history.specs.declared.note.Call.TheVariants.{Put, Read, Lose, Repair, Restore, Delete, Stat}
use Rattle.history.proofs.Replies.{Follows, legal_is, view_is}
use Rattle.history.proofs.Outlining.{state_from, state_from-outlined, view_outlined}

zero_bytes : (n : ℕ) → All (λ x. x < 256) (replicate n 0)
zero_bytes n k d l = grind (arith, common_steps)

module _ (w : ℕ) where
  can_zero : (o : Operation) → CanPut w o → CanPut w (call_operation (call_of o))
  can_zero (put n code b) can = record { bytes = zero_bytes (length b); few = subst (λ (l : ℕ). stripe_count code w l ≤ 4096) (sym (length-replicate {A = ℕ} (length b) 0)) can.few }
  can_zero (read n start len) can = tt
  can_zero (lose n j f) can = tt
  can_zero (repair n j f) can = tt
  can_zero (restore n v j f) can = tt
  can_zero (delete n) can = tt
  can_zero (stat n) can = tt

  reply_zero : (v : Views) (o : Operation) → reply w v o ≡ reply w v (call_operation (call_of o))
  reply_zero v (put n code b) = refl
  reply_zero v (read n start len) = refl
  reply_zero v (lose n j f) = refl
  reply_zero v (repair n j f) = refl
  reply_zero v (restore n x j f) = refl
  reply_zero v (delete n) = refl
  reply_zero v (stat n) = refl

after_zero : (v : Views) (o : Operation) (m : Note) → view_after v o m ≡ view_after v (call_operation (call_of o)) m
after_zero v (put n code b) m = λ i. record {
  names = λ q. cond (eq_by_cmp name_cmp q n) (Some (record { version = v.puts + 1; len = sym (length-replicate {A = ℕ} (length b) 0) i; code = code; lost = λ j f. false; count = 0 })) (v.names q);
  puts = v.puts + 1;
}
after_zero v (read n start len) m = refl
after_zero v (lose n j f) m = refl
after_zero v (repair n j f) m = refl
after_zero v (restore n x j f) m = refl
after_zero v (delete n) m = refl
after_zero v (stat n) m = refl

noted : (w : ℕ) (v : Views) (h : History) → Follows w v h → AreNoted w v (map entry_of h)
noted w v [] follows = tt
noted w v (e ∷ h) follows = (
  (can_zero w e.operation follows.0.0, follows.0.1 ∙ reply_zero w v e.operation),
  noted w (next_views v (entry_of e)) h (subst (λ (x : Views). Follows w x h) (after_zero v e.operation e.note) follows.1),
)

-- and back: the entries are those of the history with zero bytes
abbrev pub event_of : Entry → Event
event_of e = record { who = e.who; operation = call_operation e.call; note = e.note }

follows_zeros : (w : ℕ) (v : Views) (es : List Entry) → AreNoted w v es → Follows w v (map event_of es)
follows_zeros w v [] noted = tt
follows_zeros w v (e ∷ es) noted = (noted.0, follows_zeros w (next_views v e) es noted.1)

call_back : (c : Call) → call_of (call_operation c) ≡ c
call_back (Put n code len) = ap (Put n code) (length-replicate {A = ℕ} len 0)
call_back (Read n start len) = refl
call_back (Lose n j f) = refl
call_back (Repair n j f) = refl
call_back (Restore n v j f) = refl
call_back (Delete n) = refl
call_back (Stat n) = refl

entries_back : (es : List Entry) → map entry_of (map event_of es) ≡ es
entries_back [] = refl
entries_back (e ∷ es) = λ i. record e { call = call_back e.call i } ∷ entries_back es i

-- if all states that a base outlines show the same, and there is one
lawful_noted : (w : ℕ) (base : Checkpoint) (v : Views) (s : State) → Outlines base s → ((t : State) → Outlines base t → view t ≡ v) → (es : List Entry) → IsLawfulFrom base w es ↔ AreNoted w v es
lawful_noted w base v s outlined shows es = (
  λ l. subst (AreNoted w v) l.entries_are (noted w v l.events (subst (λ (x : Views). Follows w x l.events) (shows l.state l.outlined) ((legal_is w l.state l.events).0 l.legal))),
  λ a. record {
    state = s;
    outlined = outlined;
    events = map event_of es;
    legal = (legal_is w s (map event_of es)).1 (subst (λ (x : Views). Follows w x (map event_of es)) (sym (shows s outlined)) (follows_zeros w v es a));
    entries_are = entries_back es;
  },
)

-- so it is with the metadata of a base
pub lawful_kept : (w : ℕ) (base : Checkpoint) (r : Replay) → outlines_of r ≡ base.names → IsRising (outlines_of r) → r.puts ≡ base.puts → (es : List Entry) → IsLawfulFrom base w es ↔ AreNoted w (views_of r) es
lawful_kept w base r names rise puts es =
    lawful_noted w base (views_of r) (state_from base) (state_from-outlined base (subst IsRising names rise)) (λ t is. view_outlined base t r is names puts) es

-- the entries of a legal history have the right notes, and determine the views of the state after
-- it
pub legal_noted : (w : ℕ) (s : State) (h : History) → IsLegalFrom w s h → AreNoted w (view s) (map entry_of h)
legal_noted w s h legal = noted w (view s) h ((legal_is w s h).0 legal)

pub view_all : (s : State) (h : History) → view (after_all s h) ≡ all_next (view s) (map entry_of h)
view_all s [] = refl
view_all s (e ∷ h) =
    view_all (after s e.operation e.note) h
    ∙ ap (λ (v : Views). all_next v (map entry_of h)) (view_is s e.operation e.note ∙ after_zero (view s) e.operation e.note)

-- one entry more
pub split_at : (es : List Entry) (i : ℕ) (e : Entry) → i < length es → e ≡ get_or es i e → drop i es ≡ e ∷ drop (i + 1) es
split_at es i e l is = rw (add-one, drop-cons es i e) (ap (λ (x : Entry). x ∷ drop (suc i) es) (sym is))

pub noted_at : (w : ℕ) (v : Views) (es : List Entry) (i : ℕ) (e : Entry) → i < length es → e ≡ get_or es i e → AreNoted w v (drop i es) ↔ (IsNoted w v e × AreNoted w (next_views v e) (drop (i + 1) es))
noted_at w v es i e l is = let split = split_at es i e l is in (subst (AreNoted w v) split, subst (AreNoted w v) (sym split))

pub next_at : (v : Views) (es : List Entry) (i : ℕ) (e : Entry) → i < length es → e ≡ get_or es i e → all_next v (drop i es) ≡ all_next (next_views v e) (drop (i + 1) es)
next_at v es i e l is = ap (all_next v) (split_at es i e l is)

-- ---- entries by reference
pub within : {X : Type 0} (xs : List X) (i : ℕ) (f : X → Entry) → i < length xs → i < length (map f xs)
within xs i f l = subst (λ n. i < n) (sym (length-map xs f)) l

pub named_at : {X : Type 0} (xs : List X) (i : ℕ) (x : X) (f : X → Entry) → i < length xs → x ≡ get_or xs i x → f x ≡ get_or (map f xs) i (f x)
named_at xs i x f l is = ap f is ∙ sym (get_or-map f xs i x (f x) l)
