-- The step is a function: in each state an operation has one reply, which can be computed.
use Rattle.std.proofs.Common.{◌≡◌, ℕ, zero, suc, ◌+◌, ◌*◌, ◌/◌, ◌%◌, ◌<◌, ◌≤◌, ◌==◌, Bool, true, false, List, [], ◌∷◌, Option, None, Some, cond, length, refl, sym, ap, ◌∙◌, subst, arith, inl, inr}
use Rattle.std.specs.Prelude.{MatchBool, MatchOption, nat_le, ◌↔◌}
use Rattle.std.specs.Option.{option_map}
use Rattle.std.specs.FinMap as finite
use Rattle.std.specs.FinSet as set
use Rattle.std.specs.Cmp.Lexicographic.{nat_list_cmp_total}
use Rattle.std.specs.Ordering.{eq_by_cmp}
use Rattle.std.proofs.lemmas.Bool.{or_cases, or_parts, or_left, or_right, cases_eq, false≢true}
use Rattle.std.proofs.Math.Nat.{div-zero}
use Rattle.std.proofs.lemmas.Nat.{div_below as div_under}
use Rattle.std.proofs.lemmas.Grind.{common_steps}
use Rattle.lrc_code.specs.declared.Code.{Code}
use Rattle.lrc_code.specs.declared.Code.TheVariants.{Wide, Small}
use Rattle.lrc_code.specs.Code.{fragment_count, Open}
use Rattle.lrc_code.proofs.Recoverable.{exact}
use Rattle.sealed.proofs.Changing.{pairs_total}
use Rattle.sealed.specs.Layout.{stripe_of, fragment_of}
use Rattle.sealed.specs.Blob.{Lost, nothing, lost_in, pair_cmp}
use Rattle.sealed.specs.Range.{is_outside, HasUnrecoverableByte}
use Rattle.history.specs.Names.{name_cmp}
use Rattle.history.specs.State.{State, Blob, empty_state}
use Rattle.history.specs.Step.{Operation, put, read, lose, repair, restore, delete, stat, IfHolds, IsReply, IsReadReply, IsLoseReply, IsRepairReply, IsRestoreReply, is_no_fragment, stripes_of, after, with_lost}
use Rattle.history.specs.History.{History, IsLegalFrom, IsLegal}
use Rattle.history.specs.declared.note.Note.{Note}
use Rattle.history.specs.declared.note.Note.TheVariants as note
use Rattle.history.specs.Views.{View, Views, view_of, view, any_from, open_test, open_in_range, read_reply, lose_reply, repair_reply, restore_reply, delete_reply, stat_reply, reply, CanPut, added, taken, changed, view_after, empty_views}

-- ---- the reply meets the definition
if_is : (t : Bool) (P : Type 0) → ((t ≡ true) ↔ P) → (m x y : Note) → IfHolds P (m ≡ x) (m ≡ y) ↔ (m ≡ cond t x y)
if_is true P h m x y = (λ e. elim e [ inl p ↦ p.1 | inr n ↦ absurd (n.0 (h.0 refl)) ], λ e. inl (h.0 refl, e))
if_is false P h m x y = (λ e. elim e [ inl p ↦ absurd (false≢true (h.1 p.0)) | inr n ↦ n.1 ], λ e. inr (λ p. false≢true (h.1 p), e))

match_is : (b : Bool) (P : Type 0) (m x y : Note) → (b ≡ false → (P ↔ (m ≡ y))) → MatchBool b (m ≡ x) P ↔ (m ≡ cond b x y)
match_is true P m x y h = (λ e. e, λ e. e)
match_is false P m x y h = h refl

match_first : (b : Bool) (P : Type 0) (m x y : Note) → (P ↔ (m ≡ x)) → MatchBool b P (m ≡ y) ↔ (m ≡ cond b x y)
match_first true P m x y h = h
match_first false P m x y h = (λ e. e, λ e. e)

any_found : (p : ℕ → Bool) (a n : ℕ) → any_from p a n ≡ true → (i : ℕ) × (a ≤ i) × (i < a + n) × (p i ≡ true)
any_found p a zero h = absurd (false≢true h)
any_found p a (suc n) h =
    elim (or_cases (p a) (any_from p (suc a) n) h) [
      | inl here ↦ (a, omega arith, omega arith, here)
      | inr later ↦ let r = any_found p (suc a) n later in (r.0, (let l = r.1 in omega arith), (let l = r.2 in omega arith), r.3)
    ]

any_made : (p : ℕ → Bool) (a n i : ℕ) → a ≤ i → i < a + n → p i ≡ true → any_from p a n ≡ true
any_made p a zero i l u h = absurd (omega arith)
any_made p a (suc n) i l u h =
    elim (cases_eq i a) [
      | inl here ↦ or_left (p a) _ (subst (λ x. p x ≡ true) here h)
      | inr past ↦ or_right (p a) _ (any_made p (suc a) n i (omega arith) (omega arith) h)
    ]

div_below : (x d w : ℕ) → 1 ≤ w → x < d * w → x / w < d
div_below x d w some l = div_under x w d some l

-- also if no fragment has a byte: then each lies at index 0
fragment_below : (code : Code) (w i : ℕ) → fragment_of code w i < fragment_count code
fragment_below Wide zero i = subst (λ x. x < 16) (sym (div-zero (i % 0))) (omega arith)
fragment_below Small zero i = subst (λ x. x < 10) (sym (div-zero (i % 0))) (omega arith)
fragment_below Wide (suc w) i = (let l : fragment_of Wide (suc w) i < 12 = div_below (i % (12 * suc w)) 12 (suc w) (omega arith) (omega arith) in omega arith)
fragment_below Small (suc w) i = (let l : fragment_of Small (suc w) i < 6 = div_below (i % (6 * suc w)) 6 (suc w) (omega arith) (omega arith) in omega arith)

pub open_found : (code : Code) (w : ℕ) (lost : ℕ → ℕ → Bool) (start len : ℕ) → (open_in_range code w lost start len ≡ true) ↔ HasUnrecoverableByte code w lost start len
open_found code w lost start len = (
  λ h. let r = any_found (λ i. open_test code (lost (stripe_of code w i)) (fragment_of code w i)) start len h in (r.0, r.1, r.2, (exact code (lost (stripe_of code w r.0)) (fragment_of code w r.0) (fragment_below code w r.0)).0 r.3),
  λ o. any_made (λ i. open_test code (lost (stripe_of code w i)) (fragment_of code w i)) start len o.0 o.1 o.2 ((exact code (lost (stripe_of code w o.0)) (fragment_of code w o.0) (fragment_below code w o.0)).1 o.3),
)

pub below_of : (n f : ℕ) → nat_le n f ≡ false → f < n
below_of n f h = grind (arith, common_steps)

module _ (w : ℕ) where
  read_is : (x : Option Blob) (start len : ℕ) (m : Note) → IsReadReply w x start len m ↔ (m ≡ read_reply w (option_map view_of x) start len)
  read_is None start len m = (λ e. e, λ e. e)
  read_is (Some blob) start len m =
      match_is (is_outside (length blob.bytes) start len) _ m note.OutOfRange _ (λ inside.
      if_is (open_in_range blob.code w (lost_in blob.lost) start len) (HasUnrecoverableByte blob.code w (lost_in blob.lost) start len) (open_found blob.code w (lost_in blob.lost) start len) m (note.Unrecoverable blob.version) (note.Granted blob.version))

  lose_is : (x : Option Blob) (j f : ℕ) (m : Note) → IsLoseReply w x j f m ↔ (m ≡ lose_reply w (option_map view_of x) j f)
  lose_is None j f m = (λ e. e, λ e. e)
  lose_is (Some blob) j f m =
      match_is (is_no_fragment w blob j f) _ m note.NoFragment _ (λ inside.
      match_is (lost_in blob.lost j f) (m ≡ note.Lost blob.version) m note.AlreadyLost (note.Lost blob.version) (λ left. (λ e. e, λ e. e)))

  repair_is : (x : Option Blob) (j f : ℕ) (m : Note) → IsRepairReply w x j f m ↔ (m ≡ repair_reply w (option_map view_of x) j f)
  repair_is None j f m = (λ e. e, λ e. e)
  repair_is (Some blob) j f m =
      match_is (is_no_fragment w blob j f) _ m note.NoFragment _ (λ inside.
      match_first (lost_in blob.lost j f) _ m _ note.NotLost
      (if_is (open_test blob.code (lost_in blob.lost j) f) (Open blob.code (lost_in blob.lost j) f) (exact blob.code (lost_in blob.lost j) f (below_of (fragment_count blob.code) f (or_parts (nat_le (stripes_of w blob) j) _ inside).1)) m (note.Unrecoverable blob.version) (note.Repaired blob.version)))

  restore_is : (x : Option Blob) (v j f : ℕ) (m : Note) → IsRestoreReply w x v j f m ↔ (m ≡ restore_reply w (option_map view_of x) v j f)
  restore_is None v j f m = (λ e. e, λ e. e)
  restore_is (Some blob) v j f m =
      match_first (blob.version == v) _ m _ (note.Replaced blob.version)
      (match_is (is_no_fragment w blob j f) _ m note.NoFragment _ (λ inside.
      match_first (lost_in blob.lost j f) _ m (note.Repaired blob.version) note.NotLost (λ e. e, λ e. e)))

  delete_is : (x : Option Blob) (m : Note) → MatchOption x (m ≡ note.NoName) (λ blob. m ≡ note.Deleted blob.version) ↔ (m ≡ delete_reply w (option_map view_of x))
  delete_is None m = (λ e. e, λ e. e)
  delete_is (Some blob) m = (λ e. e, λ e. e)

  stat_is : (x : Option Blob) (m : Note) → MatchOption x (m ≡ note.NoName) (λ blob. m ≡ note.Shape blob.version (length blob.bytes) (stripes_of w blob) (set.len blob.lost)) ↔ (m ≡ stat_reply w (option_map view_of x))
  stat_is None m = (λ e. e, λ e. e)
  stat_is (Some blob) m = (λ e. e, λ e. e)

  -- the law: a note is the reply if and only if it is the computed one
  pub reply_is : (s : State) (o : Operation) (m : Note) → IsReply w s o m ↔ (CanPut w o × (m ≡ reply w (view s) o))
  reply_is s (put n code b) m = (λ e. e, λ e. e)
  reply_is s (read n start len) m = let r = read_is (finite.get s.names n) start len m in (λ e. (tt, r.0 e), λ e. r.1 e.1)
  reply_is s (lose n j f) m = let r = lose_is (finite.get s.names n) j f m in (λ e. (tt, r.0 e), λ e. r.1 e.1)
  reply_is s (repair n j f) m = let r = repair_is (finite.get s.names n) j f m in (λ e. (tt, r.0 e), λ e. r.1 e.1)
  reply_is s (restore n v j f) m = let r = restore_is (finite.get s.names n) v j f m in (λ e. (tt, r.0 e), λ e. r.1 e.1)
  reply_is s (delete n) m = let r = delete_is (finite.get s.names n) m in (λ e. (tt, r.0 e), λ e. r.1 e.1)
  reply_is s (stat n) m = let r = stat_is (finite.get s.names n) m in (λ e. (tt, r.0 e), λ e. r.1 e.1)

  -- so no operation has two replies, and each that can be made has one
  pub one_reply : (s : State) (o : Operation) (m k : Note) → IsReply w s o m → IsReply w s o k → m ≡ k
  one_reply s o m k p q = ((reply_is s o m).0 p).1 ∙ sym ((reply_is s o k).0 q).1

  pub some_reply : (s : State) (o : Operation) → CanPut w o → (m : Note) × IsReply w s o m
  some_reply s o can = (reply w (view s) o, (reply_is s o (reply w (view s) o)).1 (can, refl))

-- ---- the state after it
map_cond : (b : Bool) (x : Blob) (y : Option Blob) → option_map view_of (cond b (Some x) y) ≡ cond b (Some (view_of x)) (option_map view_of y)
map_cond true x y = refl
map_cond false x y = refl

map_none : (b : Bool) (y : Option Blob) → option_map view_of (cond b None y) ≡ cond b None (option_map view_of y)
map_none true y = refl
map_none false y = refl

inserted : (s : State) (n q : List ℕ) (x : Blob) → option_map view_of (finite.get (finite.insert s.names n x) q) ≡ cond (eq_by_cmp name_cmp q n) (Some (view_of x)) (option_map view_of (finite.get s.names q))
inserted s n q x = ap (option_map view_of) (finite.get-insert nat_list_cmp_total s.names n x q) ∙ map_cond (eq_by_cmp name_cmp q n) x (finite.get s.names q)

with_lost_view : (s : State) (n : List ℕ) (x : Option Blob) (change : Lost → Lost) (f : View → View) → ((b : Blob) → view_of (record b { lost = change b.lost }) ≡ f (view_of b))
    → view (with_lost s n x change) ≡ changed (view s) n (option_map view_of x) f
with_lost_view s n None change f same = refl
with_lost_view s n (Some b) change f same =
    λ i. record { names = λ q. (inserted s n q (record b { lost = change b.lost }) ∙ ap (λ v. cond (eq_by_cmp name_cmp q n) (Some v) (option_map view_of (finite.get s.names q))) (same b)) i; puts = s.puts }

added_view : (j f : ℕ) (b : Blob) → view_of (record b { lost = set.insert b.lost (j, f) }) ≡ added j f (view_of b)
added_view j f b =
    λ i. record { version = b.version; len = length b.bytes; code = b.code; lost = λ x y. set.contains-insert pairs_total b.lost (j, f) (x, y) i; count = set.len-insert pairs_total b.lost (j, f) i }

taken_view : (j f : ℕ) (b : Blob) → view_of (record b { lost = set.remove b.lost (j, f) }) ≡ taken j f (view_of b)
taken_view j f b =
    λ i. record { version = b.version; len = length b.bytes; code = b.code; lost = λ x y. set.contains-remove pairs_total b.lost (j, f) (x, y) i; count = set.len-remove pairs_total b.lost (j, f) i }

fresh_view : (v l : ℕ) (b : List ℕ) (code : Code) → view_of (record { version = v; bytes = b; code = code; lost = nothing }) ≡ record { version = v; len = length b; code = code; lost = λ j f. false; count = 0 }
fresh_view v l b code =
    λ i. record { version = v; len = length b; code = code; lost = λ x y. set.contains-empty pair_cmp (x, y) i; count = set.len-empty pair_cmp i }

pub view_is : (s : State) (o : Operation) (m : Note) → view (after s o m) ≡ view_after (view s) o m
view_is s (put n code b) m =
    λ i. record {
      names = λ q. (inserted s n q (record { version = s.puts + 1; bytes = b; code = code; lost = nothing }) ∙ ap (λ v. cond (eq_by_cmp name_cmp q n) (Some v) (option_map view_of (finite.get s.names q))) (fresh_view (s.puts + 1) 0 b code)) i;
      puts = s.puts + 1;
    }
view_is s (read n start len) m = refl
view_is s (lose n j f) (note.Lost v) = with_lost_view s n (finite.get s.names n) _ (added j f) (added_view j f)
view_is s (lose n j f) m = refl
view_is s (repair n j f) (note.Repaired v) = with_lost_view s n (finite.get s.names n) _ (taken j f) (taken_view j f)
view_is s (repair n j f) m = refl
view_is s (restore n y j f) (note.Repaired v) = with_lost_view s n (finite.get s.names n) _ (taken j f) (taken_view j f)
view_is s (restore n y j f) m = refl
view_is s (delete n) (note.Deleted v) =
    λ i. record { names = λ q. (ap (option_map view_of) (finite.get-remove nat_list_cmp_total s.names n q) ∙ map_none (eq_by_cmp name_cmp q n) (finite.get s.names q)) i; puts = s.puts }
view_is s (delete n) m = refl
view_is s (stat n) m = refl

-- ---- whole histories
abbrev pub Follows : ℕ → Views → History → Type 0
Follows w v [] = Unit {0}
Follows w v (e ∷ es) = (CanPut w e.operation × (e.note ≡ reply w v e.operation)) × Follows w (view_after v e.operation e.note) es

pub legal_is : (w : ℕ) (s : State) (h : History) → IsLegalFrom w s h ↔ Follows w (view s) h
legal_is w s [] = (λ e. e, λ e. e)
legal_is w s (e ∷ es) =
    let here = reply_is w s e.operation e.note in
    let rest = legal_is w (after s e.operation e.note) es in
    let same = view_is s e.operation e.note in (
      λ l. (here.0 l.0, subst (λ (v : Views). Follows w v es) same (rest.0 l.1)),
      λ l. (here.1 l.0, rest.1 (subst (λ (v : Views). Follows w v es) (sym same) l.1)),
    )

-- the replies to operations, one after the other
abbrev pub replies : ℕ → Views → List Operation → List Note
replies w v [] = []
replies w v (o ∷ os) = reply w v o ∷ replies w (view_after v o (reply w v o)) os

-- operations with their replies, all made by one caller
abbrev pub told : List Operation → List Note → History
told [] ms = []
told (o ∷ os) [] = []
told (o ∷ os) (m ∷ ms) = record { who = 1; operation = o; note = m } ∷ told os ms

abbrev pub CanPuts : ℕ → List Operation → Type 0
CanPuts w [] = Unit {0}
CanPuts w (o ∷ os) = CanPut w o × CanPuts w os

follows : (w : ℕ) (v : Views) (os : List Operation) → CanPuts w os → Follows w v (told os (replies w v os))
follows w v [] can = tt
follows w v (o ∷ os) can = ((can.0, refl), follows w (view_after v o (reply w v o)) os can.1)

pub empty_view : view empty_state ≡ empty_views
empty_view = λ i. record { names = λ n. ap (option_map view_of) (finite.get-empty name_cmp n) i; puts = 0 }

-- operations with the computed replies are a legal history
pub legal_by : (w : ℕ) (os : List Operation) (ms : List Note) → CanPuts w os → replies w empty_views os ≡ ms → IsLegal w (told os ms)
legal_by w os ms can same =
    (legal_is w empty_state (told os ms)).1 (subst (λ (v : Views). Follows w v (told os ms)) (sym empty_view) (subst (λ (x : List Note). Follows w empty_views (told os x)) same (follows w empty_views os can)))

-- and no other notes are
follows_back : (w : ℕ) (v : Views) (os : List Operation) (ms : List Note) → length os ≡ length ms → Follows w v (told os ms) → ms ≡ replies w v os
follows_back w v [] [] e f = refl
follows_back w v [] (m ∷ ms) e f = absurd (omega arith)
follows_back w v (o ∷ os) [] e f = absurd (omega arith)
follows_back w v (o ∷ os) (m ∷ ms) e f =
    let rest : ms ≡ replies w (view_after v o m) os = follows_back w (view_after v o m) os ms (omega arith) f.1 in
    subst (λ (k : Note). m ∷ ms ≡ k ∷ replies w (view_after v o k) os) f.0.1 (ap (λ (x : List Note). m ∷ x) rest)

pub replies_by : (w : ℕ) (os : List Operation) (ms : List Note) → length os ≡ length ms → IsLegal w (told os ms) → ms ≡ replies w empty_views os
replies_by w os ms e legal = follows_back w empty_views os ms e (subst (λ (v : Views). Follows w v (told os ms)) empty_view ((legal_is w empty_state (told os ms)).0 legal))
