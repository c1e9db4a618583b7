-- Entries change no names but their own. So on the names of a part, the replay of the part is the
-- replay of all names.
use Rattle.std.proofs.Common.{◌≡◌, ℕ, ◌+◌, ◌<◌, Bool, true, false, ◌&&◌, List, [], ◌∷◌, replicate, length, get_or, drop, Option, None, Some, cond, refl, sym, ap, ◌∙◌, subst}
use Rattle.std.specs.Ordering.{eq_by_cmp}
use Rattle.std.specs.Cmp.Lexicographic.{nat_list_cmp_total}
use Rattle.std.proofs.lemmas.Cmp.{eq_by_cmp_equiv}
use Rattle.std.proofs.lemmas.Bool.{false≢true, or_left, or_right}
use Rattle.std.proofs.lemmas.Map.Lookups.{exact_bytes}
use Rattle.std.proofs.lemmas.Map.Views.{tells_apart, any-filter_same}
use Rattle.history.specs.Names.{name_cmp}
use Rattle.history.specs.Parts.{name_of, can_change, changes_of, is_changed}
use Rattle.history.specs.Views.{View, Views, reply, read_reply, lose_reply, repair_reply, restore_reply, delete_reply, stat_reply, view_after, changed, added, taken, call_operation, AreNoted, next_views, all_next}
use Rattle.history.specs.declared.note.Call.{Call}
use Rattle.history.specs.declared.note.Call.TheVariants.{Put, Read, Lose, Repair, Restore, Delete, Stat}
use Rattle.history.specs.declared.note.Entry.{Entry}
use Rattle.history.specs.declared.note.Note.{Note}
use Rattle.history.specs.declared.note.Note.TheVariants as note
use Rattle.history.proofs.Shapes.{split_at}

-- ---- a replay within some names
module _ (within : List ℕ → Bool) where
  -- p's view of the names within, and v's of the others
  abbrev pub over : Views → Views → Views
  over v p = record { names = λ q. cond (within q) (p.names q) (v.names q); puts = p.puts }

  -- each entry is of a name within
  abbrev pub AreWithin : List Entry → Type 0
  AreWithin [] = Unit {0}
  AreWithin (e ∷ es) = (within (name_of e.call) ≡ true) × AreWithin es

  swap : (here inside : Bool) (x y z : Option View) → (here ≡ true → inside ≡ true) → cond here x (cond inside y z) ≡ cond inside (cond here x y) z
  swap true true x y z h = refl
  swap true false x y z h = absurd (false≢true (h refl))
  swap false inside x y z h = refl

  tied : (q n : List ℕ) → within n ≡ true → eq_by_cmp name_cmp q n ≡ true → within q ≡ true
  tied q n h t = subst (λ m. within m ≡ true) (sym (tells_apart exact_bytes q n t)) h

  found : (v p : Views) (n : List ℕ) → within n ≡ true → (over v p).names n ≡ p.names n
  found v p n h = ap (λ b. cond b (p.names n) (v.names n)) h

  changed_over : (v p : Views) (n : List ℕ) (view : Option View) (change : View → View) → within n ≡ true → changed (over v p) n view change ≡ over v (changed p n view change)
  changed_over v p n None change h = refl
  changed_over v p n (Some x) change h =
      λ i. record { names = λ q. swap (eq_by_cmp name_cmp q n) (within q) (Some (change x)) (p.names q) (v.names q) (tied q n h) i; puts = p.puts }

  changed_within : (v p : Views) (n : List ℕ) (change : View → View) → within n ≡ true
      → changed (over v p) n ((over v p).names n) change ≡ over v (changed p n (p.names n) change)
  changed_within v p n change h = ap (λ view. changed (over v p) n view change) (found v p n h) ∙ changed_over v p n (p.names n) change h

  next_over : (v p : Views) (c : Call) (m : Note) → within (name_of c) ≡ true → view_after (over v p) (call_operation c) m ≡ over v (view_after p (call_operation c) m)
  next_over v p (Put n code len) m h =
      λ i. record {
        names = λ q. swap (eq_by_cmp name_cmp q n) (within q)
            (Some (record { version = p.puts + 1; len = length (replicate {A = ℕ} len 0); code = code; lost = λ j f. false; count = 0 })) (p.names q) (v.names q) (tied q n h) i;
        puts = p.puts + 1;
      }
  next_over v p (Read n start len) m h = refl
  next_over v p (Lose n j f) (note.Lost x) h = changed_within v p n (added j f) h
  next_over v p (Lose n j f) m h = refl
  next_over v p (Repair n j f) (note.Repaired x) h = changed_within v p n (taken j f) h
  next_over v p (Repair n j f) m h = refl
  next_over v p (Restore n y j f) (note.Repaired x) h = changed_within v p n (taken j f) h
  next_over v p (Restore n y j f) m h = refl
  next_over v p (Delete n) (note.Deleted x) h =
      λ i. record { names = λ q. swap (eq_by_cmp name_cmp q n) (within q) None (p.names q) (v.names q) (tied q n h) i; puts = p.puts }
  next_over v p (Delete n) m h = refl
  next_over v p (Stat n) m h = refl

  -- entries on names within change only those names
  pub all_next_over : (v p : Views) (es : List Entry) → AreWithin es → all_next (over v p) es ≡ over v (all_next p es)
  all_next_over v p [] h = refl
  all_next_over v p (e ∷ es) h = ap (λ x. all_next x es) (next_over v p e.call e.note h.0) ∙ all_next_over v (next_views p e) es h.1

  module _ (w : ℕ) where
    reply_over : (v p : Views) (c : Call) → within (name_of c) ≡ true → reply w (over v p) (call_operation c) ≡ reply w p (call_operation c)
    reply_over v p (Put n code len) h = refl
    reply_over v p (Read n start len) h = ap (λ view. read_reply w view start len) (found v p n h)
    reply_over v p (Lose n j f) h = ap (λ view. lose_reply w view j f) (found v p n h)
    reply_over v p (Repair n j f) h = ap (λ view. repair_reply w view j f) (found v p n h)
    reply_over v p (Restore n x j f) h = ap (λ view. restore_reply w view x j f) (found v p n h)
    reply_over v p (Delete n) h = ap (λ view. delete_reply w view) (found v p n h)
    reply_over v p (Stat n) h = ap (λ view. stat_reply w view) (found v p n h)

    -- and their replies depend on nothing else
    pub noted_within : (v p : Views) (es : List Entry) → AreWithin es → AreNoted w (over v p) es → AreNoted w p es
    noted_within v p [] h noted = tt
    noted_within v p (e ∷ es) h noted = (
      (noted.0.0, noted.0.1 ∙ reply_over v p e.call h.0),
      noted_within v (next_views p e) es h.1 (subst (λ x. AreNoted w x es) (next_over v p e.call e.note h.0) noted.1),
    )

-- ---- entries that can change nothing change nothing
idle : (v : Views) (c : Call) (m : Note) → can_change c ≡ false → view_after v (call_operation c) m ≡ v
idle v (Put n code len) m h = absurd (false≢true (sym h))
idle v (Read n start len) m h = refl
idle v (Lose n j f) m h = absurd (false≢true (sym h))
idle v (Repair n j f) m h = absurd (false≢true (sym h))
idle v (Restore n x j f) m h = absurd (false≢true (sym h))
idle v (Delete n) m h = absurd (false≢true (sym h))
idle v (Stat n) m h = refl

pub all_next-changes : (v : Views) (es : List Entry) → all_next v es ≡ all_next v (changes_of es)
all_next-changes v [] = refl
all_next-changes v (e ∷ es) = by (can_change e.call) refl (all_next-changes (next_views v e) es) (all_next-changes v es)
  where
    by : (b : Bool) → can_change e.call ≡ b → all_next (next_views v e) es ≡ all_next (next_views v e) (changes_of es) → all_next v es ≡ all_next v (changes_of es)
        → all_next (next_views v e) es ≡ all_next v (cond b (e ∷ changes_of es) (changes_of es))
    by true t after same = after
    by false t after same = ap (λ x. all_next x es) (idle v e.call e.note t) ∙ same

-- one entry more
pub changes_at : (es : List Entry) (i : ℕ) (e : Entry) → i < length es → e ≡ get_or es i e → (b : Bool) → can_change e.call ≡ b
    → changes_of (drop i es) ≡ cond b (e ∷ changes_of (drop (i + 1) es)) (changes_of (drop (i + 1) es))
changes_at es i e l is b t =
    ap changes_of (split_at es i e l is) ∙ ap (λ c. cond c (e ∷ changes_of (drop (i + 1) es)) (changes_of (drop (i + 1) es))) t

pub noted-changes : (w : ℕ) (v : Views) (es : List Entry) → AreNoted w v es → AreNoted w v (changes_of es)
noted-changes w v [] noted = tt
noted-changes w v (e ∷ es) noted = by (can_change e.call) refl (noted-changes w (next_views v e) es noted.1)
  where
    by : (b : Bool) → can_change e.call ≡ b → AreNoted w (next_views v e) (changes_of es) → AreNoted w v (cond b (e ∷ changes_of es) (changes_of es))
    by true t rest = (noted.0, rest)
    by false t rest = subst (λ x. AreNoted w x (changes_of es)) (idle v e.call e.note t) rest

-- the entries that can change something are of the names that can be changed
pub changes_within : (within : List ℕ → Bool) (es : List Entry) → ((q : List ℕ) → is_changed es q ≡ true → within q ≡ true) → AreWithin within (changes_of es)
changes_within within [] h = tt
changes_within within (e ∷ es) h =
    by (can_change e.call) refl (changes_within within es (λ q t. h q (or_right (can_change e.call && eq_by_cmp name_cmp q (name_of e.call)) _ t)))
  where
    by : (b : Bool) → can_change e.call ≡ b → AreWithin within (changes_of es) → AreWithin within (cond b (e ∷ changes_of es) (changes_of es))
    by true t rest = (
      h (name_of e.call) (or_left _ (is_changed es (name_of e.call)) ((λ i. t i && (eq_by_cmp_equiv nat_list_cmp_total).refl (name_of e.call) i))),
      rest,
    )
    by false t rest = rest

-- and say alone which these are
first_true : (x y : Bool) → (x && y) ≡ true → x ≡ true
first_true true y h = refl
first_true false y h = h

pub changed_alike : (es : List Entry) (q : List ℕ) → is_changed (changes_of es) q ≡ is_changed es q
changed_alike es q =
    any-filter_same (λ (e : Entry). can_change e.call && eq_by_cmp name_cmp q (name_of e.call)) (λ (e : Entry). can_change e.call) true
    (λ e t. first_true (can_change e.call) (eq_by_cmp name_cmp q (name_of e.call)) t) es

-- once more they are the same
pub changes_twice : (es : List Entry) → changes_of (changes_of es) ≡ changes_of es
changes_twice [] = refl
changes_twice (e ∷ es) = by (can_change e.call) refl (changes_twice es)
  where
    by : (b : Bool) → can_change e.call ≡ b → changes_of (changes_of es) ≡ changes_of es → changes_of (cond b (e ∷ changes_of es) (changes_of es)) ≡ cond b (e ∷ changes_of es) (changes_of es)
    by true t rest = ap (λ b. cond b (e ∷ changes_of (changes_of es)) (changes_of (changes_of es))) t ∙ ap (λ xs. e ∷ xs) rest
    by false t rest = rest
