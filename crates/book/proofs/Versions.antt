-- Each blob of a legal history was put in it, and no two of its puts have one version.
use Rattle.std.proofs.Common.{◌≡◌, ◌⊎◌, ℕ, ◌+◌, ◌<◌, Bool, true, false, List, [], ◌∷◌, ◌++◌, Option, None, Some, cond, inl, inr, refl, ap, sym, subst, ◌∙◌, arith}
use Rattle.std.specs.FinMap as finite
use Rattle.std.specs.Cmp.{Equal-is}
use Rattle.std.specs.Cmp.Lexicographic.{nat_list_cmp_total}
use Rattle.std.specs.Ordering.{eq_by_cmp}
use Rattle.std.proofs.lemmas.List.{append_assoc}
use Rattle.std.proofs.lemmas.Map.Lookups.{exact_bytes}
use Rattle.lrc_code.specs.declared.Code.{Code}
use Rattle.sealed.specs.Blob.{Lost, nothing}
use Rattle.history.specs.declared.note.Note.{Note}
use Rattle.history.specs.declared.note.Note.TheVariants as note
use Rattle.history.specs.Names.{name_cmp}
use Rattle.history.specs.State.{Blob, State, empty_state}
use Rattle.history.specs.Step.{Operation, put, read, lose, repair, restore, delete, stat, IsReply, after, with_lost}
use Rattle.history.specs.History.{Event, History, after_all, IsLegalFrom, IsLegal, state_of, HasPut}
use Rattle.history.proofs.Puts.{puts-after}

-- ---- each blob was put
same_name : (n m : List ℕ) → eq_by_cmp name_cmp n m ≡ true → n ≡ m
same_name n m e = exact_bytes n m ((Equal-is (name_cmp n m)).0 e)

-- the name had the same bytes before, under the same version
abbrev Had : State → List ℕ → Blob → Type 0
Had s n blob = (old : Blob) × (finite.get s.names n ≡ Some old) × (old.version ≡ blob.version) × (old.code ≡ blob.code) × (old.bytes ≡ blob.bytes)

-- or this call put them
abbrev Puts : Operation → Note → List ℕ → Blob → Type 0
Puts o m n blob = (o ≡ put n blob.code blob.bytes) × (m ≡ note.Stored blob.version)

same_blob : (a b : Blob) → Some a ≡ Some b → a ≡ b
same_blob a b e = cc

no_blob : (b : Blob) → ◌≡◌ {A = Option Blob} None (Some b) → ⊥
no_blob b e = cc

by_cond : (t : Bool) (s : State) (n : List ℕ) (o : Operation) (m : Note) (new blob : Blob) → (t ≡ true → new ≡ blob → Had s n blob ⊎ Puts o m n blob)
    → cond t (Some new) (finite.get s.names n) ≡ Some blob → Had s n blob ⊎ Puts o m n blob
by_cond true s n o m new blob f e = f refl (same_blob new blob e)
by_cond false s n o m new blob f e = inl (blob, e, refl, refl, refl)

back_lost : (s : State) (n m : List ℕ) (had : Option Blob) (change : Lost → Lost) (o : Operation) (x : Note) (blob : Blob) → finite.get s.names m ≡ had
    → finite.get (with_lost s m had change).names n ≡ Some blob → Had s n blob ⊎ Puts o x n blob
back_lost s n m None change o x blob is e = inl (blob, e, refl, refl, refl)
back_lost s n m (Some old) change o x blob is e =
    let new : Blob = record old { lost = change old.lost } in
    by_cond (eq_by_cmp name_cmp n m) s n o x new blob
    (λ t same. inl (old, ap (finite.get s.names) (same_name n m t) ∙ is, ap (λ (c : Blob). c.version) same, ap (λ (c : Blob). c.code) same, ap (λ (c : Blob). c.bytes) same))
    (sym (finite.get-insert nat_list_cmp_total s.names m new n) ∙ e)

back_removed : (t : Bool) (s : State) (n : List ℕ) (blob : Blob) → cond t None (finite.get s.names n) ≡ Some blob → finite.get s.names n ≡ Some blob
back_removed true s n blob e = absurd (no_blob blob e)
back_removed false s n blob e = e

one_back : (w : ℕ) (s : State) (o : Operation) (x : Note) (n : List ℕ) (blob : Blob) → IsReply w s o x → finite.get (after s o x).names n ≡ Some blob → Had s n blob ⊎ Puts o x n blob
one_back w s (put m code b) x n blob reply e =
    let new : Blob = record { version = s.puts + 1; bytes = b; code = code; lost = nothing } in
    by_cond (eq_by_cmp name_cmp n m) s n (put m code b) x new blob
    (λ t same. inr ((λ i. put (sym (same_name n m t) i) (same i).code (same i).bytes), reply.1 ∙ ap (λ (c : Blob). note.Stored c.version) same))
    (sym (finite.get-insert nat_list_cmp_total s.names m new n) ∙ e)
one_back w s (read m start len) x n blob reply e = inl (blob, e, refl, refl, refl)
one_back w s (lose m j f) (note.Lost v) n blob reply e = back_lost s n m (finite.get s.names m) _ (lose m j f) (note.Lost v) blob refl e
one_back w s (lose m j f) x n blob reply e = inl (blob, e, refl, refl, refl)
one_back w s (repair m j f) (note.Repaired v) n blob reply e = back_lost s n m (finite.get s.names m) _ (repair m j f) (note.Repaired v) blob refl e
one_back w s (repair m j f) x n blob reply e = inl (blob, e, refl, refl, refl)
one_back w s (restore m y j f) (note.Repaired v) n blob reply e = back_lost s n m (finite.get s.names m) _ (restore m y j f) (note.Repaired v) blob refl e
one_back w s (restore m y j f) x n blob reply e = inl (blob, e, refl, refl, refl)
one_back w s (delete m) (note.Deleted v) n blob reply e = inl (blob, back_removed (eq_by_cmp name_cmp n m) s n blob (sym (finite.get-remove nat_list_cmp_total s.names m n) ∙ e), refl, refl, refl)
one_back w s (delete m) x n blob reply e = inl (blob, e, refl, refl, refl)
one_back w s (stat m) x n blob reply e = inl (blob, e, refl, refl, refl)

one_earlier : (e : Event) (h : History) (v : ℕ) (n : List ℕ) (code : Code) (b : List ℕ) → HasPut h v n code b → HasPut (e ∷ h) v n code b
one_earlier e h v n code b is = record { who = is.who; before = e ∷ is.before; later = is.later; whole = ap (λ (l : History). e ∷ l) is.whole }

put_first : (e : Event) (h : History) (v : ℕ) (n : List ℕ) (code : Code) (b : List ℕ) → e.operation ≡ put n code b → e.note ≡ note.Stored v → HasPut (e ∷ h) v n code b
put_first e h v n code b is stored = record { who = e.who; before = []; later = h; whole = λ i. record { who = e.who; operation = is i; note = stored i } ∷ h }

put_behind : (w : ℕ) (s : State) (h : History) → IsLegalFrom w s h → (n : List ℕ) (blob : Blob) → finite.get (after_all s h).names n ≡ Some blob
    → Had s n blob ⊎ HasPut h blob.version n blob.code blob.bytes
put_behind w s [] legal n blob is = inl (blob, is, refl, refl, refl)
put_behind w s (e ∷ h) legal n blob is =
    elim (put_behind w (after s e.operation e.note) h legal.1 n blob is) [
      | inl had ↦ elim (one_back w s e.operation e.note n had.0 legal.0 had.1) [
        | inl older ↦ inl (older.0, older.1, older.2 ∙ had.2, older.3 ∙ had.3, older.4 ∙ had.4)
        | inr puts ↦ inr (put_first e h blob.version n blob.code blob.bytes (puts.0 ∙ (λ i. put n (had.3 i) (had.4 i))) (puts.1 ∙ ap note.Stored had.2))
      ]
      | inr later ↦ inr (one_earlier e h blob.version n blob.code blob.bytes later)
    ]

-- what a name has after a legal history was put in it
pub was_put : (w : ℕ) (h : History) → IsLegal w h → (n : List ℕ) (blob : Blob) → finite.get (state_of h).names n ≡ Some blob → HasPut h blob.version n blob.code blob.bytes
was_put w h legal n blob is =
    elim (put_behind w empty_state h legal n blob is) [
      | inl had ↦ absurd (no_blob had.0 (sym (finite.get-empty name_cmp n) ∙ had.1))
      | inr there ↦ there
    ]

-- and a longer history still has its put
pub put_later : (h more : History) (v : ℕ) (n : List ℕ) (code : Code) (b : List ℕ) → HasPut h v n code b → HasPut (h ++ more) v n code b
put_later h more v n code b is =
    record {
      who = is.who;
      before = is.before;
      later = is.later ++ more;
      whole = ap (λ (l : History). l ++ more) is.whole ∙ append_assoc is.before (record { who = is.who; operation = put n code b; note = note.Stored v } ∷ is.later) more;
    }

-- ---- no two puts have one version
-- the event is among them
abbrev Has : Event → History → Type 0
Has e [] = ⊥
Has e (x ∷ h) = (x ≡ e) ⊎ Has e h

between : (before : History) (e : Event) (later : History) → Has e (before ++ e ∷ later)
between [] e later = inl refl
between (x ∷ before) e later = inr (between before e later)

abbrev put_of : ℕ → List ℕ → Code → List ℕ → ℕ → Event
put_of who n code b v = record { who = who; operation = put n code b; note = note.Stored v }

has_put : (h : History) (v : ℕ) (n : List ℕ) (code : Code) (b : List ℕ) → (is : HasPut h v n code b) → Has (put_of is.who n code b v) h
has_put h v n code b is = subst (Has (put_of is.who n code b v)) (sym is.whole) (between is.before (put_of is.who n code b v) is.later)

same_version : (v u : ℕ) → note.Stored v ≡ note.Stored u → v ≡ u
same_version v u e = cc

-- a put has the next version, and is counted
put_now : (w : ℕ) (s : State) (e : Event) (who : ℕ) (n : List ℕ) (code : Code) (b : List ℕ) (v : ℕ) → IsReply w s e.operation e.note → e ≡ put_of who n code b v
    → (v ≡ s.puts + 1) × ((after s e.operation e.note).puts ≡ s.puts + 1)
put_now w s e who n code b v reply is =
    let now : IsReply w s (put n code b) (note.Stored v) = subst (λ (x : Event). IsReply w s x.operation x.note) is reply in
    (same_version v (s.puts + 1) now.1, ap (λ (x : Event). (after s x.operation x.note).puts) is)

later_put : (w : ℕ) (s : State) (h : History) → IsLegalFrom w s h → (who : ℕ) (n : List ℕ) (code : Code) (b : List ℕ) (v : ℕ) → Has (put_of who n code b v) h → s.puts < v
later_put w s [] legal who n code b v has = absurd has
later_put w s (e ∷ h) legal who n code b v (inl is) = (let now = put_now w s e who n code b v legal.0 is in omega (arith, now.0))
later_put w s (e ∷ h) legal who n code b v (inr has) =
    let more : (after s e.operation e.note).puts < v = later_put w (after s e.operation e.note) h legal.1 who n code b v has in
    omega (arith, puts-after s e.operation e.note)

one_put : (w : ℕ) (s : State) (h : History) → IsLegalFrom w s h → (v who who' : ℕ) (n m : List ℕ) (code code' : Code) (b c : List ℕ) → Has (put_of who n code b v) h
    → Has (put_of who' m code' c v) h → put m code' c ≡ put n code b
one_put w s [] legal v who who' n m code code' b c one other = absurd one
one_put w s (e ∷ h) legal v who who' n m code code' b c (inl one) (inl other) = ap (λ (x : Event). x.operation) (sym other ∙ one)
one_put w s (e ∷ h) legal v who who' n m code code' b c (inl one) (inr other) =
    let now = put_now w s e who n code b v legal.0 one in
    absurd (omega (arith, now.0, now.1, later_put w (after s e.operation e.note) h legal.1 who' m code' c v other))
one_put w s (e ∷ h) legal v who who' n m code code' b c (inr one) (inl other) =
    let now = put_now w s e who' m code' c v legal.0 other in
    absurd (omega (arith, now.0, now.1, later_put w (after s e.operation e.note) h legal.1 who n code b v one))
one_put w s (e ∷ h) legal v who who' n m code code' b c (inr one) (inr other) = one_put w (after s e.operation e.note) h legal.1 v who who' n m code code' b c one other

-- two puts of a legal history that have one version are one put
pub only_put : (w : ℕ) (h : History) → IsLegal w h → (v : ℕ) (n m : List ℕ) (code code' : Code) (b c : List ℕ) → HasPut h v n code b → HasPut h v m code' c → put m code' c ≡ put n code b
only_put w h legal v n m code code' b c one other =
    one_put w empty_state h legal v one.who other.who n m code code' b c (has_put h v n code b one) (has_put h v m code' c other)
