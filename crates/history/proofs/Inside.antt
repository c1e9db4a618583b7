-- In a legal state the lost pairs of a blob are fragments of it.
use Rattle.std.proofs.Common.{◌≡◌, ℕ, ◌<◌, Bool, true, false, not, List, [], ◌∷◌, Option, None, Some, cond, refl, sym, ap, ◌∙◌, subst, arith, inl, inr}
use Rattle.std.specs.Prelude.{nat_le}
use Rattle.std.specs.Option.{option_map}
use Rattle.std.specs.FinMap as finite
use Rattle.std.specs.Ordering.{eq_by_cmp}
use Rattle.std.proofs.lemmas.Bool.{or_cases, or_parts, and_parts, false≢true}
use Rattle.std.proofs.lemmas.Grind.{common_steps}
use Rattle.lrc_code.specs.Code.{fragment_count}
use Rattle.sealed.specs.Layout.{stripe_count}
use Rattle.sealed.specs.Blob.{pair_cmp}
use Rattle.history.specs.Names.{name_cmp}
use Rattle.history.specs.State.{State, Blob, empty_state, IsLostInside}
use Rattle.history.specs.Step.{Operation, put, read, lose, repair, restore, delete, stat, after}
use Rattle.history.specs.History.{History, after_all, IsLegalFrom, IsLegal, state_of}
use Rattle.history.specs.declared.note.Note.{Note}
use Rattle.history.specs.declared.note.Note.TheVariants as note
use Rattle.history.proofs.Replies.{reply_is, view_is, empty_view, below_of}
use Rattle.history.specs.Views.{View, Views, view, view_of, reply, no_such, lose_reply, view_after, changed, added, taken}

abbrev LiesInside : ℕ → View → Type 0
LiesInside w x = (j f : ℕ) → x.lost j f ≡ true → (j < stripe_count x.code w x.len) × (f < fragment_count x.code)

abbrev AllInside : ℕ → Views → Type 0
AllInside w v = (n : List ℕ) (x : View) → v.names n ≡ Some x → LiesInside w x

same_view : (x y : View) → Some x ≡ Some y → x ≡ y
same_view x y e = cc

none_is_some : (x : View) → None ≡ Some x → ⊥
none_is_some x e = cc

-- a name's view after a change at another name, or at this one
at_change : (w : ℕ) (b : Bool) (y : View) (found : Option View) (x : View) → LiesInside w y → (found ≡ Some x → LiesInside w x) → cond b (Some y) found ≡ Some x → LiesInside w x
at_change w true y found x new old e = subst (LiesInside w) (same_view y x e) new
at_change w false y found x new old e = old e

at_removal : (w : ℕ) (b : Bool) (found : Option View) (x : View) → (found ≡ Some x → LiesInside w x) → cond b None found ≡ Some x → LiesInside w x
at_removal w true found x old e = absurd (none_is_some x e)
at_removal w false found x old e = old e

same_stripe : (a b j f : ℕ) → eq_by_cmp pair_cmp (a, b) (j, f) ≡ true → a ≡ j
same_stripe a b j f e = grind (arith, common_steps)

same_fragment : (a b j f : ℕ) → eq_by_cmp pair_cmp (a, b) (j, f) ≡ true → b ≡ f
same_fragment a b j f e = grind (arith, common_steps)

added_inside : (w j f : ℕ) (z : View) → no_such w z j f ≡ false → LiesInside w z → LiesInside w (added j f z)
added_inside w j f z there old a b h =
    elim (or_cases (eq_by_cmp pair_cmp (a, b) (j, f)) (z.lost a b) h) [
      | inl new ↦
          let parts = or_parts (nat_le (stripe_count z.code w z.len) j) _ there in (
            subst (λ x. x < stripe_count z.code w z.len) (sym (same_stripe a b j f new)) (below_of _ j parts.0),
            subst (λ x. x < fragment_count z.code) (sym (same_fragment a b j f new)) (below_of _ f parts.1),
          )
      | inr before ↦ old a b before
    ]

taken_inside : (w j f : ℕ) (z : View) → LiesInside w z → LiesInside w (taken j f z)
taken_inside w j f z old a b h = old a b (and_parts (not (eq_by_cmp pair_cmp (a, b) (j, f))) (z.lost a b) h).1

abbrev is_lost_note : Note → Bool
is_lost_note (note.Lost y) = true
is_lost_note m = false

lost_is_not : (y : ℕ) → note.Lost y ≡ note.NoFragment → ⊥
lost_is_not y e = (let ends : ◌≡◌ {A = Bool} true false = ap is_lost_note e in false≢true (sym ends))

not_refused : (b : Bool) (rest : Note) (y : ℕ) → note.Lost y ≡ cond b note.NoFragment rest → b ≡ false
not_refused true rest y e = absurd (lost_is_not y e)
not_refused false rest y e = refl

-- only a fragment of the blob is noted as lost
lost_there : (w j f y : ℕ) (z : View) → note.Lost y ≡ lose_reply w (Some z) j f → no_such w z j f ≡ false
lost_there w j f y z e = not_refused (no_such w z j f) (cond (z.lost j f) note.AlreadyLost (note.Lost z.version)) y e

changed_inside : (w : ℕ) (v : Views) (n : List ℕ) (found : Option View) (change : View → View) → v.names n ≡ found → ((z : View) → found ≡ Some z → LiesInside w z → LiesInside w (change z))
    → AllInside w v → AllInside w (changed v n found change)
changed_inside w v n None change is keeps all = all
changed_inside w v n (Some z) change is keeps all =
    λ q x. at_change w (eq_by_cmp name_cmp q n) (change z) (v.names q) x (keeps z refl (all n z is)) (all q x)

step_inside : (w : ℕ) (v : Views) (o : Operation) (m : Note) → m ≡ reply w v o → AllInside w v → AllInside w (view_after v o m)
step_inside w v (put n code b) m e all = λ q x. at_change w (eq_by_cmp name_cmp q n) _ (v.names q) x (λ j f h. absurd (false≢true h)) (all q x)
step_inside w v (read n start len) m e all = all
step_inside w v (lose n j f) (note.Lost y) e all =
    changed_inside w v n (v.names n) (added j f) refl
    (λ z is old. added_inside w j f z (lost_there w j f y z (e ∙ ap (λ found. lose_reply w found j f) is)) old) all
step_inside w v (lose n j f) m e all = all
step_inside w v (repair n j f) (note.Repaired y) e all = changed_inside w v n (v.names n) (taken j f) refl (λ z is old. taken_inside w j f z old) all
step_inside w v (repair n j f) m e all = all
step_inside w v (restore n x j f) (note.Repaired y) e all = changed_inside w v n (v.names n) (taken j f) refl (λ z is old. taken_inside w j f z old) all
step_inside w v (restore n x j f) m e all = all
step_inside w v (delete n) (note.Deleted y) e all = λ q x. at_removal w (eq_by_cmp name_cmp q n) (v.names q) x (all q x)
step_inside w v (delete n) m e all = all
step_inside w v (stat n) m e all = all

all_inside : (w : ℕ) (s : State) (h : History) → AllInside w (view s) → IsLegalFrom w s h → AllInside w (view (after_all s h))
all_inside w s [] all legal = all
all_inside w s (e ∷ es) all legal =
    all_inside w (after s e.operation e.note) es
    (subst (AllInside w) (sym (view_is s e.operation e.note)) (step_inside w (view s) e.operation e.note ((reply_is w s e.operation e.note).0 legal.0).1 all)) legal.1

pub lost_inside : (w : ℕ) (h : History) → IsLegal w h → (n : List ℕ) (blob : Blob) → finite.get (state_of h).names n ≡ Some blob → IsLostInside w blob
lost_inside w h legal n blob is =
    all_inside w empty_state h (subst (AllInside w) (sym empty_view) (λ q x e. absurd (none_is_some x e))) legal n (view_of blob) (ap (option_map view_of) is)
