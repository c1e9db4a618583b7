-- The replies that a book's catalogue determines are those of each history that the book
-- represents.
use Rattle.std.proofs.Common.{◌≡◌, ℕ, Bool, true, false, List, [], ◌∷◌, ◌++◌, Option, None, Some, cond, refl, sym, ap, ◌∙◌, subst}
use Rattle.std.specs.Option.{option_map}
use Rattle.std.specs.FinMap as finite
use Rattle.std.specs.Map.{lookup}
use Rattle.std.specs.BTreeMap.{is_at}
use Rattle.std.specs.Cmp.{Equal-is}
use Rattle.std.specs.Cmp.Lexicographic.{nat_list_cmp_total}
use Rattle.std.specs.Ordering.{eq_by_cmp}
use Rattle.std.proofs.lemmas.Cmp.{eq_by_cmp_equiv}
use Rattle.sealed.specs.declared.value.Sealed.{Sealed}
use Rattle.history.specs.declared.note.Note.{Note}
use Rattle.history.specs.declared.note.Note.TheVariants as note
use Rattle.history.specs.declared.note.Call.TheVariants.{Delete, Stat}
use Rattle.book.specs.declared.answer.Answer.{Answer}
use Rattle.book.specs.Lacking.{reply_for}
use Rattle.history.specs.Names.{name_cmp}
use Rattle.book.specs.Notes.{note_of}
use Rattle.history.specs.State.{State, Blob, IsLostInside}
use Rattle.history.specs.Step.{Operation, delete, stat, IsReply, after}
use Rattle.history.specs.History.{History, state_of, call_of, is_put_call}
use Rattle.book.specs.Contents.{Contents, sealed_at}
use Rattle.book.specs.Holds.{HoldsHistory, Correspond, CarriesOn}
use Rattle.history.specs.Views.{View, view_of, delete_reply, stat_reply}
use Rattle.book.proofs.Carrying.{carried, kept_true}
use Rattle.history.proofs.Inside.{lost_inside}
use Rattle.book.proofs.Lacking.{view_alike}
use Rattle.history.proofs.Replies.{reply_is}

-- ---- the reply
reply_at : (w : ℕ) (found : Option Sealed) (had : Option Blob) (reply : ℕ → Option View → Note) (m : Note) → ((v : ℕ) → reply v None ≡ note.NoName)
    → Correspond w found had → ((blob : Blob) → had ≡ Some blob → IsLostInside w blob) → m ≡ reply_for reply found → m ≡ reply w (option_map view_of had)
reply_at w None None reply m none same inside is = is ∙ sym (none w)
reply_at w (Some s) (Some blob) reply m none same inside is = is ∙ (λ i. reply (same.width i) (Some (sym (view_alike w s blob same (inside blob refl)) i)))
reply_at w None (Some blob) reply m none same inside is = absurd same
reply_at w (Some s) None reply m none same inside is = absurd same

pub replied : (book : Contents) (h : History) (n : List ℕ) (reply : ℕ → Option View → Note) (m : Note) → ((v : ℕ) → reply v None ≡ note.NoName)
    → HoldsHistory book h → m ≡ reply_for reply (sealed_at book n) → m ≡ reply book.width (option_map view_of (finite.get (state_of h).names n))
replied book h n reply m none told is =
    reply_at book.width (sealed_at book n) (finite.get (state_of h).names n) reply m none (told.catalogue n) (λ blob here. lost_inside book.width h told.legal n blob here) is

-- ---- calls that leave the state as it is
pub carries_unchanged : (old new : Contents) (who : ℕ) (o : Operation) (answer : Answer) → ((h : History) → HoldsHistory old h → IsReply old.width (state_of h) o (note_of answer))
    → ((s : State) → after s o (note_of answer) ≡ s) → is_put_call (call_of o) ≡ false → new.width ≡ old.width → new.base ≡ old.base → new.catalogue ≡ old.catalogue → new.truth ≡ old.truth
    → new.entries ≡ old.entries ++ record { who = who; call = call_of o; note = note_of answer } ∷ []
    → CarriesOn old new who o answer
carries_unchanged old new who o answer reply same no_put same_width same_base same_catalogue same_truth entries h told =
    let K : List (List ℕ × Sealed) → State → Type 0 = λ c s. (n : List ℕ) → Correspond old.width (lookup (is_at (name_cmp n)) c) (finite.get s.names n) in
    carried old new h (record { who = who; operation = o; note = note_of answer }) told (reply h told) same_width same_base entries
    (subst (λ s. K new.catalogue s) (sym (same (state_of h))) (subst (λ c. K c (state_of h)) (sym same_catalogue) told.catalogue))
    (kept_true old new h (record { who = who; operation = o; note = note_of answer }) told no_put same_truth)

pub carries_stat : (old new : Contents) (who : ℕ) (n : List ℕ) (answer : Answer) → note_of answer ≡ reply_for stat_reply (sealed_at old n)
    → new.width ≡ old.width → new.base ≡ old.base → new.catalogue ≡ old.catalogue → new.truth ≡ old.truth
    → new.entries ≡ old.entries ++ record { who = who; call = Stat n; note = note_of answer } ∷ []
    → CarriesOn old new who (stat n) answer
carries_stat old new who n answer right =
    carries_unchanged old new who (stat n) answer
    (λ h told. (reply_is old.width (state_of h) (stat n) (note_of answer)).1 (tt, replied old h n stat_reply (note_of answer) (λ v. refl) told right))
    (λ s. refl)
    refl

-- ---- a deletion
-- the blob of each name after the catalogue has lost the name n
module _ (w : ℕ) (s : State) (n : List ℕ) where
  out_of_both : (b : Bool) (found : Option Sealed) (had : Option Blob) → Correspond w found had → Correspond w (cond b None found) (cond b None had)
  out_of_both true found had same = tt
  out_of_both false found had same = same

  out_of_catalogue : (b : Bool) (found : Option Sealed) (had : Option Blob) → (b ≡ true → had ≡ None) → Correspond w found had → Correspond w (cond b None found) had
  out_of_catalogue true found had none same = subst (Correspond w None) (sym (none refl)) tt
  out_of_catalogue false found had none same = same

  symmetric : (q : List ℕ) → eq_by_cmp name_cmp q n ≡ is_at (name_cmp n) q
  symmetric q = (eq_by_cmp_equiv nat_list_cmp_total).symm q n

  no_such_name : (q : List ℕ) → finite.get s.names n ≡ None → is_at (name_cmp n) q ≡ true → finite.get s.names q ≡ None
  no_such_name q none tied = finite.get_tied nat_list_cmp_total s.names n q ((Equal-is (name_cmp n q)).0 tied) ∙ none

  without_name : (found : Option Sealed) (had : Option Blob) (m : Note) → finite.get s.names n ≡ had → Correspond w found had → m ≡ reply_for delete_reply found
      → (q : List ℕ) (x : Option Sealed) → Correspond w x (finite.get s.names q) → Correspond w (cond (is_at (name_cmp n) q) None x) (finite.get (after s (delete n) m).names q)
  without_name None None m here both is q x same =
      subst (λ k. Correspond w (cond (is_at (name_cmp n) q) None x) (finite.get (after s (delete n) k).names q)) (sym is)
      (out_of_catalogue (is_at (name_cmp n) q) x (finite.get s.names q) (no_such_name q here) same)
  without_name (Some v) (Some blob) m here both is q x same =
      let gone : finite.get (finite.remove s.names n) q ≡ cond (is_at (name_cmp n) q) None (finite.get s.names q) =
      finite.get-remove nat_list_cmp_total s.names n q ∙ ap (λ b. cond b None (finite.get s.names q)) (symmetric q) in
      subst (λ k. Correspond w (cond (is_at (name_cmp n) q) None x) (finite.get (after s (delete n) k).names q)) (sym is)
      (subst (Correspond w (cond (is_at (name_cmp n) q) None x)) (sym gone) (out_of_both (is_at (name_cmp n) q) x (finite.get s.names q) same))
  without_name None (Some blob) m here both is q x same = absurd both
  without_name (Some v) None m here both is q x same = absurd both

pub carries_delete : (old new : Contents) (who : ℕ) (n : List ℕ) (answer : Answer) → note_of answer ≡ reply_for delete_reply (sealed_at old n)
    → new.width ≡ old.width → new.base ≡ old.base → ((q : List ℕ) → sealed_at new q ≡ cond (is_at (name_cmp n) q) None (sealed_at old q)) → new.truth ≡ old.truth
    → new.entries ≡ old.entries ++ record { who = who; call = Delete n; note = note_of answer } ∷ []
    → CarriesOn old new who (delete n) answer
carries_delete old new who n answer right same_width same_base looks same_truth entries h told =
    let s = state_of h in
    let reply : IsReply old.width s (delete n) (note_of answer) = (reply_is old.width s (delete n) (note_of answer)).1 (tt, replied old h n delete_reply (note_of answer) (λ v. refl) told right) in
    carried old new h (record { who = who; operation = delete n; note = note_of answer }) told reply same_width same_base entries
    (λ q. subst (λ x. Correspond old.width x (finite.get (after s (delete n) (note_of answer)).names q)) (sym (looks q))
    (without_name old.width s n (sealed_at old n) (finite.get s.names n) (note_of answer) refl (told.catalogue n) right q (sealed_at old q) (told.catalogue q)))
    (kept_true old new h (record { who = who; operation = delete n; note = note_of answer }) told refl same_truth)
