-- A loss or a repair carries histories on.
use Rattle.std.proofs.Common.{◌≡◌, ℕ, Bool, true, false, List, [], ◌∷◌, ◌++◌, Option, None, Some, cond, refl, sym, ap, ◌∙◌, subst}
use Rattle.std.specs.FinMap as finite
use Rattle.std.specs.FinSet as set
use Rattle.std.specs.BTreeMap.{is_at}
use Rattle.std.specs.Cmp.{Equal-is}
use Rattle.std.specs.Cmp.Lexicographic.{nat_list_cmp_total}
use Rattle.std.proofs.lemmas.Cmp.{eq_by_cmp_equiv}
use Rattle.sealed.specs.declared.value.Sealed.{Sealed}
use Rattle.sealed.specs.Blob.{Lost, fragment}
use Rattle.book.specs.Known.{IsGiven}
use Rattle.history.specs.declared.note.Note.{Note}
use Rattle.history.specs.declared.note.Note.TheVariants as note
use Rattle.history.specs.declared.note.Call.TheVariants.{Lose, Repair, Restore}
use Rattle.book.specs.declared.answer.Answer.{Answer}
use Rattle.book.specs.Lacking.{reply_for}
use Rattle.book.specs.Losing.{IsWith, Loses, Mends, Restores, Catalogue, value_at, Replaces}
use Rattle.history.specs.Names.{name_cmp}
use Rattle.book.specs.Notes.{note_of}
use Rattle.history.specs.State.{State, Blob}
use Rattle.history.specs.Step.{Operation, lose, repair, restore, IsReply, after, with_lost}
use Rattle.history.specs.History.{History, state_of, call_of, is_put_call}
use Rattle.book.specs.Contents.{Contents, sealed_at}
use Rattle.book.specs.Holds.{HoldsHistory, Represents, Correspond, CarriesOn}
use Rattle.history.specs.Views.{View, lose_reply, repair_reply, restore_reply}
use Rattle.book.proofs.Answering.{replied}
use Rattle.book.proofs.Carrying.{carried, kept_true}
use Rattle.book.specs.Truth.{AreTrue, bytes_in}
use Rattle.std.specs.Prelude.{IfSome}
use Rattle.history.proofs.Replies.{reply_is}
use Rattle.book.proofs.Storing.{corresponds}

-- ---- the value of a name is replaced by one with other lost fragments
with_represents : (w : ℕ) (change : Lost → Lost) (s t : Sealed) (blob : Blob) → Represents w s blob → IsWith change s t → Represents w t (record blob { lost = change blob.lost })
with_represents w change s t blob is new =
    record { version = new.version ∙ is.version; width = new.width ∙ is.width; code = new.code ∙ is.code; stands = new.stands blob.bytes blob.lost is.stands }

module _ (w : ℕ) (state : State) (n : List ℕ) (blob : Blob) (here : finite.get state.names n ≡ Some blob) where
  -- a later state has the same names, except that n has a blob that the value represents
  abbrev pub HasBlob : Sealed → State → Type 0
  HasBlob t later = (new : Blob) × Represents w t new × ((q : List ℕ) → finite.get later.names q ≡ cond (is_at (name_cmp n) q) (Some new) (finite.get state.names q))

  its_own : (q : List ℕ) (b : Bool) → is_at (name_cmp n) q ≡ b → finite.get state.names q ≡ cond b (Some blob) (finite.get state.names q)
  its_own q true tied = finite.get_tied nat_list_cmp_total state.names n q ((Equal-is (name_cmp n q)).0 tied) ∙ here
  its_own q false tied = refl

  as_before : (s t : Sealed) → Represents w s blob → t ≡ s → HasBlob t state
  as_before s t is same = let P : Sealed → Type 0 = λ v. Represents w v blob in (blob, subst P (sym same) is, λ q. its_own q (is_at (name_cmp n) q) refl)

  with_later : (change : Lost → Lost) (t : Sealed) → Represents w t (record blob { lost = change blob.lost }) → HasBlob t (with_lost state n (finite.get state.names n) change)
  with_later change t is =
      let later : Blob = record blob { lost = change blob.lost } in (
        later,
        is,
        λ q. ap (λ found. finite.get (with_lost state n found change).names q) here
            ∙ finite.get-insert nat_list_cmp_total state.names n later q
            ∙ ap (λ b. cond b (Some later) (finite.get state.names q)) ((eq_by_cmp_equiv nat_list_cmp_total).symm q n),
      )

  with_others : (change : Lost → Lost) (s t : Sealed) → Represents w s blob → IsWith change s t → HasBlob t (with_lost state n (finite.get state.names n) change)
  with_others change s t is new =
      let later : Blob = record blob { lost = change blob.lost } in (
        later,
        with_represents w change s t blob is new,
        λ q. ap (λ found. finite.get (with_lost state n found change).names q) here
            ∙ finite.get-insert nat_list_cmp_total state.names n later q
            ∙ ap (λ b. cond b (Some later) (finite.get state.names q)) ((eq_by_cmp_equiv nat_list_cmp_total).symm q n),
      )

  after_loss : (j f : ℕ) (m : Note) (s t : Sealed) → Represents w s blob → Loses j f m s t → HasBlob t (after state (lose n j f) m)
  after_loss j f (note.Lost v) s t is new = with_others (λ lost. set.insert lost (j, f)) s t is new
  after_loss j f m s t is new = as_before s t is new

  after_repair : (j f : ℕ) (m : Note) (s t : Sealed) → Represents w s blob → Mends j f m s t → HasBlob t (after state (repair n j f) m)
  after_repair j f (note.Repaired v) s t is new = with_others (λ lost. set.remove lost (j, f)) s t is new
  after_repair j f m s t is new = as_before s t is new

  after_restore : (v j f : ℕ) (x : List ℕ) (m : Note) (s t : Sealed) → Represents w s blob → (v ≡ s.version → x ≡ fragment s.code s.width blob.bytes j f) → Restores v j f x m s t → HasBlob t (after state (restore n v j f) m)
  after_restore v j f x (note.Repaired y) s t is own new =
      with_later (λ lost. set.remove lost (j, f)) t
      (record { version = new.1.version ∙ is.version; width = new.1.width ∙ is.width; code = new.1.code ∙ is.code; stands = new.1.stands blob.bytes blob.lost (own new.0) is.stands })
  after_restore v j f x m s t is own new = as_before s t is new

-- ---- the catalogue afterwards
-- an operation that leaves the state unchanged if the name has no blob, and otherwise gives the
-- name one that the new value represents
module _ (old new : Contents) (who : ℕ) (n : List ℕ) (o : Operation) (answer : Answer) (reply : ℕ → Option View → Note) (Becomes : Sealed → Sealed → Type 0)
    (replaced : Replaces reply Becomes old.catalogue new.catalogue n (note_of answer))
    (is_reply : (h : History) → HoldsHistory old h → IsReply old.width (state_of h) o (note_of answer))
    (none_after : (s : State) → finite.get s.names n ≡ None → note_of answer ≡ note.NoName → after s o (note_of answer) ≡ s)
    (some_after : (state : State) (blob : Blob) (here : finite.get state.names n ≡ Some blob) (s t : Sealed) → sealed_at old n ≡ Some s → Represents old.width s blob → blob.bytes ≡ bytes_in old.truth n → Becomes s t
    → HasBlob old.width state n blob here t (after state o (note_of answer))) where
  afterwards : (state : State) (found : Option Sealed) (had : Option Blob) → sealed_at old n ≡ found → finite.get state.names n ≡ had → Correspond old.width found had
      → ((q : List ℕ) → Correspond old.width (sealed_at old q) (finite.get state.names q)) → AreTrue old.truth state → (q : List ℕ) → Correspond old.width (sealed_at new q) (finite.get (after state o (note_of answer)).names q)
  afterwards state None None is here both each known q =
      let m : note_of answer ≡ note.NoName = replaced.note_is ∙ ap (reply_for reply) is in
      let K : Catalogue → State → Type 0 = λ c s. Correspond old.width (value_at c q) (finite.get s.names q) in
      subst (λ c. K c (after state o (note_of answer))) (sym (replaced.absent is)) (subst (λ s. K old.catalogue s) (sym (none_after state here m)) (each q))
  afterwards state (Some s) (Some blob) is here both each known q =
      let own : blob.bytes ≡ bytes_in old.truth n = subst (λ (x : Option Blob). IfSome x (λ b. b.bytes ≡ bytes_in old.truth n)) here (known n) in
      let put = replaced.present s is in
      let t = put.0 in
      let later = some_after state blob here s t is both own put.1 in
      let there : Bool = is_at (name_cmp n) q in
      subst (λ x. Correspond old.width x (finite.get (after state o (note_of answer)).names q)) (sym (put.2 q))
      (subst (Correspond old.width (cond there (Some t) (sealed_at old q))) (sym (later.2 q))
      (corresponds old.width there t later.0 (sealed_at old q) (finite.get state.names q) later.1 (each q)))
  afterwards state None (Some blob) is here both each known q = absurd both
  afterwards state (Some s) None is here both each known q = absurd both

  pub carries_replaced : is_put_call (call_of o) ≡ false → new.width ≡ old.width → new.base ≡ old.base → new.truth ≡ old.truth → new.entries ≡ old.entries ++ record { who = who; call = call_of o; note = note_of answer } ∷ [] → CarriesOn old new who o answer
  carries_replaced no_put same_width same_base same_truth entries h told =
      carried old new h (record { who = who; operation = o; note = note_of answer }) told (is_reply h told) same_width same_base entries
      (afterwards (state_of h) (sealed_at old n) (finite.get (state_of h).names n) refl refl (told.catalogue n) told.catalogue told.truth)
      (kept_true old new h (record { who = who; operation = o; note = note_of answer }) told no_put same_truth)

-- ---- the two calls
none_lost : (s : State) (n : List ℕ) (j f : ℕ) (m : Note) → m ≡ note.NoName → after s (lose n j f) m ≡ s
none_lost s n j f m is = ap (after s (lose n j f)) is

none_repaired : (s : State) (n : List ℕ) (j f : ℕ) (m : Note) → m ≡ note.NoName → after s (repair n j f) m ≡ s
none_repaired s n j f m is = ap (after s (repair n j f)) is

pub carries_lose : (old new : Contents) (who : ℕ) (n : List ℕ) (j f : ℕ) (answer : Answer)
    → Replaces (λ w x. lose_reply w x j f) (Loses j f (note_of answer)) old.catalogue new.catalogue n (note_of answer)
    → new.width ≡ old.width → new.base ≡ old.base → new.truth ≡ old.truth → new.entries ≡ old.entries ++ record { who = who; call = Lose n j f; note = note_of answer } ∷ []
    → CarriesOn old new who (lose n j f) answer
carries_lose old new who n j f answer replaced =
    carries_replaced old new who n (lose n j f) answer (λ w x. lose_reply w x j f) (Loses j f (note_of answer)) replaced
    (λ h told. (reply_is old.width (state_of h) (lose n j f) (note_of answer)).1 (tt, replied old h n (λ w x. lose_reply w x j f) (note_of answer) (λ v. refl) told replaced.note_is))
    (λ s here is. none_lost s n j f (note_of answer) is)
    (λ state blob here s t at is own new. after_loss old.width state n blob here j f (note_of answer) s t is new)
    refl

pub carries_repair : (old new : Contents) (who : ℕ) (n : List ℕ) (j f : ℕ) (answer : Answer)
    → Replaces (λ w x. repair_reply w x j f) (Mends j f (note_of answer)) old.catalogue new.catalogue n (note_of answer)
    → new.width ≡ old.width → new.base ≡ old.base → new.truth ≡ old.truth → new.entries ≡ old.entries ++ record { who = who; call = Repair n j f; note = note_of answer } ∷ []
    → CarriesOn old new who (repair n j f) answer
carries_repair old new who n j f answer replaced =
    carries_replaced old new who n (repair n j f) answer (λ w x. repair_reply w x j f) (Mends j f (note_of answer)) replaced
    (λ h told. (reply_is old.width (state_of h) (repair n j f) (note_of answer)).1 (tt, replied old h n (λ w x. repair_reply w x j f) (note_of answer) (λ v. refl) told replaced.note_is))
    (λ s here is. none_repaired s n j f (note_of answer) is)
    (λ state blob here s t at is own new. after_repair old.width state n blob here j f (note_of answer) s t is new)
    refl

none_restored : (s : State) (n : List ℕ) (v j f : ℕ) (m : Note) → m ≡ note.NoName → after s (restore n v j f) m ≡ s
none_restored s n v j f m is = ap (after s (restore n v j f)) is

given_at : (t : List ℕ) (v j f : ℕ) (x : List ℕ) (found : Option Sealed) (s : Sealed) → found ≡ Some s → IfSome found (IsGiven t v j f x) → IsGiven t v j f x s
given_at t v j f x found s at given = subst (λ (o : Option Sealed). IfSome o (IsGiven t v j f x)) at given

pub carries_restore : (old new : Contents) (who : ℕ) (n : List ℕ) (v j f : ℕ) (x : List ℕ) (answer : Answer) → IfSome (sealed_at old n) (IsGiven (bytes_in old.truth n) v j f x)
    → Replaces (λ w y. restore_reply w y v j f) (Restores v j f x (note_of answer)) old.catalogue new.catalogue n (note_of answer)
    → new.width ≡ old.width → new.base ≡ old.base → new.truth ≡ old.truth → new.entries ≡ old.entries ++ record { who = who; call = Restore n v j f; note = note_of answer } ∷ []
    → CarriesOn old new who (restore n v j f) answer
carries_restore old new who n v j f x answer given replaced =
    carries_replaced old new who n (restore n v j f) answer (λ w y. restore_reply w y v j f) (Restores v j f x (note_of answer)) replaced
    (λ h told. (reply_is old.width (state_of h) (restore n v j f) (note_of answer)).1 (tt, replied old h n (λ w y. restore_reply w y v j f) (note_of answer) (λ v. refl) told replaced.note_is))
    (λ s here is. none_restored s n v j f (note_of answer) is)
    (λ state blob here s t at is own new.
    after_restore old.width state n blob here v j f x (note_of answer) s t is
    (λ e. (given_at (bytes_in old.truth n) v j f x (sealed_at old n) s at given).own e ∙ ap (λ (b : List ℕ). fragment s.code s.width b j f) (sym own)) new)
    refl
