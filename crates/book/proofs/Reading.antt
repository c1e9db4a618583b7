-- A read's answer is the reply of the sequential specification.
use Rattle.std.proofs.Common.{◌≡◌, ℕ, ◌+◌, ◌≤◌, Bool, true, false, List, [], ◌∷◌, ◌++◌, Option, None, Some, length, refl, sym, ap, ◌∙◌, subst, inl, inr, arith, MatchBool}
use Rattle.std.proofs.lemmas.Grind.{common_steps}
use Rattle.std.specs.FinMap as finite
use Rattle.std.specs.Map.{lookup}
use Rattle.std.specs.BTreeMap.{is_at}
use Rattle.sealed.specs.declared.value.Sealed.{Sealed}
use Rattle.sealed.specs.Range.{is_outside, IsReadable}
use Rattle.book.specs.declared.answer.Answer.{Answer}
use Rattle.book.specs.declared.answer.Answer.TheVariants.{Stored, NoName, OutOfRange, Unrecoverable, Granted, Lost as LostAnswer, NoFragment, AlreadyLost, Repaired, NotLost, Replaced, Deleted, Shape}
use Rattle.history.specs.declared.note.Note.TheVariants as note
use Rattle.history.specs.declared.note.Call.TheVariants.{Read}
use Rattle.book.specs.Asked.{IsReadAnswer}
use Rattle.history.specs.Names.{name_cmp}
use Rattle.book.specs.Notes.{note_of}
use Rattle.history.specs.State.{Blob}
use Rattle.history.specs.Step.{read, IsReply, IsReadReply}
use Rattle.history.specs.History.{state_of}
use Rattle.book.specs.Contents.{Contents, sealed_at}
use Rattle.book.specs.Holds.{Represents, Correspond, CarriesOn}
use Rattle.book.proofs.Carrying.{carried, kept_true}
use Rattle.book.proofs.Same.{unreadable_alike}

choose_first : (b : Bool) (P Q : Type 0) → b ≡ true → P → MatchBool b P Q
choose_first b P Q e p = let M : Bool → Type 0 = λ b. MatchBool b P Q in subst M (sym e) p

choose_second : (b : Bool) (P Q : Type 0) → b ≡ false → Q → MatchBool b P Q
choose_second b P Q e q = let M : Bool → Type 0 = λ b. MatchBool b P Q in subst M (sym e) q

pub inside_from : (l start len : ℕ) → is_outside l start len ≡ false → start + len ≤ l
inside_from l start len e = grind (arith, common_steps)

pub outside_false : (l start len : ℕ) → start + len ≤ l → is_outside l start len ≡ false
outside_false l start len h = grind (arith, common_steps)

granted_readable : (s t : Sealed) (start start' len len' : ℕ) → s ≡ t → start ≡ start' → len ≡ len' → IsReadable s start len → IsReadable t start' len'
granted_readable s t start start' len len' e f g r =
    let P : Sealed → Type 0 = λ x. IsReadable x start len in
    let Q : ℕ → Type 0 = λ x. IsReadable t x len in
    let R : ℕ → Type 0 = λ x. IsReadable t start' x in
    subst R g (subst Q f (subst P e r))

module _ (w : ℕ) (s : Sealed) (blob : Blob) (is : Represents w s blob) where
  some : 1 ≤ w
  some = subst (λ (n : ℕ). 1 ≤ n) is.width s.shaped.wide

  len_is : s.len ≡ length blob.bytes
  len_is = is.stands.length_is

  pub read_reply : (start len : ℕ) (answer : Answer) → IsReadAnswer (Some s) start len answer → IsReadReply w (Some blob) start len (note_of answer)
  read_reply start len (Stored v) right = absurd right
  read_reply start len NoName right = absurd right
  read_reply start len OutOfRange right = choose_first _ _ _ (subst (λ (l : ℕ). is_outside l start len ≡ true) len_is right) refl
  read_reply start len (Unrecoverable v) right =
      let fits : start + len ≤ length blob.bytes = omega (arith, inside_from s.len start len right.0, len_is) in
      choose_second _ _ _ (subst (λ (l : ℕ). is_outside l start len ≡ false) len_is right.0)
      (inl ((unreadable_alike w some s blob is start len fits).0 right.1, ap note.Unrecoverable (right.2 ∙ is.version)))
  read_reply start len (Granted g) right =
      let lens : g.sealed.value.len ≡ s.len = ap (λ (t : Sealed). t.len) right.0 in
      let fits : start + len ≤ s.len = omega (arith, g.inside, right.1, right.2) in
      let readable : IsReadable s start len = granted_readable g.sealed.value s g.start start g.len len right.0 right.1 right.2 g.readable in
      choose_second _ _ _ (subst (λ (l : ℕ). is_outside l start len ≡ false) len_is (outside_false s.len start len fits))
      (inr (λ u. readable ((unreadable_alike w some s blob is start len (omega (arith, fits, len_is))).1 u), ap note.Granted (ap (λ (t : Sealed). t.version) right.0 ∙ is.version)))
  read_reply start len (LostAnswer v) right = absurd right
  read_reply start len NoFragment right = absurd right
  read_reply start len AlreadyLost right = absurd right
  read_reply start len (Repaired v) right = absurd right
  read_reply start len NotLost right = absurd right
  read_reply start len (Replaced v) right = absurd right
  read_reply start len (Deleted v) right = absurd right
  read_reply start len (Shape v n m l) right = absurd right

no_name_reply : (w start len : ℕ) (answer : Answer) → IsReadAnswer None start len answer → IsReadReply w None start len (note_of answer)
no_name_reply w start len NoName right = refl
no_name_reply w start len (Stored v) right = absurd right
no_name_reply w start len OutOfRange right = absurd right
no_name_reply w start len (Unrecoverable v) right = absurd right
no_name_reply w start len (Granted g) right = absurd right
no_name_reply w start len (LostAnswer v) right = absurd right
no_name_reply w start len NoFragment right = absurd right
no_name_reply w start len AlreadyLost right = absurd right
no_name_reply w start len (Repaired v) right = absurd right
no_name_reply w start len NotLost right = absurd right
no_name_reply w start len (Replaced v) right = absurd right
no_name_reply w start len (Deleted v) right = absurd right
no_name_reply w start len (Shape v n m l) right = absurd right

reply_of : (w : ℕ) (found : Option Sealed) (blob : Option Blob) (start len : ℕ) (answer : Answer) → Correspond w found blob → IsReadAnswer found start len answer → IsReadReply w blob start len (note_of answer)
reply_of w None None start len answer kept right = no_name_reply w start len answer right
reply_of w (Some s) (Some blob) start len answer kept right = read_reply w s blob kept start len answer right
reply_of w None (Some blob) start len answer kept right = absurd kept
reply_of w (Some s) None start len answer kept right = absurd kept

-- a book that answers a read rightly, and adds its entry and no more, goes on with it
pub carries_read : (old new : Contents) (who : ℕ) (n : List ℕ) (start len : ℕ) (answer : Answer) → IsReadAnswer (sealed_at old n) start len answer
    → new.width ≡ old.width → new.base ≡ old.base → new.catalogue ≡ old.catalogue → new.truth ≡ old.truth
    → new.entries ≡ old.entries ++ record { who = who; call = Read n start len; note = note_of answer } ∷ []
    → CarriesOn old new who (read n start len) answer
carries_read old new who n start len answer right same_width same_base same_catalogue same_truth entries h told =
    let reply : IsReply old.width (state_of h) (read n start len) (note_of answer) =
    reply_of old.width (sealed_at old n) (finite.get (state_of h).names n) start len answer (told.catalogue n) right in
    carried old new h (record { who = who; operation = read n start len; note = note_of answer }) told reply same_width same_base entries
    (λ q. subst (λ (c : List (List ℕ × Sealed)). Correspond old.width (lookup (is_at (name_cmp q)) c) (finite.get (state_of h).names q)) (sym same_catalogue) (told.catalogue q))
    (kept_true old new h (record { who = who; operation = read n start len; note = note_of answer }) told refl same_truth)
