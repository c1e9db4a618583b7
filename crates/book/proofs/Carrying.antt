-- A history with one call more.
use Rattle.std.proofs.Common.{◌≡◌, ℕ, ◌+◌, ◌≤◌, List, [], ◌∷◌, ◌++◌, map, take, drop, length, false, Option, None, sym, ap, ◌∙◌, subst, arith, length-append}
use Rattle.std.proofs.lemmas.List.{map-append, take-append-le, drop-append-le, take-append-drop}
use Rattle.std.specs.FinMap as finite
use Rattle.std.specs.Map.{lookup}
use Rattle.std.specs.BTreeMap.{is_at}
use Rattle.sealed.specs.declared.value.Sealed.{Sealed}
use Rattle.history.specs.Names.{name_cmp}
use Rattle.history.specs.State.{State, Blob, empty_state}
use Rattle.history.specs.Step.{IsReply, after}
use Rattle.history.specs.History.{Event, History, after_all, IsLegalFrom, IsLegal, state_of, entry_of, call_of, is_put_call}
use Rattle.history.specs.Base.{Outlines, empty_base}
use Rattle.book.specs.Contents.{Contents, sealed_at}
use Rattle.book.specs.Holds.{HoldsHistory, Correspond}
use Rattle.book.specs.Truth.{AreTrue}
use Rattle.book.proofs.Truths.{empty_true, stays_true}
use Rattle.history.specs.Lawful.{IsLawfulFrom}
use Rattle.history.proofs.Beginnings.{after_all-append, legal_rest, empty_outlined}

legal_push : (w : ℕ) (s : State) (h : History) (e : Event) → IsLegalFrom w s h → IsReply w (after_all s h) e.operation e.note → IsLegalFrom w s (h ++ e ∷ [])
legal_push w s [] e legal reply = (reply, tt)
legal_push w s (x ∷ h) e legal reply = (legal.0, legal_push w (after s x.operation x.note) h e legal.1 reply)

-- what a new book owes to go on with a call
pub carried : (old new : Contents) (h : History) (e : Event) → HoldsHistory old h → IsReply old.width (state_of h) e.operation e.note
    → new.width ≡ old.width → new.base ≡ old.base → new.entries ≡ old.entries ++ entry_of e ∷ []
    → ((n : List ℕ) → Correspond old.width (sealed_at new n) (finite.get (after (state_of h) e.operation e.note).names n))
    → AreTrue new.truth (after (state_of h) e.operation e.note)
    → HoldsHistory new (h ++ e ∷ [])
carried old new h e told reply same_width same_base entries kept true_after =
    let t = old.base.trimmed in
    let P : ℕ → Type 0 = λ w. IsLegal w (h ++ e ∷ []) in
    let Q : ℕ → Type 0 = λ w. (n : List ℕ) → Correspond w (sealed_at new n) (finite.get (state_of (h ++ e ∷ [])).names n) in
    let R : State → Type 0 = λ s. (n : List ℕ) → Correspond old.width (sealed_at new n) (finite.get s.names n) in
    let long : t ≤ length h = told.long in
    let longer : length (h ++ e ∷ []) ≡ length h + 1 = length-append h (e ∷ []) in
    record {
      legal = subst P (sym same_width) (legal_push old.width empty_state h e told.legal reply);
      long = subst (λ b. b.trimmed ≤ length (h ++ e ∷ [])) (sym same_base) (omega (arith, long, longer));
      base = subst (λ b. Outlines b (state_of (take b.trimmed (h ++ e ∷ [])))) (sym same_base)
          (subst (λ (x : History). Outlines old.base (state_of x)) (sym (take-append-le t h (e ∷ []) long)) told.base);
      entries = subst (λ b. new.entries ≡ map entry_of (drop b.trimmed (h ++ e ∷ []))) (sym same_base)
          (entries ∙ ap (λ es. es ++ entry_of e ∷ []) told.entries ∙ sym (map-append entry_of (drop t h) (e ∷ []))
          ∙ ap (map entry_of) (sym (drop-append-le t h (e ∷ []) long)));
      catalogue = subst Q (sym same_width) (subst R (sym (after_all-append empty_state h (e ∷ []))) kept);
      truth = subst (AreTrue new.truth) (sym (after_all-append empty_state h (e ∷ []))) true_after;
    }

-- and with a call that is no put, its truth
pub kept_true : (old new : Contents) (h : History) (e : Event) → HoldsHistory old h → is_put_call (call_of e.operation) ≡ false → new.truth ≡ old.truth → AreTrue new.truth (after (state_of h) e.operation e.note)
kept_true old new h e told no_put same = subst (λ t. AreTrue t (after (state_of h) e.operation e.note)) (sym same) (stays_true old.truth (state_of h) told.truth e.operation e.note no_put)

-- an empty book represents the empty history
pub tells_none : (book : Contents) → book.base ≡ empty_base → book.entries ≡ [] → book.catalogue ≡ [] → HoldsHistory book []
tells_none book base entries catalogue =
    record {
      legal = tt;
      long = subst (λ b. b.trimmed ≤ 0) (sym base) (omega arith);
      base = subst (λ b. Outlines b (state_of (take b.trimmed []))) (sym base) empty_outlined;
      entries = subst (λ b. book.entries ≡ map entry_of (drop b.trimmed [])) (sym base) entries;
      catalogue = λ n.
          let K : Option Sealed → Type 0 = λ found. Correspond book.width found (finite.get empty_state.names n) in
          let none : Correspond book.width None (finite.get empty_state.names n) = subst (λ (b : Option Blob). Correspond book.width None b) (sym (finite.get-empty name_cmp n)) tt in
          subst K (sym (ap (λ (c : List (List ℕ × Sealed)). lookup (is_at (name_cmp n)) c) catalogue)) none;
      truth = empty_true book.truth;
    }

-- the entries of a book that represents a history are lawful from its base
pub told_is_lawful : (book : Contents) (h : History) → HoldsHistory book h → IsLawfulFrom book.base book.width book.entries
told_is_lawful book h told =
    record {
      state = state_of (take book.base.trimmed h);
      outlined = told.base;
      events = drop book.base.trimmed h;
      legal = legal_rest book.width empty_state (take book.base.trimmed h) (drop book.base.trimmed h) (subst (IsLegal book.width) (sym (take-append-drop book.base.trimmed h)) told.legal);
      entries_are = sym told.entries;
    }
