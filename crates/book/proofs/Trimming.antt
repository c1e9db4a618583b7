-- A book represents the same history after it discards the oldest entries of its journal.
use Rattle.std.proofs.Common.{◌≡◌, ℕ, ◌+◌, ◌≤◌, List, [], ◌∷◌, ◌++◌, map, take, drop, length, sym, ap, ◌∙◌, subst, arith, length-drop}
use Rattle.std.proofs.Math.Seq.{take-add}
use Rattle.std.proofs.lemmas.List.{take-map, drop-map, drop-drop, take-append-drop, length-map}
use Rattle.std.specs.FinMap as finite
use Rattle.history.specs.State.{State, empty_state}
use Rattle.history.specs.Step.{after}
use Rattle.history.specs.History.{History, after_all, IsLegalFrom, IsLegal, state_of, entry_of}
use Rattle.history.specs.Base.{Outlines}
use Rattle.history.proofs.Beginnings.{after_all-append, legal_rest}
use Rattle.book.specs.Contents.{Contents}
use Rattle.book.specs.Losing.{Catalogue, value_at}
use Rattle.book.specs.Holds.{HoldsHistory, Correspond}
use Rattle.book.specs.Truth.{AreTrue}

legal_first : (w : ℕ) (s : State) (one two : History) → IsLegalFrom w s (one ++ two) → IsLegalFrom w s one
legal_first w s [] two legal = tt
legal_first w s (e ∷ one) two legal = (legal.0, legal_first w (after s e.operation e.note) one two legal.1)

module _ (old : Contents) (n : ℕ) (h : History) (told : HoldsHistory old h) where
  given_legal : IsLegalFrom old.width (state_of (take old.base.trimmed h)) (take n (drop old.base.trimmed h))
  given_legal =
      let t = old.base.trimmed in
      let rest : IsLegalFrom old.width (state_of (take t h)) (drop t h) =
      legal_rest old.width empty_state (take t h) (drop t h) (subst (IsLegal old.width) (sym (take-append-drop t h)) told.legal) in
      legal_first old.width (state_of (take t h)) (take n (drop t h)) (drop n (drop t h)) (subst (IsLegalFrom old.width (state_of (take t h))) (sym (take-append-drop n (drop t h))) rest)

  given_entries : map entry_of (take n (drop old.base.trimmed h)) ≡ take n old.entries
  given_entries = sym (take-map entry_of n (drop old.base.trimmed h)) ∙ ap (take n) (sym told.entries)

  state_then : after_all (state_of (take old.base.trimmed h)) (take n (drop old.base.trimmed h)) ≡ state_of (take (old.base.trimmed + n) h)
  state_then =
      sym (ap state_of (take-add old.base.trimmed n h) ∙ after_all-append empty_state (take old.base.trimmed h) (take n (drop old.base.trimmed h)))

  long_enough : n ≤ length old.entries → old.base.trimmed + n ≤ length h
  long_enough few =
      let t = old.base.trimmed in
      omega (arith, few, ap length told.entries, length-map (drop t h) entry_of, length-drop t h, told.long)

-- the first n entries are discarded, and the base outlines what they make of each state that it
-- outlined
pub tells_trimmed : (old new : Contents) (n : ℕ) → n ≤ length old.entries
    → ((s : State) (g : History) → Outlines old.base s → IsLegalFrom old.width s g → map entry_of g ≡ take n old.entries → Outlines new.base (after_all s g))
    → new.base.trimmed ≡ old.base.trimmed + n → new.entries ≡ drop n old.entries → new.width ≡ old.width → new.catalogue ≡ old.catalogue → new.truth ≡ old.truth → (h : History) → HoldsHistory old h → HoldsHistory new h
tells_trimmed old new n few outlines trimmed entries same_width same_catalogue same_truth h told =
    let t = old.base.trimmed in
    let K : ℕ → Catalogue → Type 0 = λ w c. (m : List ℕ) → Correspond w (value_at c m) (finite.get (state_of h).names m) in
    let based : Outlines new.base (state_of (take (t + n) h)) =
    subst (Outlines new.base) (state_then old n h told) (outlines (state_of (take t h)) (take n (drop t h)) told.base (given_legal old n h told) (given_entries old n h told)) in
    record {
      legal = subst (λ w. IsLegal w h) (sym same_width) told.legal;
      long = subst (λ k. k ≤ length h) (sym trimmed) (long_enough old n h told few);
      base = subst (λ k. Outlines new.base (state_of (take k h))) (sym trimmed) based;
      entries = subst (λ k. new.entries ≡ map entry_of (drop k h)) (sym trimmed)
          (entries ∙ ap (drop n) told.entries ∙ drop-map entry_of n (drop t h) ∙ ap (map entry_of) (drop-drop n t h));
      catalogue = subst (λ w. K w new.catalogue) (sym same_width) (subst (K old.width) (sym same_catalogue) told.catalogue);
      truth = subst (λ t. AreTrue t (state_of h)) (sym same_truth) told.truth;
    }
