-- Fragments that are marked, one after the other.
use Rattle.std.proofs.Common.{◌≡◌, ◌<◌, ◌⊎◌, ℕ, Bool, true, false, List, length, sym, ◌∙◌, subst, inl, inr}
use Rattle.std.specs.Prelude.{slice_set}
use Rattle.std.proofs.lemmas.Bool.{cases_eq}
use Rattle.std.proofs.lemmas.List.{get_or-set_same, get_or-set_other}
use Rattle.fragment_files.specs.Needed.{is_marked}

pub marks_it : (marks : List Bool) (j : ℕ) → j < length marks → is_marked (slice_set marks j true) j ≡ true
marks_it marks j inside = get_or-set_same marks j true false inside

pub keeps_marks : (marks : List Bool) (i j : ℕ) → j < length marks → is_marked marks i ≡ true → is_marked (slice_set marks j true) i ≡ true
keeps_marks marks i j inside marked =
    elim (cases_eq i j) [
      | inl same ↦ subst (λ n. is_marked (slice_set marks j true) n ≡ true) (sym same) (marks_it marks j inside)
      | inr other ↦ get_or-set_other marks j i true false other ∙ marked
    ]

pub marks_no_other : (marks : List Bool) (i j : ℕ) → is_marked (slice_set marks j true) i ≡ true → (is_marked marks i ≡ true) ⊎ (j ≡ i)
marks_no_other marks i j marked =
    elim (cases_eq i j) [
      | inl same ↦ inr (sym same)
      | inr other ↦ inl (sym (get_or-set_other marks j i true false other) ∙ marked)
    ]
