-- Fragments that a blob does not have.
use Rattle.std.proofs.Common.{◌≡◌, ℕ, ◌<◌, ◌≤◌, List, [], Option, None, Some, length, slice_index_or, inl, inr, refl, sym, ap, ◌∙◌, subst, arith}
use Rattle.std.proofs.lemmas.Bool.{cases_lt}
use Rattle.std.proofs.lemmas.List.{get_or_past}
use Rattle.sealed.specs.declared.value.Sealed.{Sealed}
use Rattle.sealed.specs.Layout.{HasFragment}
use Rattle.sealed.specs.Stripes.{fragment_at}

none_past : (s : Sealed) (j f : ℕ) → length s.stripes ≤ j → fragment_at s.stripes j f ≡ None
none_past s j f past = ap (λ (row : List (Option (List ℕ))). slice_index_or row f None) (get_or_past s.stripes j [] past) ∙ get_or_past [] f None (omega arith)

none_by : (s : Sealed) (j f : ℕ) (found : Option (List ℕ)) → fragment_at s.stripes j f ≡ found → (HasFragment s.code s.width s.len j f → ⊥) → found ≡ None
none_by s j f None is none = refl
none_by s j f (Some x) is none =
    elim (cases_lt j (length s.stripes)) [
      | inl below ↦ absurd (none (subst (λ n. j < n) s.shaped.count below, (s.shaped.sized j f x is).0))
      | inr past ↦ sym is ∙ none_past s j f past
    ]

-- a fragment that the blob does not have is not present
pub none_outside : (s : Sealed) (j f : ℕ) → (HasFragment s.code s.width s.len j f → ⊥) → fragment_at s.stripes j f ≡ None
none_outside s j f none = none_by s j f (fragment_at s.stripes j f) refl none
