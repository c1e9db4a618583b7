-- The fragments that a walk keeps until their turn.
use Rattle.std.proofs.Common.{◌≡◌, ℕ, ◌<◌, List, Option, None, Some, IfSome, length, get_or, sym, subst, inl, inr, arith}
use Rattle.std.specs.Prelude.{slice_set}
use Rattle.std.specs.Option.{option_map}
use Rattle.std.proofs.lemmas.Bool.{cases_eq, cases_lt}
use Rattle.std.proofs.lemmas.List.{length-set, get_or_past, get_or-set_same, get_or-set_other}
use Rattle.sealed.specs.declared.value.Sealed.{Sealed}
use Rattle.sealed.specs.Rebuilding.{IsPartOf, IsChosenPart}
use Rattle.lent.specs.Stash.{IsWholeFragment}

emptied : {A : Type 0} (parts : List (Option A)) (k : ℕ) → get_or (slice_set parts k None) k None ≡ None
emptied parts k =
    elim (cases_lt k (length parts)) [
      | inl inside ↦ get_or-set_same parts k None None inside
      | inr past ↦ get_or_past (slice_set parts k None) k None (omega (arith, length-set parts k None))
    ]

-- a fact of each part, of which one was taken out
pub without_part : {A : Type 0} (P : ℕ → Option A → Type 0) (parts : List (Option A)) (k : ℕ) → ((i : ℕ) → P i None) → ((i : ℕ) → i < 4 → P i (get_or parts i None))
    → (i : ℕ) → i < 4 → P i (get_or (slice_set parts k None) i None)
without_part P parts k none all i l =
    elim (cases_eq i k) [
      | inl same ↦ subst (λ n. P i (get_or (slice_set parts k None) n None)) (sym same) (subst (P i) (sym (emptied parts k)) (none i))
      | inr other ↦ subst (P i) (sym (get_or-set_other parts k i None None other)) (all i l)
    ]

-- nothing is asked of a place without bytes
pub nothing_there : {A : Type 0} (chosen : Option ℕ) (P : ℕ → A → Type 0) → IfSome chosen (λ f. IfSome None (P f))
nothing_there None P = tt
nothing_there (Some f) P = tt

-- a whole fragment that was decoded
pub whole_part : {V : Type 0} (items : V → List ℕ) (s : Sealed) (j w : ℕ) (chosen : Option ℕ) (part : Option V) → w ≡ s.width → IsChosenPart s j 0 w chosen (option_map items part)
    → IfSome chosen (λ f. IfSome part (λ v. IsWholeFragment s j f (items v)))
whole_part items s j w None part wide is = tt
whole_part items s j w (Some f) None wide is = absurd is
whole_part items s j w (Some f) (Some v) wide is = (let long = is.0 in omega arith, subst (λ to. IsPartOf s j f 0 to (items v)) wide is.1)

-- where a fragment is chosen, its bytes are there
pub is_there : {V : Type 0} (items : V → List ℕ) (s : Sealed) (j w f : ℕ) (part : Option V) → IsChosenPart s j 0 w (Some f) (option_map items part) → part ≡ None → ⊥
is_there items s j w f None is none = is
is_there items s j w f (Some v) is none = let clash : Some v ≡ None = none in absurd cc

-- and are those of the fragment
pub at_chosen : {V : Type 0} (P : ℕ → V → Type 0) (chosen : Option ℕ) (part : Option V) (f : ℕ) → chosen ≡ Some f → IfSome chosen (λ g. IfSome part (P g)) → IfSome part (P f)
at_chosen P chosen part f is known = subst (λ (o : Option ℕ). IfSome o (λ g. IfSome part (P g))) is known

-- a part that is a whole fragment
pub part_of_whole : (s : Sealed) (j f from to : ℕ) (bytes : List ℕ) → from ≡ 0 → to ≡ s.width → IsWholeFragment s j f bytes → IsPartOf s j f from to bytes
part_of_whole s j f from to bytes begins ends is = subst (λ n. IsPartOf s j f n to bytes) (sym begins) (subst (λ n. IsPartOf s j f 0 n bytes) (sym ends) is.1)
