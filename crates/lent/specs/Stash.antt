-- Fragments that a walk decoded before their turn.
use Rattle.std.specs.Prelude.{◌≡◌, ℕ, ◌<◌, List, None, IfSome, length, slice_index_or}
use Rattle.sealed.specs.declared.value.Sealed.{Sealed}
use Rattle.sealed.specs.Rebuilding.{IsPartOf}
use Rattle.lent.specs.declared.stash.Stash.{Stash}

-- the bytes are all of the fragment f of stripe j, in each blob that the value represents
abbrev pub IsWholeFragment : Sealed → ℕ → ℕ → List ℕ → Type 0
IsWholeFragment s j f bytes = (length bytes ≡ s.width) × IsPartOf s j f 0 s.width bytes

-- whatever bytes the stash has for a fragment are all of that fragment of the value
abbrev pub IsStashOf : Sealed → Stash → Type 0
IsStashOf s stash = (i : ℕ) → i < 4 → IfSome (slice_index_or stash.chosen i None)
    (λ f. IfSome (slice_index_or stash.parts i None)
    (λ bytes. IsWholeFragment s stash.stripe f bytes.items))
