-- The fragments of a sealed value that can be rebuilt, and their bytes.
use Rattle.std.specs.Prelude.{◌≡◌, ℕ, ◌-◌, true, List, Option, None, length, slice_range}
use Rattle.std.specs.Prelude.{IsSomeAnd, MatchOption}
use Rattle.lrc_code.specs.Code.{Open}
use Rattle.sealed.specs.declared.value.Sealed.{Sealed}
use Rattle.sealed.specs.Layout.{HasFragment}
use Rattle.sealed.specs.Blob.{Lost, fragment}
use Rattle.sealed.specs.Sealed.{StandsFor, absent_in}

-- the blob has the fragment f of stripe j, the value lacks it, and the remaining fragments
-- determine it
pub record IsRebuildable (s : Sealed) (j f : ℕ) : Type 0 where
  pub has : HasFragment s.code s.width s.len j f
  pub lost : absent_in s j f ≡ true
  pub closed : Open s.code (absent_in s j) f → ⊥

-- the bytes are those at from..to of the fragment f of stripe j, in each blob that the value
-- represents
abbrev pub IsPartOf : Sealed → ℕ → ℕ → ℕ → ℕ → List ℕ → Type 0
IsPartOf s j f from to bytes = (b : List ℕ) (lost : Lost) → StandsFor s b lost → bytes ≡ slice_range (fragment s.code s.width b j f) from to

-- the bytes are the fragment f of stripe j, in each blob that the value represents
abbrev pub IsFragmentOf : Sealed → ℕ → ℕ → List ℕ → Type 0
IsFragmentOf s j f bytes = (b : List ℕ) (lost : Lost) → StandsFor s b lost → bytes ≡ fragment s.code s.width b j f

-- nothing if no fragment is chosen, and else the bytes from..to of the chosen fragment of stripe j,
-- in each blob that the value represents
abbrev pub IsChosenPart : Sealed → ℕ → ℕ → ℕ → Option ℕ → Option (List ℕ) → Type 0
IsChosenPart s j from to chosen part = MatchOption chosen (part ≡ None)
    (λ f. IsSomeAnd part (λ bytes. (length bytes ≡ to - from) × IsPartOf s j f from to bytes))
