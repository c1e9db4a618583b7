-- What holds of the elements of a list, one after the other.
use Rattle.std.specs.Prelude.{List, [], ◌∷◌}

-- P of each element
abbrev pub Each : {X : Type 0} → (X → Type 0) → List X → Type 0
Each P [] = Unit {0}
Each P (x ∷ xs) = P x × Each P xs

-- R of each element and each later one
abbrev pub Pairs : {X : Type 0} → (X → X → Type 0) → List X → Type 0
Pairs R [] = Unit {0}
Pairs R (x ∷ xs) = Each (R x) xs × Pairs R xs
