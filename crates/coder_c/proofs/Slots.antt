-- Slots written one after the other.
use Rattle.std.proofs.Common.{◌≡◌, ℕ, ap₂, sym}
use Rattle.lrc_code.specs.declared.recipes.Term.{Term}

abbrev pub no_term : Term
no_term = record { fragment = 0; coefficient = 0 }

pub same_term : (term : Term) (fragment coefficient : ℕ) → fragment ≡ term.fragment → coefficient ≡ term.coefficient → term ≡ record { fragment = fragment; coefficient = coefficient }
same_term term fragment coefficient f c = ap₂ (λ (x y : ℕ). record { fragment = x; coefficient = y }) (sym f) (sym c)
