-- How a list is made from the four syndromes and from lists that were made before it.
use Rattle.std.specs.Prelude.{◌≡◌, ℕ, ◌<◌, ◌⊎◌, bit_xor, List, Option, Some, None, IfSome, length}
use Rattle.std.specs.Prelude.{slice_index}
use Rattle.syndromes.specs.declared.formulas.Formula.{Formula}
use Rattle.syndromes.specs.declared.formulas.Formulas.{Formulas}

-- share e of a list that is added, or 0 where none is
abbrev pub share_of : Option (List ℕ) → ℕ → ℕ
share_of None e = 0
share_of (Some shares) e = slice_index shares e

-- the byte of a list that is added, or 0 where none is
abbrev pub addend : Option (List ℕ) → List ℕ → ℕ → ℕ
addend None bytes k = 0
addend (Some shares) bytes k = slice_index bytes k

-- the factors are the shares less those of the lists that are added
pub record IsFormula (f : Formula) : Type 0 where
  pub four : length f.factors ≡ 4
  pub factors : (e : ℕ) → e < 4 → slice_index f.factors e
      ≡ bit_xor (bit_xor (bit_xor (slice_index f.shares e) (share_of f.first e))
      (share_of f.second e)) (share_of f.third e)

-- a list that is added is the one that was made before, by these shares
abbrev pub IsNoneOr : Option (List ℕ) → Option (List ℕ) → Type 0
IsNoneOr added made = (added ≡ None) ⊎ (added ≡ made)

-- where a formula is given, it adds no lists but those made before, by these shares
abbrev pub AddsOnly : Option Formula → Option (List ℕ) → Option (List ℕ) → Option (List ℕ) → Type 0
AddsOnly formula x y z = IfSome formula (λ f. IsFormula f × IsNoneOr f.first x
    × IsNoneOr f.second y × IsNoneOr f.third z)

-- the shares that a formula is for
abbrev pub shares_for : Option Formula → Option (List ℕ)
shares_for None = None
shares_for (Some f) = Some f.shares

-- each formula adds none but the targets before its own
pub record AreFormulas (f : Formulas) : Type 0 where
  pub first : AddsOnly f.first None None None
  pub second : AddsOnly f.second (shares_for f.first) None None
  pub third : AddsOnly f.third (shares_for f.first) (shares_for f.second) None
  pub fourth : AddsOnly f.fourth (shares_for f.first) (shares_for f.second) (shares_for f.third)
