-- What is known before the lists are read: the formulas, and the syndromes they take.
use Rattle.std.specs.Prelude.{◌≡◌, ℕ, ◌+◌, ◌-◌, ◌<◌, Bool, true, List, Option, IfSome}
use Rattle.std.specs.Borrow.{Bor}
use Rattle.kernels.specs.Lists.{bytes_at}
use Rattle.syndromes.specs.declared.formulas.Formula.{Formula}
use Rattle.syndromes.specs.declared.pass.Plan.{Plan}
use Rattle.one_pass.specs.Weights.{UsesOnly}
use Rattle.syndromes.specs.Syndromes.{wide_syndrome, column_at}

-- where a formula is given, it takes none but those syndromes
abbrev pub TakesOnly : Option Formula → Bool → Bool → Bool → Type 0
TakesOnly formula second third fourth = IfSome formula (λ f. UsesOnly f.factors second third fourth)

pub record IsPlan (p : Plan) : Type 0 where
  pub first : TakesOnly p.formulas.first p.takes_second p.takes_third p.takes_fourth
  pub second : TakesOnly p.formulas.second p.takes_second p.takes_third p.takes_fourth
  pub third : TakesOnly p.formulas.third p.takes_second p.takes_third p.takes_fourth
  pub fourth : TakesOnly p.formulas.fourth p.takes_second p.takes_third p.takes_fourth

-- the four lists have the syndromes of the places at..end, all but the first only if they are
-- taken
pub record AreSyndromes (lists : List (Option (Bor (List ℕ)))) (at end : ℕ)
    (second third fourth : Bool)
    (made : List (List ℕ)) : Type 0 where
  pub first : (k : ℕ) → k < end - at → bytes_at made k 0 ≡ wide_syndrome 0 (column_at lists (at + k))
  pub second_is : second ≡ true → (k : ℕ) → k < end - at
      → bytes_at made k 1 ≡ wide_syndrome 1 (column_at lists (at + k))
  pub third_is : third ≡ true → (k : ℕ) → k < end - at
      → bytes_at made k 2 ≡ wide_syndrome 2 (column_at lists (at + k))
  pub fourth_is : fourth ≡ true → (k : ℕ) → k < end - at
      → bytes_at made k 3 ≡ wide_syndrome 3 (column_at lists (at + k))
