-- Lists that rise, with one key more.
use Rattle.std.proofs.Common.{◌≡◌, List, [], ◌∷◌, ◌++◌}
use Rattle.std.specs.List.{AllByRecursion}
use Rattle.std.specs.List.Sorted.{IsStrictlySortedBy}
use Rattle.std.specs.declared.cmp.Ordering.{Ordering}
use Rattle.std.specs.declared.cmp.Ordering.TheVariants.{Less}

pub all_push : {K : Type 0} (P : K → Type 0) (xs : List K) (k : K) → AllByRecursion P xs → P k → AllByRecursion P (xs ++ k ∷ [])
all_push P [] k all last = (last, tt)
all_push P (x ∷ xs) k all last = (all.0, all_push P xs k all.1 last)

pub rises_push : {K : Type 0} (R : K → K → Ordering) (xs : List K) (k : K) → IsStrictlySortedBy R xs → AllByRecursion (λ x. R x k ≡ Less) xs → IsStrictlySortedBy R (xs ++ k ∷ [])
unfolding IsStrictlySortedBy
rises_push R [] k rises below = (tt, tt)
rises_push R (x ∷ xs) k rises below = (all_push (λ y. R x y ≡ Less) xs k rises.0 below.0, rises_push R xs k rises.1 below.1)
