-- A single worker repairs the first items of a mend's plan, in the plan's order.
use Rattle.std.proofs.Common.{◌≡◌, ◌∙◌, ℕ, zero, suc, ◌==◌, true, List, [], ◌∷◌, ◌++◌, length, map, take, drop, refl, ap, sym, subst, arith, length-append}
use Rattle.std.proofs.Math.Decide.{ℕ_discrete}
use Rattle.std.proofs.lemmas.Bool.Decides.{nat_tests}
use Rattle.std.proofs.lemmas.List.{length-map, take-append-drop}
use Rattle.std.proofs.lemmas.List.Sorted.{length_permutation}
use mathlib.Core.HLevel.{×_discrete, hedberg}
use mathlib.Core.List.{List-discrete, Sublist}
use mathlib.Core.List.Sublist
use mathlib.Core.List as lists
use mathlib.Core.Nat as unary
use Rattle.lrc_code.specs.declared.Code.TheVariants.{Wide, Small}
use Rattle.history.specs.Step.{Operation, put, read, lose, repair, restore, delete, stat}
use Rattle.book.specs.declared.plan.Item.{Item}
use Rattle.mender.specs.Worked.{repair_of}
use Rattle.play.specs.Lists.{Each}
use Rattle.play.specs.Steps.{Found}
use Rattle.play.specs.Runs.{IsByWorker, IsMend, operations_in}
use Rattle.play.proofs.Buckets.{each-weaker, filter-all}
use Rattle.play.proofs.Telling.{each_all}

-- ---- operations are a set
abbrev Coded : Type 0
Coded = (List ℕ × List ℕ) × (ℕ × (ℕ × ℕ))

abbrev coded : Operation → Coded
coded (put n Wide b) = ((n, b), (0, (0, 0)))
coded (put n Small b) = ((n, b), (1, (0, 0)))
coded (read n start len) = ((n, []), (2, (start, len)))
coded (lose n j f) = ((n, []), (3, (j, f)))
coded (repair n j f) = ((n, []), (4, (j, f)))
coded (restore n v j f) = ((n, v ∷ []), (5, (j, f)))
coded (delete n) = ((n, []), (6, (0, 0)))
coded (stat n) = ((n, []), (7, (0, 0)))

abbrev first : List ℕ → ℕ
first [] = 0
first (v ∷ rest) = v

abbrev operation_by : List ℕ → List ℕ → ℕ → ℕ → ℕ → Operation
operation_by n b zero j f = put n Wide b
operation_by n b (suc zero) j f = put n Small b
operation_by n b (suc (suc zero)) j f = read n j f
operation_by n b (suc (suc (suc zero))) j f = lose n j f
operation_by n b (suc (suc (suc (suc zero)))) j f = repair n j f
operation_by n b (suc (suc (suc (suc (suc zero))))) j f = restore n (first b) j f
operation_by n b (suc (suc (suc (suc (suc (suc zero)))))) j f = delete n
operation_by n b (suc (suc (suc (suc (suc (suc (suc k))))))) j f = stat n

abbrev decoded : Coded → Operation
decoded c = operation_by c.0.0 c.0.1 c.1.0 c.1.1.0 c.1.1.1

coded_back : (o : Operation) → decoded (coded o) ≡ o
coded_back (put n Wide b) = refl
coded_back (put n Small b) = refl
coded_back (read n start len) = refl
coded_back (lose n j f) = refl
coded_back (repair n j f) = refl
coded_back (restore n v j f) = refl
coded_back (delete n) = refl
coded_back (stat n) = refl

operations_set : IsSet Operation
operations_set = hedberg (λ x y. by x y (×_discrete (×_discrete (List-discrete ℕ_discrete) (List-discrete ℕ_discrete)) (×_discrete ℕ_discrete (×_discrete ℕ_discrete ℕ_discrete)) (coded x) (coded y)))
  where
    by : (x y : Operation) → Dec (coded x ≡ coded y) → Dec (x ≡ y)
    by x y (yes e) = yes (sym (coded_back x) ∙ ap decoded e ∙ coded_back y)
    by x y (no n) = no (λ e. n (ap coded e))

-- ---- a sublist that is as long as the list
-- mathlib's length of a list is a number of mathlib's
same_lengths : (xs ys : List Operation) → length xs ≡ length ys → lists.length xs ≡ lists.length ys
same_lengths [] [] same = refl
same_lengths [] (y ∷ ys) same = absurd (omega (arith, same))
same_lengths (x ∷ xs) [] same = absurd (omega (arith, same))
same_lengths (x ∷ xs) (y ∷ ys) same = ap (λ n. unary.suc n) (same_lengths xs ys (omega (arith, same)))

-- ---- the worker
pub one_worker : (plan : List Item) (steps : List Found) (m : IsMend 1 plan steps) → operations_in steps ≡ map repair_of (take m.count plan)
one_worker plan steps m =
    let made = operations_in steps in
    let front = take m.count plan in
    let back = drop m.count plan in
    let mine : Each (λ (f : Found). (f.1.who == 1) ≡ true) steps = each-weaker (IsByWorker 1) (λ (f : Found). (f.1.who == 1) ≡ true) (λ f is. grind (arith, nat_tests, is.0, is.1)) steps (each_all (IsByWorker 1) steps m.workers_are) in
    let sub : Sublist made (map repair_of front) = subst (λ (l : List Found). Sublist (operations_in l) (map repair_of front)) (filter-all (λ (f : Found). f.1.who == 1) steps mine) (m.in_order 1) in
    let all : length (map repair_of plan) ≡ length (made ++ map repair_of back) = sym (length_permutation _ _ m.each) ∙ ap (λ l. length (made ++ l)) m.last in
    Sublist.eq_of_length operations_set sub (same_lengths made (map repair_of front)
    (omega (arith, all, length-append made (map repair_of back), length-map plan repair_of, length-map front repair_of, length-map back repair_of, length-append front back, ap length (take-append-drop m.count plan))))
