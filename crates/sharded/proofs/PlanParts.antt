-- Parts of the plan of all shards, one shard after the other.
use Rattle.std.proofs.Common.{◌≡◌, ◌⊎◌, inl, inr, ℕ, zero, suc, ◌+◌, ◌-◌, ◌<◌, ◌≤◌, List, [], ◌∷◌, ◌++◌, take, drop, length, Option, None, Some, slice_get, slice_set, refl, ap, sym, subst, ◌∙◌, arith, add-one, append-nil, append_assoc}
use Rattle.std.proofs.lemmas.List.{take-append-drop}
use Rattle.std.proofs.lemmas.Grind.{flat_map-append}
use Rattle.book.specs.Plan.{plan_of, items_after}
use Rattle.book.specs.declared.plan.Item.{Item}
use Rattle.history.specs.History.{state_of}
use Rattle.shared.specs.Passes.{Shows}
use Rattle.sharded.specs.StepsTo.{AreStepsTo, AreSteps, lost_in_all}
use Rattle.sharded.specs.PlanParts.{MayHaveLooked, lost_from}
use Rattle.sharded.proofs.StepsTo.{found_more}

-- ---- steps
pub looked_none : (n : ℕ) (vs : List Shows) → AreStepsTo MayHaveLooked n vs vs
looked_none n [] = refl
looked_none zero (v ∷ vs) = (refl, looked_none zero vs)
looked_none (suc n) (v ∷ vs) = (inl refl, looked_none n vs)

pub looked_all : (n : ℕ) (vs ws : List Shows) → AreStepsTo MayHaveLooked n vs ws → AreSteps MayHaveLooked vs ws
looked_all n [] ws so = so
looked_all n (v ∷ vs) [] so = absurd so
looked_all zero (v ∷ vs) (w ∷ ws) so = (inl so.0, looked_all zero vs ws so.1)
looked_all (suc n) (v ∷ vs) (w ∷ ws) so = (so.0, looked_all n vs ws so.1)

-- ---- lists
take_more : {X : Type 0} (m : ℕ) (xs ys : List X) → take m xs ++ take (m - length (take m xs)) ys ≡ take m (xs ++ ys)
take_more zero xs ys = refl
take_more (suc m) [] ys = let whole : suc m - 0 ≡ suc m = omega arith in ap (λ k. take k ys) whole
take_more (suc m) (x ∷ xs) ys =
    let less : suc m - length (x ∷ take m xs) ≡ m - length (take m xs) = omega arith in
    ap (λ k. x ∷ (take m xs ++ take k ys)) less ∙ ap (λ l. x ∷ l) (take_more m xs ys)

-- m elements are enough of them
take_enough : {X : Type 0} (m : ℕ) (xs ys : List X) → m ≤ length (take m xs) → take m (xs ++ ys) ≡ take m xs
take_enough zero xs ys l = refl
take_enough (suc m) [] ys l = absurd (omega (arith, l))
take_enough (suc m) (x ∷ xs) ys l = ap (λ z. x ∷ z) (take_enough m xs ys (omega (arith, l)))

after_none : (items : List Item) → items_after None items ≡ items
after_none [] = refl
after_none (i ∷ items) = ap (λ l. i ∷ l) (after_none items)

-- ---- items of a shard more
-- the cursor is at the first shard, or behind it there is none
abbrev pub IsCursor : ℕ → Option Item → ℕ → Option Item → Type 0
IsCursor first a n now = ((n ≡ first) × (now ≡ a)) ⊎ ((first < n) × (now ≡ None))

lost_zero : (first : ℕ) (a : Option Item) → lost_from first a [] ≡ []
lost_zero zero a = refl
lost_zero (suc first) a = refl

-- none of the shards before the first has any
pub lost_none : (first n : ℕ) (a : Option Item) (vs : List Shows) → n ≤ first → lost_from first a (take n vs) ≡ []
lost_none first zero a vs l = lost_zero first a
lost_none first (suc n) a [] l = lost_zero first a
lost_none zero (suc n) a (v ∷ vs) l = absurd (omega (arith, l))
lost_none (suc first) (suc n) a (v ∷ vs) l = lost_none first n a vs (omega (arith, l))

lost_more : (first : ℕ) (a now : Option Item) (us : List Shows) (n : ℕ) (old new : Shows) → slice_get us n ≡ Some old → IsCursor first a n now
    → lost_from first a (take n us) ++ items_after now (plan_of (state_of new.seen)) ≡ lost_from first a (take (suc n) (slice_set us n new))
lost_more first a now [] n old new there at = absurd (cc)
lost_more zero a now (u ∷ us) zero old new there (inl (s, is)) =
    ap (λ c. items_after c (plan_of (state_of new.seen))) is ∙ sym (append-nil (items_after a (plan_of (state_of new.seen))))
lost_more zero a now (u ∷ us) zero old new there (inr (l, is)) = absurd (omega (arith, l))
lost_more (suc first) a now (u ∷ us) zero old new there (inl (s, is)) = absurd (omega (arith, s))
lost_more (suc first) a now (u ∷ us) zero old new there (inr (l, is)) = absurd (omega (arith, l))
lost_more zero a now (u ∷ us) (suc n) old new there (inl (s, is)) = absurd (omega (arith, s))
lost_more zero a now (u ∷ us) (suc n) old new there (inr (l, is)) =
    append_assoc (items_after a (plan_of (state_of u.seen))) (lost_in_all (take n us)) (items_after now (plan_of (state_of new.seen)))
    ∙ ap (λ l. items_after a (plan_of (state_of u.seen)) ++ l) (
    ap (λ c. lost_in_all (take n us) ++ items_after c (plan_of (state_of new.seen))) is
    ∙ ap (λ l. lost_in_all (take n us) ++ l) (after_none (plan_of (state_of new.seen)))
    ∙ found_more (λ v. plan_of (state_of v.seen)) us (slice_set us n new) n old new there refl
    ∙ ap (λ k. lost_in_all (take k (slice_set us n new))) (add-one n))
lost_more (suc first) a now (u ∷ us) (suc n) old new there at = lost_more first a now us n old new there (before at)
  where
    before : IsCursor (suc first) a (suc n) now → IsCursor first a n now
    before (inl (s, is)) = inl (omega (arith, s), is)
    before (inr (l, is)) = inr (omega (arith, l), is)

-- what is lost goes on behind the first shards
lost_split : (first n : ℕ) (a : Option Item) (vs : List Shows) → (more : List Item) × (lost_from first a vs ≡ lost_from first a (take n vs) ++ more)
lost_split first zero a vs = (lost_from first a vs, ap (λ l. l ++ lost_from first a vs) (sym (lost_zero first a)))
lost_split first (suc n) a [] = ([], sym (append-nil (lost_from first a [])))
lost_split zero (suc n) a (v ∷ vs) = (
  lost_in_all (drop n vs),
  ap (λ l. items_after a (plan_of (state_of v.seen)) ++ l) (ap lost_in_all (sym (take-append-drop n vs)) ∙ flat_map-append (λ w. plan_of (state_of w.seen)) (take n vs) (drop n vs))
      ∙ sym (append_assoc (items_after a (plan_of (state_of v.seen))) (lost_in_all (take n vs)) (lost_in_all (drop n vs))),
)
lost_split (suc first) (suc n) a (v ∷ vs) = lost_split first n a vs

-- ---- the part, shard after shard
-- the items are the first so many of what is lost at the shards before the n-th
pub record IsPartTo (first : ℕ) (a : Option Item) (most n : ℕ) (now : Option Item) (ws : List Shows) (items : List Item) : Type 0 where
  pub cursor : IsCursor first a n now
  pub found : items ≡ take most (lost_from first a (take n ws))

pub part_none : (first : ℕ) (a : Option Item) (most : ℕ) (ws : List Shows) → IsPartTo first a most first a ws []
part_none first a most ws = record { cursor = inl (refl, refl); found = sym (ap (take most) (lost_none first first a ws (omega arith)) ∙ take_nil most) }
  where
    take_nil : (m : ℕ) → take {A = Item} m [] ≡ []
    take_nil zero = refl
    take_nil (suc m) = refl

pub part_more : (first : ℕ) (a : Option Item) (most n left : ℕ) (now : Option Item) (us ws : List Shows) (old new : Shows) (items more : List Item) → slice_get us n ≡ Some old → ws ≡ slice_set us n new
    → left ≡ most - length items → more ≡ take left (items_after now (plan_of (state_of new.seen))) → IsPartTo first a most n now us items → IsPartTo first a most (n + 1) None ws (items ++ more)
part_more first a most n left now us ws old new items more there only left_is more_is part = record {
  cursor = inr (after part.cursor, refl);
  found = (λ i. part.found i ++ (more_is ∙ ap (λ k. take k (items_after now (plan_of (state_of new.seen)))) (left_is ∙ ap (λ l. most - length l) part.found)) i)
      ∙ take_more most (lost_from first a (take n us)) (items_after now (plan_of (state_of new.seen)))
      ∙ ap (take most) (lost_more first a now us n old new there part.cursor ∙ ap (λ l. lost_from first a (take (suc n) l)) (sym only) ∙ ap (λ k. lost_from first a (take k ws)) (sym (add-one n)));
}
  where
    after : IsCursor first a n now → first < n + 1
    after (inl (s, is)) = omega (arith, s)
    after (inr (l, is)) = omega (arith, l)

-- all shards were visited, or there are as many items as were asked for
pub part_whole : (first : ℕ) (a : Option Item) (most n : ℕ) (now : Option Item) (ws : List Shows) (items : List Item) → (length ws ≤ n) ⊎ (most ≤ length items) → IsPartTo first a most n now ws items → items ≡ take most (lost_from first a ws)
part_whole first a most n now ws items (inl l) part = part.found ∙ ap (λ x. take most (lost_from first a x)) (take_whole ws n l)
  where
    take_whole : {X : Type 0} (xs : List X) (k : ℕ) → length xs ≤ k → take k xs ≡ xs
    take_whole [] zero e = refl
    take_whole [] (suc k) e = refl
    take_whole (x ∷ xs) zero e = absurd (omega (arith, e))
    take_whole (x ∷ xs) (suc k) e = ap (λ z. x ∷ z) (take_whole xs k (omega (arith, e)))
part_whole first a most n now ws items (inr l) part =
    let split = lost_split first n a ws in
    part.found ∙ sym (ap (take most) split.1 ∙ take_enough most (lost_from first a (take n ws)) split.0 (subst (λ x. most ≤ length x) part.found l))
