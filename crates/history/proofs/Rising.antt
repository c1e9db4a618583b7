-- Sorted lists are determined by their elements.
use Rattle.std.proofs.Common.{◌≡◌, ℕ, ◌+◌, ◌<◌, Bool, true, false, ◌&&◌, T, List, [], ◌∷◌, ◌++◌, map, length, take, get_or, cond, refl, sym, ap, ◌∙◌, subst, arith}
use Rattle.std.specs.Prelude.{All}
use Rattle.std.specs.FinMap as finite
use Rattle.std.specs.FinMap.Entries.{below_all, same_entries}
use Rattle.std.specs.FinSet as set
use Rattle.std.specs.Option.{is_some}
use Rattle.std.specs.List.{AllByRecursion, list_any}
use Rattle.std.specs.List.Sorted.{IsStrictlySortedBy}
use Rattle.std.specs.Map.{keys_of, lookup}
use Rattle.std.specs.BTreeMap.{is_at, insert_entry}
use Rattle.std.specs.BTreeSet.{BTreeSet, IsFromIterResult}
use Rattle.std.specs.Ordering.{is_lt, match_ordering, ordering_reverse}
use Rattle.std.specs.declared.cmp.Ordering.{Ordering}
use Rattle.std.specs.declared.cmp.Ordering.TheVariants.{Less, Equal, Greater}
use Rattle.std.specs.Cmp.{IsTotalOrder}
use Rattle.std.proofs.lemmas.Map.Lookups.{CmpEqualImpliesEq, btree_set_from_contains, exact_pairs, exact_unsigned}
use Rattle.std.proofs.lemmas.Map.Made.{is_some-lookup}
use Rattle.std.proofs.lemmas.Map.Keys.{Less-from_sorted}
use Rattle.std.proofs.lemmas.List.{length-map, length-take-le, get_or-take, get_or_default}
use Rattle.std.proofs.lemmas.List.Elements.{All-head, All-tail}
use Rattle.sealed.specs.Blob.{Lost, pair_cmp}
use Rattle.history.specs.Base.{pairs_of}
use Rattle.sealed.proofs.Changing.{pairs_total}

less : (o : Ordering) → T (is_lt o) → o ≡ Less
less Less p = refl
less Equal p = absurd p
less Greater p = absurd p

parts : (a b : Bool) → T (a && b) → T a × T b
parts true b p = (tt, p)
parts false b p = absurd p

joined : (a b : Bool) → T a → T b → T (a && b)
joined true b p q = q
joined false b p q = p

module _ {K X : Type 0} (R : K → K → Ordering) where
  rises_below : (x : K) (es : List (K × X)) → T (below_all R x es) → AllByRecursion (λ y. R x y ≡ Less) (keys_of es)
  rises_below x [] h = tt
  rises_below x (e ∷ es) h = let p = parts (is_lt (R x e.0)) (below_all R x es) h in (less _ p.0, rises_below x es p.1)

  rises_from : (es : List (K × X)) → T (finite.is_sorted R es) → IsStrictlySortedBy R (keys_of es)
  unfolding IsStrictlySortedBy
  rises_from [] h = tt
  rises_from (e ∷ es) h = let p = parts (below_all R e.0 es) (finite.is_sorted R es) h in (rises_below e.0 es p.0, rises_from es p.1)

  below_from : (x : K) (es : List (K × X)) → AllByRecursion (λ y. R x y ≡ Less) (keys_of es) → T (below_all R x es)
  below_from x [] h = tt
  below_from x (e ∷ es) h = joined (is_lt (R x e.0)) (below_all R x es) (subst (λ r. T (is_lt r)) (sym h.0) tt) (below_from x es h.1)

  sorted_from : (es : List (K × X)) → IsStrictlySortedBy R (keys_of es) → T (finite.is_sorted R es)
  unfolding IsStrictlySortedBy
  sorted_from [] h = tt
  sorted_from (e ∷ es) h = joined (below_all R e.0 es) (finite.is_sorted R es) (below_from e.0 es h.0) (sorted_from es h.1)

  -- an entry whose key is above the others goes to the end
  insert_last : (k : K) (v : X) (es : List (K × X)) → All (λ x. R k x ≡ Greater) (keys_of es) → insert_entry R es k v ≡ es ++ (k, v) ∷ []
  insert_last k v [] above = refl
  insert_last k v (e ∷ es) above =
      ap (λ r. match_ordering r ((k, v) ∷ e ∷ es) ((e.0, v) ∷ es) (e ∷ insert_entry R es k v)) (All-head (λ x. R k x ≡ Greater) e.0 (keys_of es) above)
      ∙ ap (λ (l : List (K × X)). e ∷ l) (insert_last k v es (All-tail (λ x. R k x ≡ Greater) e.0 (keys_of es) above))

module _ {K X : Type 0} {R : K → K → Ordering} where
  -- the keys of a finite map rise
  pub keys_rise : (m : finite.FinMap R X) → IsStrictlySortedBy R (finite.keys m)
  keys_rise m = rises_from R (finite.entries m) (finite.entries_sorted m)

  -- two maps with sorted keys are equal if a search finds the same in both
  pub same_found : IsTotalOrder R → CmpEqualImpliesEq R → (es fs : List (K × X)) → IsStrictlySortedBy R (keys_of es) → IsStrictlySortedBy R (keys_of fs)
      → ((q : K) → lookup (is_at (R q)) es ≡ lookup (is_at (R q)) fs) → es ≡ fs
  same_found total exact es fs s t h = same_entries R total exact es fs (sorted_from R es s) (sorted_from R fs t) h

  -- a list whose keys rise is what a map that is made of it has
  pub entries_back : IsTotalOrder R → CmpEqualImpliesEq R → (es : List (K × X)) → IsStrictlySortedBy R (keys_of es) → finite.entries (finite.from_entries {R = R} es) ≡ es
  entries_back total exact es s =
      same_found total exact _ es (keys_rise (finite.from_entries es)) s (λ q. sym (finite.get-entries (finite.from_entries es) q) ∙ finite.get-from_entries total es q)

  -- the entry of the next of the keys goes after those before it
  pub insert_next : IsTotalOrder R → (ks : List K) → IsStrictlySortedBy R ks → (i : ℕ) (k : K) (v : X) → i < length ks → k ≡ get_or ks i k → (es : List (K × X)) → keys_of es ≡ take i ks
      → insert_entry R es k v ≡ es ++ (k, v) ∷ []
  insert_next total ks s i k v l is es before =
      insert_last R k v es
      (λ j d inside.
      let fewer : j < i = omega (arith, ap length before, length-take-le i ks) in
      let at : get_or (keys_of es) j d ≡ get_or ks j k = ap (λ (l : List K). get_or l j d) before ∙ get_or-take i ks j d fewer ∙ get_or_default ks j d k (omega arith) in
      let below : R (get_or ks j k) k ≡ Less = ap (R (get_or ks j k)) is ∙ Less-from_sorted R ks j i k s fewer l in
      ap (R k) at ∙ total.antisymm k (get_or ks j k) ∙ ap ordering_reverse below)

-- ---- the pairs of a set
abbrev marked : List (ℕ × ℕ) → List ((ℕ × ℕ) × Unit {0})
marked pairs = map (λ pair. (pair, tt)) pairs

keys_marked : (pairs : List (ℕ × ℕ)) → keys_of (marked pairs) ≡ pairs
keys_marked [] = refl
keys_marked (p ∷ ps) = ap (λ (l : List (ℕ × ℕ)). p ∷ l) (keys_marked ps)

exact : CmpEqualImpliesEq pair_cmp
exact = exact_pairs _ _ exact_unsigned exact_unsigned

made_has : (pairs : List (ℕ × ℕ)) (q : ℕ × ℕ) → finite.contains_key (finite.from_entries {R = pair_cmp} (marked pairs)) q ≡ list_any (is_at (pair_cmp q)) pairs
made_has pairs q =
    ap is_some (finite.get-from_entries pairs_total (marked pairs) q) ∙ is_some-lookup (is_at (pair_cmp q)) (marked pairs) ∙ ap (list_any (is_at (pair_cmp q))) (keys_marked pairs)

pub pairs_of-has : (lost : Lost) (q : ℕ × ℕ) → list_any (is_at (pair_cmp q)) (pairs_of lost) ≡ set.contains lost q
pairs_of-has lost q = sym (finite.contains_key-keys (finite.from_entries (marked (set.items lost))) q) ∙ made_has (set.items lost) q ∙ sym (set.contains-items lost q)

pub pairs_rise : (lost : Lost) → IsStrictlySortedBy pair_cmp (pairs_of lost)
pairs_rise lost = keys_rise (finite.from_entries (marked (set.items lost)))

-- two sorted lists of pairs are equal if they have the same elements
pub same_pairs : (xs ys : List (ℕ × ℕ)) → IsStrictlySortedBy pair_cmp xs → IsStrictlySortedBy pair_cmp ys
    → ((q : ℕ × ℕ) → list_any (is_at (pair_cmp q)) xs ≡ list_any (is_at (pair_cmp q)) ys) → xs ≡ ys
same_pairs xs ys s t h = btree_set_from_contains pairs_total (record { keys = xs }) (record { keys = ys }) s t h exact

-- a list that rises is what a set that is collected from it has
pub collected : (xs : List (ℕ × ℕ)) (made : BTreeSet (ℕ × ℕ)) → IsStrictlySortedBy pair_cmp xs → IsFromIterResult pair_cmp xs made → made.keys ≡ xs
collected xs made s is = same_pairs made.keys xs is.1 s is.0

len-made : (pairs : List (ℕ × ℕ)) → set.len (set.from_list {R = pair_cmp} pairs) ≡ finite.len (finite.from_entries {R = pair_cmp} (marked pairs))
len-made [] = set.len-empty pair_cmp ∙ sym (finite.len-empty pair_cmp (Unit {0}))
len-made (p ∷ ps) =
    set.len-insert pairs_total (set.from_list ps) p
    ∙ (λ i. cond ((set.contains-from_list pairs_total ps p ∙ sym (made_has ps p)) i) (len-made ps i) (len-made ps i + 1))
    ∙ sym (finite.len-insert pairs_total (finite.from_entries (marked ps)) p tt)

-- a set is made of its items
whole : (lost : Lost) → lost ≡ set.from_list (set.items lost)
whole lost = set.same_set pairs_total exact lost (set.from_list (set.items lost)) (λ q. set.contains-items lost q ∙ sym (set.contains-from_list pairs_total (set.items lost) q))

pub pairs_of-length : (lost : Lost) → length (pairs_of lost) ≡ set.len lost
pairs_of-length lost =
    length-map (finite.entries (finite.from_entries (marked (set.items lost)))) (λ (e : (ℕ × ℕ) × Unit {0}). e.0)
    ∙ sym (finite.len-entries (finite.from_entries (marked (set.items lost))))
    ∙ sym (len-made (set.items lost))
    ∙ sym (ap set.len (whole lost))
