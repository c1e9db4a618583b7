-- Passes that each take in what is of their shard, from the last on.
use Rattle.std.proofs.Common.{◌≡◌, ◌⊎◌, inl, inr, ℕ, zero, suc, ◌<◌, ◌≤◌, List, [], ◌∷◌, ◌++◌, map, take, drop, set, get_or, length, None, Some, slice_get, option_map, refl, ap, sym, subst, ◌∙◌, arith, length-append}
use Rattle.std.proofs.lemmas.Option.{slice_get-map, slice_get_within, slice_get_read}
use mathlib.Core.List.{IsPrefix}
use Rattle.shared.specs.Passes.{Which}
use Rattle.sharded.specs.Passes.{AreTaken}
use Rattle.sharded.proofs.Steps.{get_longer, same_some}

-- ---- lists
drop_all : {X : Type 0} (xs : List X) → drop (length xs) xs ≡ []
drop_all [] = refl
drop_all (x ∷ xs) = drop_all xs

take_all : {X : Type 0} (xs : List X) → xs ≡ take (length xs) xs
take_all [] = refl
take_all (x ∷ xs) = ap (λ l. x ∷ l) (take_all xs)

pub length_map : {X Y : Type 0} (f : X → Y) (xs : List X) → length (map f xs) ≡ length xs
length_map f [] = refl
length_map f (x ∷ xs) = ap suc (length_map f xs)

pub same_length : {V W : Type 0} (store : V → Which) (other : W → Which) (vs : List V) (ws : List W) → map store vs ≡ map other ws → length vs ≡ length ws
same_length store other vs ws e = sym (length_map store vs) ∙ ap length e ∙ length_map other ws

last_taken : {X : Type 0} (os left : List X) (o : X) → left ++ o ∷ [] ≡ take (suc (length left)) os → (left ≡ take (length left) os) × (slice_get os (length left) ≡ Some o) × (suc (length left) ≤ length os)
last_taken [] [] o e = absurd (cc)
last_taken [] (x ∷ left) o e = absurd (cc)
last_taken (y ∷ os) [] o e = let same : o ≡ y = cc in (refl, ap Some (sym same), omega arith)
last_taken (y ∷ os) (x ∷ left) o e =
    let head : x ≡ y = cc in let tail : left ++ o ∷ [] ≡ take (suc (length left)) os = cc in
    let more = last_taken os left o tail in
    ((λ i. head i ∷ more.0 i), more.1, omega (arith, more.2))

module _ {V O : Type 0} (store : V → Which) (R : V → O → V → Type 0) where
  stores_put : (ps : List V) (n : ℕ) (v w : V) → v ≡ get_or ps n v → store w ≡ store v → map store (set ps n w) ≡ map store ps
  stores_put [] n v w e s = refl
  stores_put (p ∷ ps) zero v w e s = ap (λ x. x ∷ map store ps) (s ∙ ap store e)
  stores_put (p ∷ ps) (suc n) v w e s = ap (λ x. store p ∷ x) (stores_put ps n v w e s)

  -- ---- from the last on
  pub record TakenFrom (vs : List V) (os : List O) (ps : List V) (left : List O) : Type 0 where
    pub within : length left ≤ length os
    pub left_is : left ≡ take (length left) os
    pub same : take (length left) ps ≡ take (length left) vs
    pub taken : AreTaken R (drop (length left) vs) (drop (length left) os) (drop (length left) ps)
    pub stores : map store ps ≡ map store vs

  pub taken_none : (vs : List V) → AreTaken R vs [] vs
  taken_none [] = refl
  taken_none (v ∷ vs) = (refl, taken_none vs)

  pub taken_first : (vs : List V) (os : List O) → TakenFrom vs os vs os
  taken_first vs os = record {
    within = omega arith;
    left_is = take_all os;
    same = refl;
    taken = subst (λ l. AreTaken R (drop (length os) vs) l (drop (length os) vs)) (sym (drop_all os)) (taken_none (drop (length os) vs));
    stores = refl;
  }

  -- one more
  step : (vs : List V) (os : List O) (ps : List V) (n : ℕ) (o : O) (v w : V) → n < length vs → n < length ps → take (suc n) ps ≡ take (suc n) vs → slice_get os n ≡ Some o → v ≡ get_or ps n v → R v o w
      → AreTaken R (drop (suc n) vs) (drop (suc n) os) (drop (suc n) ps) → (take n (set ps n w) ≡ take n vs) × AreTaken R (drop n vs) (drop n os) (drop n (set ps n w))
  step [] os ps n o v w l m same e f one rest = absurd (omega arith)
  step (x ∷ vs) os [] n o v w l m same e f one rest = absurd (omega arith)
  step (x ∷ vs) [] (p ∷ ps) n o v w l m same e f one rest = absurd (cc)
  step (x ∷ vs) (y ∷ os) (p ∷ ps) zero o v w l m same e f one rest =
      let old : v ≡ x = cc in let other : y ≡ o = cc in
      (refl, (subst (λ a. R a y w) old (subst (λ a. R v a w) (sym other) one), rest))
  step (x ∷ vs) (y ∷ os) (p ∷ ps) (suc n) o v w l m same e f one rest =
      let head : p ≡ x = cc in let tail : take (suc n) ps ≡ take (suc n) vs = cc in
      let more = step vs os ps n o v w (omega arith) (omega arith) tail e f one rest in
      ((λ i. head i ∷ more.0 i), more.1)

  taken_more : (vs : List V) (os : List O) (ps : List V) (left whole : List O) (o : O) (v w : V) → whole ≡ left ++ o ∷ [] → length left < length ps → length ps ≡ length vs → v ≡ get_or ps (length left) v → R v o w → store w ≡ store v
      → TakenFrom vs os ps whole → TakenFrom vs os (set ps (length left) w) left
  taken_more vs os ps left whole o v w is l same e one store from =
      let long : length whole ≡ suc (length left) = ap length is ∙ length-append left (o ∷ []) ∙ omega arith in
      let found = last_taken os left o (sym is ∙ from.left_is ∙ ap (λ n. take n os) long) in
      let next = step vs os ps (length left) o v w (omega arith) l (subst (λ n. take n ps ≡ take n vs) long from.same) found.1 e one
      (subst (λ n. AreTaken R (drop n vs) (drop n os) (drop n ps)) long from.taken) in record {
        within = omega (arith, found.2);
        left_is = found.0;
        same = next.0;
        taken = next.1;
        stores = stores_put ps (length left) v w e store ∙ from.stores;
      }

  -- ---- from the first on
  pub taken_next : (vs : List V) (os : List O) (ps : List V) (n : ℕ) (o : O) (v w : V) → n < length ps → slice_get os n ≡ Some o → v ≡ get_or ps n v → R v o w → AreTaken R vs (take n os) ps → AreTaken R vs (take (suc n) os) (set ps n w)
  taken_next [] os ps n o v w l e f one are = let none = ap length are in absurd (omega (arith, l, none))
  taken_next (x ∷ vs) os [] n o v w l e f one are = absurd (omega (arith, l))
  taken_next (x ∷ vs) [] (p ∷ ps) n o v w l e f one are = absurd (cc)
  taken_next (x ∷ vs) (y ∷ os) (p ∷ ps) zero o v w l e f one are =
      let old : v ≡ x = f ∙ are.0 in let other : y ≡ o = cc in
      (subst (λ a. R a y w) old (subst (λ a. R v a w) (sym other) one), are.1)
  taken_next (x ∷ vs) (y ∷ os) (p ∷ ps) (suc n) o v w l e f one are = (are.0, taken_next vs os ps n o v w (omega (arith, l)) e f one are.1)

  -- ---- each of the passes
  pub taken_at : (vs : List V) (os : List O) (ws : List V) → AreTaken R vs os ws → (k : ℕ) (w : V) → slice_get ws k ≡ Some w
      → (v : V) × (slice_get vs k ≡ Some v) × ((w ≡ v) ⊎ ((o : O) × (slice_get os k ≡ Some o) × R v o w))
  taken_at [] os ws are k w e = let none : slice_get ws k ≡ None = ap (λ l. slice_get l k) are in absurd (cc)
  taken_at (v ∷ vs) os [] are k w e = absurd are
  taken_at (v ∷ vs) [] (x ∷ ws) are zero w e = let same : x ≡ w = cc in (v, refl, inl (sym same ∙ are.0))
  taken_at (v ∷ vs) [] (x ∷ ws) are (suc k) w e = taken_at vs [] ws are.1 k w e
  taken_at (v ∷ vs) (o ∷ os) (x ∷ ws) are zero w e = let same : x ≡ w = cc in (v, refl, inr (o, refl, subst (λ a. R v o a) same are.0))
  taken_at (v ∷ vs) (o ∷ os) (x ∷ ws) are (suc k) w e = taken_at vs os ws are.1 k w e

  pub taken_length : (vs : List V) (os : List O) (ws : List V) → AreTaken R vs os ws → length ws ≡ length vs
  taken_length [] os ws are = ap length are
  taken_length (v ∷ vs) os [] are = absurd are
  taken_length (v ∷ vs) [] (x ∷ ws) are = ap suc (taken_length vs [] ws are.1)
  taken_length (v ∷ vs) (o ∷ os) (x ∷ ws) are = ap suc (taken_length vs os ws are.1)

  pub taken_stores : ((v : V) (o : O) (w : V) → R v o w → store w ≡ store v) → (vs : List V) (os : List O) (ws : List V) → AreTaken R vs os ws → map store ws ≡ map store vs
  taken_stores kept [] os ws are = ap (map store) are
  taken_stores kept (v ∷ vs) os [] are = absurd are
  taken_stores kept (v ∷ vs) [] (w ∷ ws) are = (λ i. store (are.0 i) ∷ taken_stores kept vs [] ws are.1 i)
  taken_stores kept (v ∷ vs) (o ∷ os) (w ∷ ws) are = (λ i. kept v o w are.0 i ∷ taken_stores kept vs os ws are.1 i)

  -- ---- as the code knows it: the last of those that are left is taken
  module _ (store_of : O → Which) where
    pub record Popped (vs : List V) (os : List O) (ps : List V) (whole left : List O) (ss : List Which) (n : ℕ) (o : O) (v : V) (here : Which) : Type 0 where
      pub stores : map store vs ≡ ss
      pub others : IsPrefix (map store_of os) ss
      pub from : TakenFrom vs os ps whole
      pub is : whole ≡ left ++ o ∷ []
      pub count : n ≡ length left
      pub own_is : v ≡ get_or ps n v
      pub store_is : here ≡ get_or ss n here

    module _ (vs : List V) (os : List O) (ps : List V) (whole left : List O) (ss : List Which) (n : ℕ) (o : O) (v : V) (here : Which) (p : Popped vs os ps whole left ss n o v here) where
      popped_at : slice_get os (length left) ≡ Some o
      popped_at =
          let long : length whole ≡ suc (length left) = ap length p.is ∙ length-append left (o ∷ []) ∙ omega arith in
          let found = last_taken os left o (sym p.is ∙ p.from.left_is ∙ ap (λ k. take k os) long) in found.1

      other_at : slice_get ss n ≡ Some (store_of o)
      other_at =
          let here : slice_get (map store_of os) (length left) ≡ Some (store_of o) = slice_get-map store_of os (length left) ∙ ap (option_map store_of) popped_at in
          ap (λ l. slice_get l n) (sym p.others.1) ∙ ap (slice_get (map store_of os ++ p.others.0)) p.count ∙ get_longer (map store_of os) p.others.0 (length left) (store_of o) here

      long_is : length ps ≡ length ss
      long_is = sym (length_map store ps) ∙ ap length (p.from.stores ∙ p.stores)

      pub popped_below : n < length ps
      popped_below = let l : n < length ss = slice_get_within ss n (store_of o) other_at in omega (arith, long_is)

      own_at : slice_get ss n ≡ Some (store v)
      own_at =
          ap (λ l. slice_get l n) (sym p.stores ∙ sym p.from.stores) ∙ slice_get-map store ps n
          ∙ ap (option_map store) (slice_get_read ps (length ps) n v refl popped_below p.own_is)

      store_at : slice_get ss n ≡ Some here
      store_at = slice_get_read ss (length ss) n here refl (slice_get_within ss n (store_of o) other_at) p.store_is

      pub popped_stores : (store v ≡ here) × (store_of o ≡ here)
      popped_stores = (same_some (store v) here (slice_get ss n) own_at store_at, same_some (store_of o) here (slice_get ss n) other_at store_at)

      pub popped_taken : (w : V) → R v o w → store w ≡ store v → TakenFrom vs os (set ps n w) left
      popped_taken w one kept =
          subst (λ k. TakenFrom vs os (set ps k w) left) (sym p.count)
          (taken_more vs os ps left whole o v w p.is (subst (λ k. k < length ps) p.count popped_below) (same_length store store ps vs p.from.stores) (subst (λ k. v ≡ get_or ps k v) p.count p.own_is) one kept p.from)

-- ---- as the code knows it: what is read at an index
pub read_store : {V : Type 0} (store : V → Which) (ps : List V) (ss : List Which) (n : ℕ) (v : V) (here : Which) → map store ps ≡ ss → n < length ps → v ≡ get_or ps n v → here ≡ get_or ss n here → store v ≡ here
read_store store ps ss n v here e below is at =
    let long : length ps ≡ length ss = sym (length_map store ps) ∙ ap length e in
    let own : slice_get ss n ≡ Some (store v) = ap (λ l. slice_get l n) (sym e) ∙ slice_get-map store ps n ∙ ap (option_map store) (slice_get_read ps (length ps) n v refl below is) in
    same_some (store v) here (slice_get ss n) own (slice_get_read ss (length ss) n here refl (omega (arith, below, long)) at)
