-- Interleavings of the calls that the passes have seen.
use Rattle.std.proofs.Common.{◌≡◌, ◌≢◌, ◌⊎◌, inl, inr, ℕ, zero, suc, ◌+◌, ◌<◌, ◌==◌, cond, true, false, List, [], ◌∷◌, ◌++◌, length, Some, slice_get, refl, ap, sym, subst, ◌∙◌, arith}
use Rattle.std.proofs.lemmas.List.{append-nil}
use Rattle.std.proofs.lemmas.List.Elements.{filter-append}
use Rattle.std.proofs.lemmas.Bool.{eq-eqb}
use Rattle.std.proofs.lemmas.Bool.Decides.{eqb_tells}
use Rattle.std.specs.FinMap as finite
use Rattle.gate.specs.Places.{times}
use Rattle.history.specs.History.{History, IsLegal, state_of}
use Rattle.book.specs.Serial.{Act, call, trim, events_in}
use Rattle.shared.specs.Passes.{Shows, IsConsistent, IsWhole}
use Rattle.one_map.specs.Hash.{shard_of}
use Rattle.one_map.specs.OneMap.{operation_shard, part}
use Rattle.sharded.specs.Passes.{IsActOfShard, HasActsOfShard, HaveLegalHistories, HaveWidth}
use Rattle.sharded.specs.Interleavings.{IsInterleavingOf, HasOneMap, AreCallsOfShard}
use Rattle.sharded.proofs.Steps.{same_some}
use Rattle.one_map.proofs.OneMap.{legal_both_ways, map_has}

-- ---- every order is legal
at_below : {X : Type 0} (xs : List X) (k : ℕ) → k < length xs → (x : X) × (slice_get xs k ≡ Some x)
at_below [] k l = absurd (omega arith)
at_below (x ∷ xs) zero l = (x, refl)
at_below (x ∷ xs) (suc k) l = at_below xs k (omega arith)

pub has_one_map : (w : ℕ) (vs : List Shows) → 0 < length vs → HaveWidth w vs → HaveLegalHistories vs → HasOneMap w vs
has_one_map w vs some wide legal h order = (
  (legal_both_ways (length vs) w some h).0 (λ k below.
      let found = at_below vs k below in
      subst (IsLegal w) (sym (order k found.0 found.1)) (subst (λ x. IsLegal x found.0.seen) (wide k found.0 found.1) (legal k found.0 found.1))),
  λ n v there. map_has (length vs) h n ∙ ap (λ g. finite.get (state_of g).names n) (order (shard_of (length vs) n) v there),
)

-- ---- an order
module _ (count : ℕ) where
  part_own : (k : ℕ) (h : History) → AreCallsOfShard count k h → part count k h ≡ h
  part_own k [] placed = refl
  part_own k (e ∷ es) placed = ap (λ b. cond b (e ∷ part count k es) (part count k es)) (eq-eqb (operation_shard count e.operation) k placed.0) ∙ ap (λ l. e ∷ l) (part_own k es placed.1)

  part_other : (j k : ℕ) (h : History) → j ≢ k → AreCallsOfShard count j h → part count k h ≡ []
  part_other j k [] other placed = refl
  part_other j k (e ∷ es) other placed = by (eqb_tells (operation_shard count e.operation) k) (part_other j k es other placed.1)
    where
      by : (((operation_shard count e.operation == k) ≡ true) × (operation_shard count e.operation ≡ k)) ⊎ (((operation_shard count e.operation == k) ≡ false) × (operation_shard count e.operation ≢ k)) → part count k es ≡ []
          → part count k (e ∷ es) ≡ []
      by (inl (t, same)) rest = absurd (other (sym placed.0 ∙ same))
      by (inr (t, apart)) rest = ap (λ b. cond b (e ∷ part count k es) (part count k es)) t ∙ rest

  -- shard after shard
  abbrev pub in_turn : List Shows → History
  in_turn [] = []
  in_turn (v ∷ vs) = v.seen ++ in_turn vs

  -- the shards from this one on
  abbrev CallsFrom : ℕ → List Shows → Type 0
  CallsFrom base [] = Unit {0}
  CallsFrom base (v ∷ vs) = AreCallsOfShard count base v.seen × CallsFrom (suc base) vs

  none_before : (base k : ℕ) (vs : List Shows) → k < base → CallsFrom base vs → part count k (in_turn vs) ≡ []
  none_before base k [] l placed = refl
  none_before base k (v ∷ vs) l placed =
      filter-append (λ e. operation_shard count e.operation == k) v.seen (in_turn vs)
      ∙ (λ i. part_other base k v.seen (λ e. omega (arith, l, e)) placed.0 i ++ none_before (suc base) k vs (omega arith) placed.1 i)

  turn_at : (base k : ℕ) (vs : List Shows) (v : Shows) → CallsFrom base vs → slice_get vs k ≡ Some v → part count (base + k) (in_turn vs) ≡ v.seen
  turn_at base k [] v placed e = absurd (cc)
  turn_at base zero (x ∷ vs) v placed e =
      let same : x ≡ v = cc in
      let here : base + zero ≡ base = omega arith in
      ap (λ j. part count j (in_turn (x ∷ vs))) here
      ∙ filter-append (λ e. operation_shard count e.operation == base) x.seen (in_turn vs)
      ∙ (λ i. part_own base x.seen placed.0 i ++ none_before (suc base) base vs (omega arith) placed.1 i)
      ∙ append-nil x.seen ∙ ap (λ (y : Shows). y.seen) same
  turn_at base (suc k) (x ∷ vs) v placed e =
      let there : base + suc k ≡ suc base + k = omega arith in
      ap (λ j. part count j (in_turn (x ∷ vs))) there
      ∙ filter-append (λ e. operation_shard count e.operation == (suc base + k)) x.seen (in_turn vs)
      ∙ (λ i. part_other base (suc base + k) x.seen (λ e. omega (arith, e)) placed.0 i ++ turn_at (suc base) k vs v placed.1 e i)

  calls_from : (base : ℕ) (vs : List Shows) → ((k : ℕ) (v : Shows) → slice_get vs k ≡ Some v → AreCallsOfShard count (base + k) v.seen) → CallsFrom base vs
  calls_from base [] f = tt
  calls_from base (v ∷ vs) f = (
    (let e : base + zero ≡ base = omega arith in subst (λ j. AreCallsOfShard count j v.seen) e (f zero v refl)),
    calls_from (suc base) vs (λ k x there. let e : base + suc k ≡ suc base + k = omega arith in subst (λ j. AreCallsOfShard count j x.seen) e (f (suc k) x there)),
  )

pub some_order : (vs : List Shows) → ((k : ℕ) (v : Shows) → slice_get vs k ≡ Some v → AreCallsOfShard (length vs) k v.seen) → IsInterleavingOf vs (in_turn (length vs) vs)
some_order vs placed k v there =
    let from : CallsFrom (length vs) 0 vs = calls_from (length vs) 0 vs (λ j x at. let e : j ≡ 0 + j = omega arith in subst (λ i. AreCallsOfShard (length vs) i x.seen) e (placed j x at)) in
    let e : k ≡ 0 + k = omega arith in
    ap (λ j. part (length vs) j (in_turn (length vs) vs)) e ∙ turn_at (length vs) 0 k vs v from there

-- ---- own calls alone
acts_of_shard : (count k : ℕ) (acts : List Act) → ((p : ℕ) → p < length acts → (act : Act) × (slice_get acts p ≡ Some act) × IsActOfShard count k act) → AreCallsOfShard count k (events_in acts)
acts_of_shard count k [] f = tt
acts_of_shard count k (call e ∷ acts) f =
    let first = f 0 (omega arith) in
    let same : call e ≡ first.0 = same_some (call e) first.0 (slice_get (call e ∷ acts) 0) refl first.1 in
    (subst (IsActOfShard count k) (sym same) first.2, acts_of_shard count k acts (λ p l. f (suc p) (omega arith)))
acts_of_shard count k (trim n ∷ acts) f = acts_of_shard count k acts (λ p l. f (suc p) (omega arith))

pub whole_of_shard : (count k : ℕ) (v : Shows) → HasActsOfShard count k v → IsWhole v → IsConsistent v → AreCallsOfShard count k v.seen
whole_of_shard count k v homed whole agrees =
    subst (AreCallsOfShard count k) (sym agrees.seen_is) (acts_of_shard count k v.acts (λ p l. homed p (let once : times p v.did ≡ 1 = whole.all p l in omega arith)))
