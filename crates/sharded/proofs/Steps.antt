-- A call at the shard of its name keeps each pass's own calls at the shard of their names.
use Rattle.std.proofs.Common.{◌≡◌, ◌≢◌, ◌⊎◌, inl, inr, ℕ, zero, suc, ◌+◌, ◌<◌, ◌≤◌, ◌==◌, cond, true, false, List, [], ◌∷◌, ◌++◌, length, Option, None, Some, Result, Ok, Err, IfSome, slice_get, slice_set, slice_index_or, refl, ap, sym, subst, ◌∙◌, arith}
use Rattle.std.proofs.lemmas.Option.{slice_get_within, slice_get_read}
use Rattle.std.proofs.lemmas.List.{length-set, length-map}
use Rattle.std.proofs.lemmas.Bool.Decides.{eqb_tells}
use Rattle.gate.specs.Places.{times}
use Rattle.gate.specs.Events.{number_if}
use Rattle.gate.proofs.Lists.{times-append, times-one}
use Rattle.sealed.specs.declared.fault.Fault.{Fault}
use Rattle.sealed.specs.declared.fault.Fault.TheVariants.{NoMemory, JournalFull, BadName, TooLong, Busy, BadWidth, NoPass}
use Rattle.history.specs.Step.{Operation, repair}
use Rattle.book.specs.Serial.{Deed, called, full, too_long, trimmed, Act, call, trim}
use Rattle.book.specs.declared.answer.Answer.{Answer}
use Rattle.shared.specs.Passes.{Which, Shows, FindsBusy}
use Rattle.shared.specs.Deeds.{deed_of, trim_deed, act_if, Takes}
use Rattle.shared.specs.Calls.{Called}
use Rattle.shared.specs.Mends.{FoundBusy}
use Rattle.one_map.specs.Hash.{shard_of}
use Rattle.one_map.specs.OneMap.{name_of, operation_shard}
use Rattle.sharded.specs.Passes.{stores_of, IsActOfShard, HasActsOfShard, HaveActsOfShards}
use Rattle.sharded.specs.Steps.{IsStepAt, IsCallAt, IsBusyAt, IsBusyRepairAt, width_at, width_for, seen_at, seen_for}

-- ---- lists
pub set_here : {X : Type 0} (xs : List X) (k : ℕ) (y : X) → k < length xs → slice_get (slice_set xs k y) k ≡ Some y
set_here [] k y l = absurd (omega arith)
set_here (x ∷ xs) zero y l = refl
set_here (x ∷ xs) (suc k) y l = set_here xs k y (omega arith)

pub set_there : {X : Type 0} (xs : List X) (k j : ℕ) (y : X) → k ≢ j → slice_get (slice_set xs k y) j ≡ slice_get xs j
set_there [] k j y n = refl
set_there (x ∷ xs) zero zero y n = absurd (n refl)
set_there (x ∷ xs) zero (suc j) y n = refl
set_there (x ∷ xs) (suc k) zero y n = refl
set_there (x ∷ xs) (suc k) (suc j) y n = set_there xs k j y (λ e. n (ap suc e))

pub get_longer : {X : Type 0} (xs ys : List X) (p : ℕ) (x : X) → slice_get xs p ≡ Some x → slice_get (xs ++ ys) p ≡ Some x
get_longer [] ys p x e = absurd (cc)
get_longer (z ∷ xs) ys zero x e = e
get_longer (z ∷ xs) ys (suc p) x e = get_longer xs ys p x e

pub get_end : {X : Type 0} (xs : List X) (x : X) → slice_get (xs ++ x ∷ []) (length xs) ≡ Some x
get_end [] x = refl
get_end (z ∷ xs) x = get_end xs x

pub same_some : {X : Type 0} (x y : X) (o : Option X) → o ≡ Some x → o ≡ Some y → x ≡ y
same_some x y o e f = let both : Some x ≡ Some y = sym e ∙ f in cc

one_place : (p n : ℕ) → 1 ≤ times p (n ∷ []) → n ≡ p
one_place p n l = by (eqb_tells n p)
  where
    by : (((n == p) ≡ true) × (n ≡ p)) ⊎ (((n == p) ≡ false) × (n ≢ p)) → n ≡ p
    by (inl (t, e)) = e
    by (inr (t, e)) = let none : times p (n ∷ []) ≡ 0 = times-one p n ∙ ap (λ b. cond b 1 0) t in absurd (omega arith)

pub some_of : (a b : ℕ) → 1 ≤ a + b → (1 ≤ a) ⊎ (1 ≤ b)
some_of zero b l = inr (omega arith)
some_of (suc a) b l = inl (omega arith)

pub stores_set : (ps : List Shows) (n : ℕ) (v w : Shows) → slice_get ps n ≡ Some v → w.store ≡ v.store → stores_of (slice_set ps n w) ≡ stores_of ps
stores_set [] n v w e s = refl
stores_set (p ∷ ps) zero v w e s = let same : p ≡ v = cc in ap (λ x. x ∷ stores_of ps) (s ∙ ap (λ (x : Shows). x.store) (sym same))
stores_set (p ∷ ps) (suc n) v w e s = ap (λ x. p.store ∷ x) (stores_set ps n v w e s)

-- ---- one pass
-- what is done is of this shard. A trim is of each
abbrev pub IsDeedOfShard : ℕ → ℕ → Deed → Type 0
IsDeedOfShard count k (called o note) = operation_shard count o ≡ k
IsDeedOfShard count k (full o) = Unit {0}
IsDeedOfShard count k (too_long o) = Unit {0}
IsDeedOfShard count k (trimmed keep n) = Unit {0}

abbrev StandsAt : ℕ → ℕ → List Act → ℕ → Type 0
StandsAt count k acts p = (act : Act) × (slice_get acts p ≡ Some act) × IsActOfShard count k act

one_act : (count k : ℕ) (before : List Act) (a : Act) → IsActOfShard count k a → (p : ℕ) → 1 ≤ times p (length before ∷ []) → StandsAt count k (before ++ a ∷ []) p
one_act count k before a placed p l = (a, subst (λ q. slice_get (before ++ a ∷ []) q ≡ Some a) (one_place p (length before) l) (get_end before a), placed)

last_act : (count k who : ℕ) (deed : Option Deed) → IfSome deed (IsDeedOfShard count k) → (before : List Act) (p : ℕ)
    → 1 ≤ times p (number_if (length before) (act_if who deed)) → StandsAt count k (before ++ act_if who deed) p
last_act count k who None of before p l = absurd (omega arith)
last_act count k who (Some (called o note)) of before p l = one_act count k before (call (record { who = who; operation = o; note = note })) of p l
last_act count k who (Some (full o)) of before p l = absurd (omega arith)
last_act count k who (Some (too_long o)) of before p l = absurd (omega arith)
last_act count k who (Some (trimmed keep zero)) of before p l = absurd (omega arith)
last_act count k who (Some (trimmed keep (suc n))) of before p l = one_act count k before (trim (suc n)) tt p l

pub takes_of_shard : (count k : ℕ) (v w : Shows) (deed : Option Deed) → HasActsOfShard count k v → IfSome deed (IsDeedOfShard count k) → Takes v deed w → HasActsOfShard count k w
takes_of_shard count k v w deed homed of takes p l =
    by (some_of (times p v.did) (times p more) (subst (λ n. 1 ≤ n) (ap (times p) takes.did ∙ times-append p v.did more) l))
  where
    more : List ℕ
    more = number_if (length (v.acts ++ takes.others)) (act_if v.who deed)

    by : (1 ≤ times p v.did) ⊎ (1 ≤ times p more) → StandsAt count k w.acts p
    by (inl own) =
        let had = homed p own in
        (had.0, ap (λ acts. slice_get acts p) takes.acts ∙ get_longer (v.acts ++ takes.others) (act_if v.who deed) p had.0 (get_longer v.acts takes.others p had.0 had.1), had.2)
    by (inr new) = subst (λ acts. StandsAt count k acts p) (sym takes.acts) (last_act count k v.who deed of (v.acts ++ takes.others) p new)

pub deed_of_shard : (count k : ℕ) (o : Operation) (r : Result Answer Fault) → operation_shard count o ≡ k → IfSome (deed_of o r) (IsDeedOfShard count k)
deed_of_shard count k o (Ok a) e = e
deed_of_shard count k o (Err JournalFull) e = tt
deed_of_shard count k o (Err TooLong) e = tt
deed_of_shard count k o (Err NoMemory) e = tt
deed_of_shard count k o (Err BadName) e = tt
deed_of_shard count k o (Err Busy) e = tt
deed_of_shard count k o (Err BadWidth) e = tt
deed_of_shard count k o (Err NoPass) e = tt

-- ---- all passes
pub step_of_shards : (vs : List Shows) (k : ℕ) (old new : Shows) (deed : Option Deed) → HaveActsOfShards vs → slice_get vs k ≡ Some old → IfSome deed (IsDeedOfShard (length vs) k) → Takes old deed new
    → HaveActsOfShards (slice_set vs k new)
step_of_shards vs k old new deed homed there of takes j v e = subst (λ n. HasActsOfShard n j v) (sym (length-set vs k new)) (by (eqb_tells k j))
  where
    by : (((k == j) ≡ true) × (k ≡ j)) ⊎ (((k == j) ≡ false) × (k ≢ j)) → HasActsOfShard (length vs) j v
    by (inl (t, same)) =
        let here : HasActsOfShard (length vs) k new = takes_of_shard (length vs) k old new deed (homed k old there) of takes in
        let is : new ≡ v = same_some new v (slice_get (slice_set vs k new) k) (set_here vs k new (slice_get_within vs k old there)) (ap (slice_get (slice_set vs k new)) same ∙ e) in
        subst (λ m. HasActsOfShard (length vs) j m) is (subst (λ m. HasActsOfShard (length vs) m new) same here)
    by (inr (t, other)) = homed j v (sym (set_there vs k j new other) ∙ e)

-- ---- the width of the shard, and what its pass has seen
pub width_there : (ss : List Which) (k : ℕ) (store : Which) → slice_get ss k ≡ Some store → store.width ≡ width_at ss k
width_there [] k store e = absurd (cc)
width_there (s ∷ ss) zero store e = let same : s ≡ store = cc in ap (λ (x : Which). x.width) (sym same)
width_there (s ∷ ss) (suc k) store e = width_there ss k store e

seen_there : (vs : List Shows) (k : ℕ) (new : Shows) → k < length vs → seen_at (slice_set vs k new) k ≡ new.seen
seen_there [] k new l = absurd (omega arith)
seen_there (v ∷ vs) zero new l = refl
seen_there (v ∷ vs) (suc k) new l = seen_there vs k new (omega arith)

-- ---- the pass to one shard, as the code takes it
pub record Held (vs args : List Shows) (ss : List Which) (k : ℕ) (own : Shows) : Type 0 where
  pub view : vs ≡ args
  pub stores : stores_of args ≡ ss
  pub below : k < length ss
  pub own_is : own ≡ slice_index_or vs k own

pub held : {vs args : List Shows} {ss : List Which} {k : ℕ} {own : Shows} → vs ≡ args → stores_of args ≡ ss → k < length ss → own ≡ slice_index_or vs k own → Held vs args ss k own
held view stores below own_is = record { view = view; stores = stores; below = below; own_is = own_is }

module _ {vs args : List Shows} {ss : List Which} {k : ℕ} {own : Shows} (h : Held vs args ss k own) where
  count_is : length vs ≡ length ss
  count_is = ap length h.view ∙ sym (length-map args (λ (v : Shows). v.store)) ∙ ap length h.stores

  here : slice_get vs k ≡ Some own
  here = slice_get_read vs (length ss) k own (sym count_is) h.below h.own_is

  pub held_there : slice_get args k ≡ Some own
  held_there = ap (λ l. slice_get l k) (sym h.view) ∙ here

  -- all passes stay to the same stores
  pub held_stores : (new : Shows) → new.store ≡ own.store → stores_of (slice_set vs k new) ≡ ss
  held_stores new e = stores_set vs k own new here e ∙ ap stores_of h.view ∙ h.stores

  -- and have made acts of their shards alone
  pub held_of_shards : {deed : Option Deed} {new : Shows} → Takes own deed new → IfSome deed (IsDeedOfShard (length vs) k) → HaveActsOfShards vs → HaveActsOfShards (slice_set vs k new)
  held_of_shards {deed} {new} takes of are = step_of_shards vs k own new deed are here of takes

  pub held_step : (P : Shows → Shows → Type 0) (new : Shows) → P own new → IsStepAt k P args (slice_set vs k new)
  held_step P new does = record { old = own; new = new; there = held_there; only = ap (λ l. slice_set l k new) h.view; does = does }

  -- ---- and the shard is that of a name
  module _ (n : List ℕ) (place : k ≡ shard_of (length ss) n) where
    pub call_of_shards : {o : Operation} {r : Result Answer Fault} {new : Shows} → Called own o r new → name_of o ≡ n → HaveActsOfShards vs → HaveActsOfShards (slice_set vs k new)
    call_of_shards {o} {r} {new} made e are =
        let shard : operation_shard (length vs) o ≡ k = (λ i. shard_of (count_is i) (e i)) ∙ sym place in
        held_of_shards made.takes (deed_of_shard (length vs) k o r shard) are

    pub step_at_name : (P : Shows → Shows → Type 0) (o : Operation) (new : Shows) → P own new → name_of o ≡ n → IsStepAt (operation_shard (length args) o) P args (slice_set vs k new)
    step_at_name P o new does e =
        let shard : k ≡ operation_shard (length args) o = place ∙ (λ i. shard_of ((sym count_is ∙ ap length h.view) i) (sym e i)) in record {
          old = own;
          new = new;
          there = ap (slice_get args) (sym shard) ∙ held_there;
          only = (λ i. slice_set (h.view i) (shard i) new);
          does = does;
        }

    pub call_step : {o : Operation} {r : Result Answer Fault} {new : Shows} → Called own o r new → name_of o ≡ n → IsCallAt args o r (slice_set vs k new)
    call_step {o} {r} {new} made e = step_at_name (λ v w. Called v o r w) o new made e

    pub finds_step : (o : Operation) (new : Shows) → FindsBusy own new → name_of o ≡ n → IsBusyAt args o (slice_set vs k new)
    finds_step o new found e = step_at_name FindsBusy o new found e

    pub busy_step : (j f : ℕ) (new : Shows) → FoundBusy own n j f new → IsBusyRepairAt args n j f (slice_set vs k new)
    busy_step j f new found = step_at_name (λ v w. FoundBusy v n j f w) (repair n j f) new found refl

    pub width_is : (store : Which) → store ≡ slice_index_or ss k store → store.width ≡ width_for ss n
    width_is store is = width_there ss k store (slice_get_read ss (length ss) k store refl h.below is) ∙ ap (width_at ss) place

    pub seen_is : (new : Shows) → new.seen ≡ seen_for (slice_set vs k new) n
    seen_is new =
        let long : length (slice_set vs k new) ≡ length ss = length-set vs k new ∙ count_is in
        sym ((λ i. seen_at (slice_set vs k new) ((ap (λ c. shard_of c n) long ∙ sym place) i)) ∙ seen_there vs k new (let l = h.below in omega (arith, l, count_is)))

pub trim_of : (count k keep : ℕ) (r : Result ℕ Fault) → IfSome (trim_deed keep r) (IsDeedOfShard count k)
trim_of count k keep (Ok n) = tt
trim_of count k keep (Err e) = tt
