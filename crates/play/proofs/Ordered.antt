-- All steps in the order in which they were done: each follows the sequential specification after
-- those before it.
use Rattle.std.proofs.Common.{◌≡◌, ◌≢◌, ◌∙◌, ℕ, zero, suc, ◌+◌, ◌-◌, ◌<◌, ◌≤◌, ◌==◌, Bool, true, false, cond, List, [], ◌∷◌, ◌++◌, length, map, take, fold, All, refl, ap, sym, subst, ⊎_elim, arith, true≢false, eq-eqb, append-nil, append_assoc, length-append, ne_eqb}
use Rattle.std.specs.List.{filter, AllPairs}
use Rattle.std.proofs.lemmas.List.{take_all}
use Rattle.std.proofs.lemmas.List.Elements.{All-nil, All-cons}
use Rattle.std.proofs.lemmas.List.Kept.{AllPairs-cons}
use mathlib.Core.List.{IsPrefix}
use Rattle.gate.specs.Events.{number_if}
use Rattle.gate.specs.Places.{times}
use Rattle.gate.proofs.Lists.{times-append, times-one, prefix_length}
use Rattle.history.proofs.Beginnings.{after_all-append}
use Rattle.history.specs.State.{empty_state}
use Rattle.history.specs.History.{state_of}
use Rattle.requests.proofs.Between.{events-append, given-append}
use Rattle.book.specs.Serial.{Deed, called, full, too_long, trimmed, Does, next, Act, trim_acts, act_of, events_in, given_in, standing_of}
use Rattle.play.specs.Runs.{MayPrecede}
use Rattle.play.specs.Steps.{Step, Found, found_from, AreDone, calls_in}
use Rattle.play.specs.Lists.{Each, Pairs}
use Rattle.play.specs.Accounts.{Placed, act_at, Stands, own_places, found_of, HasDone, IsGood}
use Rattle.play.proofs.Buckets.{each-both, each-filter, each-passes, each-weaker, pairs-weaker, pairs_by_key, has_key, by_key, by_key-enough, Goes, after, twice, twice_is, turn, IsIdle, IsChanged, goes_all}

-- ---- lists
pub take_prefix : {A : Type 0} (xs ys : List A) → IsPrefix xs ys → take (length xs) ys ≡ xs
take_prefix [] ys p = refl
take_prefix (x ∷ xs) [] p = absurd (cc (p.1))
take_prefix (x ∷ xs) (y ∷ ys) p =
    let heads : x ≡ y = cc (p.1) in
    let rest = take_prefix xs ys (p.0, cc (p.1)) in
    cc (heads, rest)

pub one_alone : {A : Type 0} (xs : List A) → length xs ≡ 1 → (x : A) × (xs ≡ x ∷ [])
one_alone [] e = absurd (omega (arith, e))
one_alone (x ∷ []) e = (x, refl)
one_alone (x ∷ y ∷ xs) e = absurd (omega (arith, e))

pub all_each : {A : Type 0} (P : A → Type 0) (xs : List A) → Each P xs → All P xs
all_each P [] all = All-nil P
all_each P (x ∷ xs) all = All-cons P x xs all.0 (all_each P xs all.1)

pub each-map : {A B : Type 0} (f : A → B) (P : B → Type 0) (xs : List A) → Each (λ x. P (f x)) xs → Each P (map f xs)
each-map f P [] all = tt
each-map f P (x ∷ xs) all = (all.0, each-map f P xs all.1)

pairs-map : {A B : Type 0} (f : A → B) (R : B → B → Type 0) (xs : List A) → Pairs (λ x y. R (f x) (f y)) xs → Pairs R (map f xs)
pairs-map f R [] all = tt
pairs-map f R (x ∷ xs) all = (each-map f (R (f x)) xs all.0, pairs-map f R xs all.1)

all_pairs : {A : Type 0} (R : A → A → Type 0) (xs : List A) → Pairs R xs → AllPairs R xs
all_pairs R [] all = λ i j d less below. absurd (omega (arith, below))
all_pairs R (x ∷ xs) all = AllPairs-cons R x xs (all_each (R x) xs all.0) (all_pairs R xs all.1)

-- what holds of any two both ways, and of each and itself
both_ways : {A : Type 0} (R : A → A → Type 0) (xs : List A) → Pairs (λ x y. R x y × R y x) xs → ((x : A) → R x x) → Each (λ x. Each (R x) xs) xs
both_ways R [] all self = tt
both_ways R (x ∷ xs) all self = (
  (self x, each-weaker (λ y. R x y × R y x) (R x) (λ y h. h.0) xs all.0),
  each-both (λ y. R y x) (λ y. Each (R y) xs) xs (each-weaker (λ y. R x y × R y x) (λ y. R y x) (λ y h. h.1) xs all.0) (both_ways R xs all.1 self),
)

-- ---- a step list an act
act_length : (who : ℕ) (d : Deed) → length (act_of who d) ≤ 1
act_length who (called o m) = omega arith
act_length who (full o) = omega arith
act_length who (too_long o) = omega arith
act_length who (trimmed keep zero) = omega arith
act_length who (trimmed keep (suc n)) = omega arith

given_trim : (n : ℕ) → given_in (trim_acts n) ≡ n
given_trim zero = refl
given_trim (suc n) = omega arith

events_trim : (n : ℕ) → events_in (trim_acts n) ≡ []
events_trim zero = refl
events_trim (suc n) = refl

-- the standing after the acts and this one
next_is : (before : List Act) (who : ℕ) (d : Deed) → next (standing_of before) d ≡ standing_of (before ++ act_of who d)
next_is before who (called o m) =
    let acts = act_of who (called o m) in
    let events = events-append before acts in
    let given = given-append before acts in
    let state = sym (ap state_of events ∙ after_all-append empty_state (events_in before) (events_in acts)) in
    let many : length (events_in before) + 1 ≡ length (events_in (before ++ acts)) = omega (arith, ap length events, length-append (events_in before) (events_in acts)) in
    let same : given_in before ≡ given_in (before ++ acts) = omega (arith, given) in
    λ i. record { state = state i; calls = many i; given = same i }
next_is before who (full o) = ap standing_of (sym (append-nil before))
next_is before who (too_long o) = ap standing_of (sym (append-nil before))
next_is before who (trimmed keep n) =
    let given = given-append before (trim_acts n) in
    let none = given_trim n in
    let events : events_in before ≡ events_in (before ++ trim_acts n) = sym (events-append before (trim_acts n) ∙ ap (λ l. events_in before ++ l) (events_trim n) ∙ append-nil (events_in before)) in
    let more : given_in before + n ≡ given_in (before ++ trim_acts n) = omega (arith, given, none) in
    λ i. record { state = state_of (events i); calls = length (events i); given = more i }

-- ---- the place of a step
abbrev pub place_of : Placed → ℕ
place_of p = length p.before

-- whether it is an act
abbrev pub is_some_list : List Act → Bool
is_some_list [] = false
is_some_list (a ∷ list) = true

abbrev pub is_act : Placed → Bool
is_act p = is_some_list (act_at p)

-- its key: those that are no act come before the act of their place
abbrev pub key : Placed → ℕ
key p = turn place_of is_act p

abbrev key_with : List Act → ℕ → ℕ
key_with list place = cond (is_some_list list) (suc (twice place)) (twice place)

odd : (m k : ℕ) → twice m ≢ suc (twice k)
odd m k e = omega (arith, e, twice_is m, twice_is k)

twice_same : (m k : ℕ) → twice m ≡ twice k → m ≡ k
twice_same m k e = omega (arith, e, twice_is m, twice_is k)

no_act : (list : List Act) (place k : ℕ) → key_with list place ≡ twice k → (list ≡ []) × (place ≡ k)
no_act [] place k e = (refl, twice_same place k e)
no_act (a ∷ list) place k e = absurd (odd k place (sym e))

one_act : (list : List Act) (place k : ℕ) → key_with list place ≡ suc (twice k) → (0 < length list) × (place ≡ k)
one_act [] place k e = absurd (odd place k e)
one_act (a ∷ list) place k e = (omega arith, twice_same place k (omega (arith, e)))

-- the key lies between the doubles of the places before and after the step
key_low : (list : List Act) (place : ℕ) → twice place ≤ key_with list place
key_low [] place = omega arith
key_low (a ∷ list) place = omega arith

key_high : (list : List Act) (place n : ℕ) → place + length list ≤ n → key_with list place < suc (twice n)
key_high [] place n le = omega (arith, twice_is place, twice_is n)
key_high (a ∷ list) place n le = omega (arith, twice_is place, twice_is n)

pub key_before : (list bs : List Act) (place later : ℕ) → place + length list ≤ later → key_with list place ≤ key_with bs later
key_before list bs place later le = let low = key_low bs later in let high = key_high list place later le in omega arith

-- list many steps have the key of an act's place list that place stands among the places
acts_at : (k : ℕ) (xs : List Placed) → length (filter (has_key key (suc (twice k))) xs) ≡ times k (own_places xs)
acts_at k [] = refl
acts_at k (p ∷ xs) = by (act_at p) refl (acts_at k xs)
  where
    back : List Placed
    back = filter (has_key key (suc (twice k))) xs

    by : (list : List Act) → act_at p ≡ list → length back ≡ times k (own_places xs) → length (cond (key p == suc (twice k)) (p ∷ back) back) ≡ times k (number_if (place_of p) (act_at p) ++ own_places xs)
    by [] e rest =
        let other : (twice (place_of p) == suc (twice k)) ≡ false = ne_eqb (twice (place_of p)) (suc (twice k)) (odd (place_of p) k) in
        (λ i. length (cond (key_with (e i) (place_of p) == suc (twice k)) (p ∷ back) back)) ∙ ap (λ b. length (cond b (p ∷ back) back)) other
        ∙ rest ∙ (λ i. times k (number_if (place_of p) (sym e i) ++ own_places xs))
    by (a ∷ list) e rest =
        (λ i. length (cond (key_with (e i) (place_of p) == suc (twice k)) (p ∷ back) back)) ∙ at (place_of p == k) refl ∙ (λ i. times k (number_if (place_of p) (sym e i) ++ own_places xs))
      where
        at : (b : Bool) → (place_of p == k) ≡ b → length (cond (suc (twice (place_of p)) == suc (twice k)) (p ∷ back) back) ≡ times k (place_of p ∷ own_places xs)
        at true is =
            let same : place_of p ≡ k = grind (arith, is) in
            let here : (suc (twice (place_of p)) == suc (twice k)) ≡ true = eq-eqb (suc (twice (place_of p))) (suc (twice k)) (ap (λ n. suc (twice n)) same) in
            let more = times-append k (place_of p ∷ []) (own_places xs) in
            let one = times-one k (place_of p) ∙ ap (λ c. cond {A = ℕ} c 1 0) is in
            ap (λ c. length (cond c (p ∷ back) back)) here ∙ omega (arith, rest, more, one)
        at false is =
            let past : suc (twice (place_of p)) ≢ suc (twice k) = λ same. true≢false (sym (eq-eqb (place_of p) k (twice_same (place_of p) k (omega (arith, same)))) ∙ is) in
            let other : (suc (twice (place_of p)) == suc (twice k)) ≡ false = ne_eqb (suc (twice (place_of p))) (suc (twice k)) past in
            let more = times-append k (place_of p ∷ []) (own_places xs) in
            let none = times-one k (place_of p) ∙ ap (λ c. cond {A = ℕ} c 1 0) is in
            ap (λ c. length (cond c (p ∷ back) back)) other ∙ omega (arith, rest, more, none)

-- ---- the order
abbrev pub begins_at : List Act → Placed → Type 0
begins_at s p = s ≡ p.before

abbrev pub goes_on : List Act → Placed → List Act
goes_on s p = s ++ act_at p

abbrev pub Follow : List Act → List Placed → Type 0
Follow s xs = Goes begins_at goes_on s xs

-- all steps by their keys
abbrev pub in_order_below : ℕ → List Placed → List Placed
in_order_below n xs = by_key key (suc (twice n)) xs

module _ (w l : ℕ) (acts : List Act) where
  begins : (p : Placed) → Stands w l acts p → take (place_of p) acts ≡ p.before
  begins p is = take_prefix p.before acts (act_at p ++ is.stands.0, sym (append_assoc p.before (act_at p) is.stands.0) ∙ is.stands.1)

  inside : (p : Placed) → Stands w l acts p → place_of p + length (act_at p) ≤ length acts
  inside p is = omega (arith, prefix_length (p.before ++ act_at p) acts is.stands, length-append p.before (act_at p))

  idle : (xs : List Placed) → Each (Stands w l acts) xs → (k : ℕ) → IsIdle begins_at goes_on place_of is_act (λ n. take n acts) xs k
  idle xs stand k = record {
    each = each-weaker (λ p. Stands w l acts p × (has_key key (twice k) p ≡ true)) (λ p. begins_at (take k acts) p × (goes_on (take k acts) p ≡ take k acts))
        (λ p h.
        let at = no_act (act_at p) (place_of p) k (grind (arith, h.1)) in
        (ap (λ n. take n acts) (sym at.1) ∙ begins p h.0, ap (λ list. take k acts ++ list) at.0 ∙ append-nil (take k acts)))
        (filter (has_key key (twice k)) xs)
        (each-both (Stands w l acts) (λ p. has_key key (twice k) p ≡ true) (filter (has_key key (twice k)) xs) (each-filter (Stands w l acts) (has_key key (twice k)) xs stand) (each-passes (has_key key (twice k)) xs));
  }

  changed : (xs : List Placed) → HasDone w l acts xs → (k : ℕ) → k < length acts → IsChanged begins_at goes_on place_of is_act (λ n. take n acts) xs k
  changed xs has k below =
      let test = has_key key (suc (twice k)) in
      let one = one_alone (filter test xs) (acts_at k xs ∙ has.all k below) in
      let both = each-both (Stands w l acts) (λ p. test p ≡ true) (filter test xs) (each-filter (Stands w l acts) test xs has.stand) (each-passes test xs) in
      let its = subst (Each (λ p. Stands w l acts p × (test p ≡ true))) one.1 both in
      let at = one_act (act_at one.0) (place_of one.0) k (grind (arith, its.0.1)) in
      let few = act_length one.0.step.who one.0.step.deed in
      let long : length (one.0.before ++ act_at one.0) ≡ suc k = omega (arith, length-append one.0.before (act_at one.0), at.0, at.1, few) in
      let first : take k acts ≡ one.0.before = ap (λ n. take n acts) (sym at.1) ∙ begins one.0 its.0.0 in
      record {
        it = one.0;
        only = one.1;
        does_it = first;
        to = ap (λ s. s ++ act_at one.0) first ∙ sym (take_prefix (one.0.before ++ act_at one.0) acts its.0.0.stands) ∙ ap (λ n. take n acts) long;
      }

  pub keys_below : (xs : List Placed) → Each (Stands w l acts) xs → Each (λ p. key p < suc (twice (length acts))) xs
  keys_below xs stand = each-weaker (Stands w l acts) (λ p. key p < suc (twice (length acts))) (λ p is. key_high (act_at p) (place_of p) (length acts) (inside p is)) xs stand

  -- One after the other, they are all the acts. A greater bound puts them in the same order
  pub follow : (xs : List Placed) → HasDone w l acts xs → (n : ℕ) → length acts ≤ n → Follow [] (in_order_below n xs) × (after begins_at goes_on [] (in_order_below n xs) ≡ acts)
  follow xs has n le =
      let all = goes_all begins_at goes_on place_of is_act (λ m. take m acts) xs (length acts) (λ k below. idle xs has.stand k) (changed xs has) in
      let more : suc (twice n) ≡ (twice n - twice (length acts)) + suc (twice (length acts)) = omega (arith, twice_is n, twice_is (length acts)) in
      let same : in_order_below n xs ≡ in_order_below (length acts) xs =
      ap (λ m. by_key key m xs) more ∙ by_key-enough key (suc (twice (length acts))) (twice n - twice (length acts)) xs (keys_below xs has.stand) in
      subst (λ ys. Follow [] ys × (after begins_at goes_on [] ys ≡ acts)) (sym same) (all.0, all.1 ∙ take_all (length acts) acts (omega arith))

-- ---- what follows from the order
abbrev pub steps_at : List Placed → List Step
steps_at xs = map (λ p. p.step) xs

pub found_are : (s : List Act) (xs : List Placed) → Follow s xs → found_from (standing_of s) (steps_at xs) ≡ map found_of xs
found_are s [] goes = refl
found_are s (p ∷ xs) goes =
    (λ i. (standing_of (goes.0 i), p.step) ∷ (ap (λ t. found_from t (steps_at xs)) (next_is s p.step.who p.step.deed) ∙ found_are (goes_on s p) xs goes.1) i)

pub standing_is : (s : List Act) (xs : List Placed) → fold (λ t x. next t x.deed) (standing_of s) (steps_at xs) ≡ standing_of (after begins_at goes_on s xs)
standing_is s [] = refl
standing_is s (p ∷ xs) = ap (λ t. fold (λ t' x. next t' x.deed) t (steps_at xs)) (next_is s p.step.who p.step.deed) ∙ standing_is (goes_on s p) xs

pub calls_are : (s : List Act) (xs : List Placed) → events_in s ++ calls_in (steps_at xs) ≡ events_in (after begins_at goes_on s xs)
calls_are s [] = append-nil (events_in s)
calls_are s (p ∷ xs) =
    sym (append_assoc (events_in s) (events_in (act_at p)) (calls_in (steps_at xs))) ∙ ap (λ h. h ++ calls_in (steps_at xs)) (sym (events-append s (act_at p))) ∙ calls_are (goes_on s p) xs

-- each step follows the sequential specification there
pub are_done : (w l : ℕ) (acts : List Act) (xs : List Placed) → Follow [] xs → Each (Stands w l acts) xs → AreDone w l (steps_at xs)
are_done w l acts xs goes stand =
    subst (All (λ (f : Found). Does w l f.0 f.1.deed)) (sym (found_are [] xs goes))
    (all_each (λ (f : Found). Does w l f.0 f.1.deed) (map found_of xs)
    (each-map found_of (λ (f : Found). Does w l f.0 f.1.deed) xs (each-weaker (Stands w l acts) (λ p. Does w l (standing_of p.before) p.step.deed) (λ p is. is.does) xs stand)))

-- one comes before another only if it may
pub order_is : (round_of : ℕ → ℕ) (n : ℕ) (xs : List Placed) → Pairs (IsGood round_of) xs → AllPairs (MayPrecede round_of) (steps_at (in_order_below n xs))
order_is round_of n xs good =
    let R : Placed → Placed → Type 0 = λ x y. MayPrecede round_of x.step y.step in
    let S : Placed → Placed → Type 0 = λ x y. key x < key y → R x y in
    let same = pairs-weaker (IsGood round_of) (λ x y. key x ≡ key y → R x y) (λ x y g e. g.0) xs good in
    let less = both_ways S xs
    (pairs-weaker (IsGood round_of) (λ x y. S x y × S y x) (λ x y g. (
      (λ e. g.0),
      (λ before. ⊎_elim (λ may. may) (λ done. let first = key_before (act_at x) (act_at y) (place_of x) (place_of y) done in absurd (omega arith)) g.1),
    )) xs good)
    (λ x e. absurd (omega arith)) in
    all_pairs (MayPrecede round_of) (steps_at (in_order_below n xs))
    (pairs-map (λ (p : Placed). p.step) (MayPrecede round_of) (in_order_below n xs) (pairs_by_key key R xs same less (suc (twice n))))
