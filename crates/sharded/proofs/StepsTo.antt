-- Steps at all shards, one after the other.
use Rattle.std.proofs.Common.{◌≡◌, ◌≢◌, ◌⊎◌, inl, inr, ◌==◌, true, false, Option, ℕ, zero, suc, ◌+◌, ◌≤◌, List, [], ◌∷◌, ◌++◌, take, length, Some, slice_get, slice_set, refl, ap, sym, subst, ◌∙◌, arith, add-one, map, Result, Ok, Err, OnOk, append-nil, append_assoc}
use Rattle.std.specs.List.{flat_map}
use Rattle.std.specs.Result.{is_err}
use Rattle.std.proofs.lemmas.Option.{slice_get_within}
use Rattle.std.proofs.lemmas.Bool.Decides.{eqb_tells}
use Rattle.book.specs.Serial.{Deed}
use Rattle.shared.specs.Passes.{Shows}
use Rattle.shared.specs.Deeds.{Takes}
use Rattle.sharded.specs.Passes.{AreLone}
use Rattle.sharded.specs.Steps.{IsStepAt}
use Rattle.sharded.specs.StepsTo.{AreStepsTo, AreSteps}
use Rattle.sharded.proofs.Steps.{set_here, set_there, same_some}

module _ (P : Shows → Shows → Type 0) where
  pub steps_none : (vs : List Shows) → AreStepsTo P 0 vs vs
  steps_none [] = refl
  steps_none (v ∷ vs) = (refl, steps_none vs)

  next : (n : ℕ) (vs us : List Shows) (old new : Shows) → slice_get us n ≡ Some old → P old new → AreStepsTo P n vs us → AreStepsTo P (suc n) vs (slice_set us n new)
  next n [] us old new there it so = let none = sym (ap (λ l. slice_get l n) so) ∙ there in absurd (cc)
  next n (v ∷ vs) [] old new there it so = absurd so
  next zero (v ∷ vs) (u ∷ us) old new there it so =
      let same : u ≡ old = cc in
      (subst (λ x. P x new) (sym same ∙ so.0) it, so.1)
  next (suc n) (v ∷ vs) (u ∷ us) old new there it so = (so.0, next n vs us old new there it so.1)

  pub steps_more : (n : ℕ) (vs us ws : List Shows) → (at : IsStepAt n P us ws) → AreStepsTo P n vs us → AreStepsTo P (n + 1) vs ws
  steps_more n vs us ws at so =
      subst (λ k. AreStepsTo P k vs ws) (sym (add-one n)) (subst (AreStepsTo P (suc n) vs) (sym at.only) (next n vs us at.old at.new at.there at.does so))

  pub steps_all : (n : ℕ) (vs ws : List Shows) → length vs ≤ n → AreStepsTo P n vs ws → AreSteps P vs ws
  steps_all n [] ws l so = so
  steps_all n (v ∷ vs) [] l so = absurd so
  steps_all zero (v ∷ vs) (w ∷ ws) l so = absurd (omega arith)
  steps_all (suc n) (v ∷ vs) (w ∷ ws) l so = (so.0, steps_all n vs ws (omega arith) so.1)

-- the same step, of which less is said
pub step_as : {P Q : Shows → Shows → Type 0} {n : ℕ} {us ws : List Shows} → ((v w : Shows) → P v w → Q v w) → IsStepAt n P us ws → IsStepAt n Q us ws
step_as weaken at = record { old = at.old; new = at.new; there = at.there; only = at.only; does = weaken at.old at.new at.does }

-- a step at a shard leaves the rooms as they were
pub lone_step : {deed : Option Deed} (n : ℕ) (us ws : List Shows) → IsStepAt n (λ v w. Takes v deed w) us ws → AreLone us → AreLone ws
lone_step n us ws at lone k x e = by (eqb_tells n k)
  where
    found : slice_get (slice_set us n at.new) k ≡ Some x
    found = subst (λ l. slice_get l k ≡ Some x) at.only e

    by : (((n == k) ≡ true) × (n ≡ k)) ⊎ (((n == k) ≡ false) × (n ≢ k)) → x.room ≡ 64
    by (inl (t, same)) =
        let is : at.new ≡ x = same_some at.new x (slice_get (slice_set us n at.new) n) (set_here us n at.new (slice_get_within us n at.old at.there)) (ap (slice_get (slice_set us n at.new)) same ∙ found) in
        ap (λ (v : Shows). v.room) (sym is) ∙ at.does.stays.2 ∙ lone n at.old at.there
    by (inr (t, other)) = lone k x (sym (set_there us n k at.new other) ∙ found)

-- ---- lists of what is found at each
module _ {X : Type 0} (f : Shows → List X) where
  pub found_more : (us ws : List Shows) (n : ℕ) (old new : Shows) → slice_get us n ≡ Some old → ws ≡ slice_set us n new → flat_map f (take n us) ++ f new ≡ flat_map f (take (n + 1) ws)
  found_more us ws n old new there only = set_more us n old new there ∙ ap (λ l. flat_map f (take (suc n) l)) (sym only) ∙ ap (λ k. flat_map f (take k ws)) (sym (add-one n))
    where
      set_more : (us : List Shows) (n : ℕ) (old new : Shows) → slice_get us n ≡ Some old → flat_map f (take n us) ++ f new ≡ flat_map f (take (suc n) (slice_set us n new))
      set_more [] n old new there = absurd (cc)
      set_more (u ∷ us) zero old new there = sym (append-nil (f new))
      set_more (u ∷ us) (suc n) old new there = append_assoc (f u) (flat_map f (take n us)) (f new) ∙ ap (λ l. f u ++ l) (set_more us n old new there)

  pub found_all : (ws : List Shows) (n : ℕ) → length ws ≤ n → flat_map f (take n ws) ≡ flat_map f ws
  found_all [] zero l = refl
  found_all [] (suc n) l = refl
  found_all (w ∷ ws) zero l = absurd (omega arith)
  found_all (w ∷ ws) (suc n) l = ap (λ xs. f w ++ xs) (found_all ws n (omega arith))

-- ---- as the code knows it
pub map_same : {X : Type 0} (xs : List X) → map (λ x. x) xs ≡ xs
map_same [] = refl
map_same (x ∷ xs) = ap (λ l. x ∷ l) (map_same xs)

pub on_ok : {A E : Type 0} (r : Result A E) (P : Type 0) → is_err r ≡ false → OnOk r P → P
on_ok (Ok a) P is p = p
on_ok (Err e) P is p = absurd (cc)
