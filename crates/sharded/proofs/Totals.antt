-- The totals over the first shards, and over one more.
use Rattle.std.proofs.Common.{◌≡◌, ℕ, zero, suc, ◌+◌, ◌-◌, ◌≤◌, List, [], ◌∷◌, length, take, min, Some, Result, Ok, Err, IfOk, slice_get, slice_set, refl, ap, sym, subst, ◌∙◌, arith, add-one}
use Rattle.std.specs.FinMap as finite
use Rattle.std.specs.List.{sum_by}
use Rattle.std.proofs.lemmas.List.Sums.{sum_by-cons}
use Rattle.sealed.specs.declared.fault.Fault.{Fault}
use Rattle.history.specs.History.{state_of}
use Rattle.book.specs.Plan.{plan_of}
use Rattle.book.specs.Numbers.{AreNumbersOf, capped, open_stripes, sum_of}
use Rattle.book.specs.Trimming.{journaled}
use Rattle.book.specs.declared.numbers.Numbers.{Numbers}
use Rattle.book.proofs.Counting.{open_decided}
use Rattle.shared.specs.Passes.{Which, Shows}
use Rattle.sharded.specs.Totals.{AreNumbersAt, AreSumsOfAll, capped_sum}

-- ---- a sum that is cut off
cut_once : (m s b : ℕ) → min (min s m + b) m ≡ min (s + b) m
cut_once m s b = grind arith

cut_both : (m s b : ℕ) → min (min s m + min b m) m ≡ min (s + b) m
cut_both m s b = grind arith

plus_assoc : (a b c : ℕ) → a + b + c ≡ a + (b + c)
plus_assoc a b c = omega arith

-- ---- sums over passes
module _ (f : Shows → ℕ) where
  set_more : (us : List Shows) (n : ℕ) (old new : Shows) → slice_get us n ≡ Some old → sum_by f (take n us) + f new ≡ sum_by f (take (suc n) (slice_set us n new))
  set_more [] n old new there = absurd (cc)
  set_more (u ∷ us) zero old new there = refl
  set_more (u ∷ us) (suc n) old new there =
      ap (λ (k : ℕ). k + f new) (sum_by-cons f u (take n us)) ∙ plus_assoc (f u) (sum_by f (take n us)) (f new)
      ∙ ap (λ (k : ℕ). f u + k) (set_more us n old new there) ∙ sym (sum_by-cons f u (take (suc n) (slice_set us n new)))

  sum_more : (us ws : List Shows) (n : ℕ) (old new : Shows) → slice_get us n ≡ Some old → ws ≡ slice_set us n new → sum_by f (take n us) + f new ≡ sum_by f (take (n + 1) ws)
  sum_more us ws n old new there only = set_more us n old new there ∙ (λ i. sum_by f (take (sym (add-one n) i) (sym only i)))

  -- a total is cut off, and so is what is added, or not
  total_exact : (us ws : List Shows) (n : ℕ) (old new : Shows) (t x : ℕ) → slice_get us n ≡ Some old → ws ≡ slice_set us n new → t ≡ capped (sum_by f (take n us)) → x ≡ f new → capped (t + x) ≡ capped (sum_by f (take (n + 1) ws))
  total_exact us ws n old new t x there only e is = (λ i. capped (e i + is i)) ∙ cut_once _ (sum_by f (take n us)) (f new) ∙ ap capped (sum_more us ws n old new there only)

  total_cut : (us ws : List Shows) (n : ℕ) (old new : Shows) (t x : ℕ) → slice_get us n ≡ Some old → ws ≡ slice_set us n new → t ≡ capped (sum_by f (take n us)) → x ≡ capped (f new) → capped (t + x) ≡ capped (sum_by f (take (n + 1) ws))
  total_cut us ws n old new t x there only e is = (λ i. capped (e i + is i)) ∙ cut_both _ (sum_by f (take n us)) (f new) ∙ ap capped (sum_more us ws n old new there only)

-- ---- the numbers of a shard
-- as its pass then shows it, which is at this store
pub numbers_at : (v : Shows) (store : Which) (n : Numbers) → v.store ≡ store → AreNumbersOf store.width v.seen n → n.entries ≡ journaled store.limit (length v.seen - v.trimmed) → AreNumbersAt v n
numbers_at v store n is told entries = record {
  holds = subst (λ (s : Which). AreNumbersOf s.width v.seen n) (sym is) told;
  entries = subst (λ (s : Which). n.entries ≡ journaled s.limit (length v.seen - v.trimmed)) (sym is) entries;
}

pub numbers_found : (v : Shows) (store : Which) (r : Result Numbers Fault) → v.store ≡ store → IfOk r (AreNumbersOf store.width v.seen) → IfOk r (λ n. n.entries ≡ journaled store.limit (length v.seen - v.trimmed)) → IfOk r (AreNumbersAt v)
numbers_found v store (Ok n) is told entries = numbers_at v store n is told entries
numbers_found v store (Err e) is told entries = tt

-- ---- the totals
pub totals_none : AreSumsOfAll [] (record { blobs = 0; bytes = 0; lost = 0; unrecoverable = 0; calls = 0; entries = 0 })
totals_none = record { blobs = refl; bytes = refl; lost = refl; unrecoverable = refl; decided = open_decided; calls = refl; entries = refl }

pub totals_more : (us ws : List Shows) (n : ℕ) (old new : Shows) (t m : Numbers) → slice_get us n ≡ Some old → ws ≡ slice_set us n new → AreSumsOfAll (take n us) t → AreNumbersAt new m → AreSumsOfAll (take (n + 1) ws) (capped_sum t m)
totals_more us ws n old new t m there only so at = record {
  blobs = total_exact (λ v. length (finite.entries (state_of v.seen).names)) us ws n old new t.blobs m.blobs there only so.blobs at.holds.blobs;
  bytes = total_cut (λ v. sum_of (λ blob. length blob.bytes) (state_of v.seen)) us ws n old new t.bytes m.bytes there only so.bytes at.holds.bytes;
  lost = total_cut (λ v. length (plan_of (state_of v.seen))) us ws n old new t.lost m.lost there only so.lost at.holds.lost;
  unrecoverable = total_cut (λ v. sum_of (open_stripes v.store.width) (state_of v.seen)) us ws n old new t.unrecoverable m.unrecoverable there only so.unrecoverable at.holds.unrecoverable;
  decided = open_decided;
  calls = total_exact (λ v. length v.seen) us ws n old new t.calls m.calls there only so.calls at.holds.calls;
  entries = total_exact (λ v. journaled v.store.limit (length v.seen - v.trimmed)) us ws n old new t.entries m.entries there only so.entries at.entries;
}

take_whole : {X : Type 0} (xs : List X) (n : ℕ) → length xs ≤ n → take n xs ≡ xs
take_whole [] zero l = refl
take_whole [] (suc n) l = refl
take_whole (x ∷ xs) zero l = absurd (omega arith)
take_whole (x ∷ xs) (suc n) l = ap (λ ys. x ∷ ys) (take_whole xs n (omega arith))

pub totals_all : (ws : List Shows) (n : ℕ) (t : Numbers) → length ws ≤ n → AreSumsOfAll (take n ws) t → AreSumsOfAll ws t
totals_all ws n t l so = subst (λ xs. AreSumsOfAll xs t) (take_whole ws n l) so
