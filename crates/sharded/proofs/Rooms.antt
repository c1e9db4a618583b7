-- The least room of the first passes.
use Rattle.std.proofs.Common.{◌≡◌, ◌≢◌, ◌⊎◌, inl, inr, ℕ, ◌+◌, ◌<◌, ◌≤◌, ◌==◌, true, false, List, length, Some, slice_get, min, refl, ap, sym, subst, ◌∙◌, arith}
use Rattle.std.proofs.lemmas.Option.{slice_get_within}
use Rattle.std.proofs.lemmas.Bool.Decides.{eqb_tells}
use Rattle.history.specs.History.{IsLegal}
use Rattle.shared.specs.Passes.{Shows}
use Rattle.sharded.specs.Passes.{HasRoomOfOne, AreLone, HaveLegalHistories}
use Rattle.sharded.proofs.Steps.{same_some}

pub record LeastOf (vs : List Shows) (n least : ℕ) : Type 0 where
  pub range : (1 ≤ least) × (least ≤ 64)
  pub some : (least ≡ 64) ⊎ ((k : ℕ) × (v : Shows) × (slice_get vs k ≡ Some v) × (least ≡ v.room))
  pub each : (k : ℕ) (v : Shows) → k < n → slice_get vs k ≡ Some v → (least ≤ v.room) × (v.room ≤ 64) × IsLegal v.store.width v.seen

pub least_none : (vs : List Shows) → LeastOf vs 0 64
least_none vs = record { range = (omega arith, omega arith); some = inl refl; each = λ k v l e. absurd (omega arith) }

pub least_more : (vs : List Shows) (n least room : ℕ) (v : Shows) → slice_get vs n ≡ Some v → room ≡ v.room → (1 ≤ room) × (room ≤ 64) → IsLegal v.store.width v.seen → LeastOf vs n least → LeastOf vs (n + 1) (min least room)
least_more vs n least room v there is range legal so = record { range = (omega (arith, so.range.0, range.0), omega (arith, so.range.1)); some = one (eqb_tells (min least room) least); each = λ k x l e. by k x l e (eqb_tells k n) }
  where
    one : (((min least room == least) ≡ true) × (min least room ≡ least)) ⊎ (((min least room == least) ≡ false) × (min least room ≢ least))
        → (min least room ≡ 64) ⊎ ((k : ℕ) × (x : Shows) × (slice_get vs k ≡ Some x) × (min least room ≡ x.room))
    one (inl (t, same)) = subst (λ m. (m ≡ 64) ⊎ ((k : ℕ) × (x : Shows) × (slice_get vs k ≡ Some x) × (m ≡ x.room))) (sym same) so.some
    one (inr (t, other)) = inr (n, v, there, omega (arith, other, is))

    by : (k : ℕ) (x : Shows) → k < n + 1 → slice_get vs k ≡ Some x → (((k == n) ≡ true) × (k ≡ n)) ⊎ (((k == n) ≡ false) × (k ≢ n)) → (min least room ≤ x.room) × (x.room ≤ 64) × IsLegal x.store.width x.seen
    by k x l e (inl (t, same)) =
        let it : v ≡ x = same_some v x (slice_get vs n) there (ap (slice_get vs) (sym same) ∙ e) in
        subst (λ (y : Shows). (min least room ≤ y.room) × (y.room ≤ 64) × IsLegal y.store.width y.seen) it (omega (arith, is), omega (arith, is, range.1), legal)
    by k x l e (inr (t, other)) =
        let had = so.each k x (omega (arith, l, other)) e in (omega (arith, had.0), had.1, had.2)

pub least_lone : (vs : List Shows) (least : ℕ) → LeastOf vs (length vs) least → least ≡ 64 → AreLone vs
least_lone vs least so full k v e = let had = so.each k v (slice_get_within vs k v e) e in omega (arith, had.0, had.1, full)

pub least_legal : (vs : List Shows) (least : ℕ) → LeastOf vs (length vs) least → HaveLegalHistories vs
least_legal vs least so k v e = (so.each k v (slice_get_within vs k v e) e).2

pub least_least : (vs : List Shows) (least : ℕ) → LeastOf vs (length vs) least → (k : ℕ) (v : Shows) → slice_get vs k ≡ Some v → least ≤ v.room
least_least vs least so k v e = (so.each k v (slice_get_within vs k v e) e).0

-- ---- as the code knows it
pub least_all : (vs : List Shows) (n least : ℕ) → length vs ≤ n → LeastOf vs n least → LeastOf vs (length vs) least
least_all vs n least l so = record { range = so.range; some = so.some; each = λ k v below e. so.each k v (omega (arith, below, l)) e }

pub least_some : (vs : List Shows) (least : ℕ) → LeastOf vs (length vs) least → (least ≡ 64) ⊎ ((k : ℕ) × (v : Shows) × (slice_get vs k ≡ Some v) × (least ≡ v.room))
least_some vs least so = so.some

-- ---- a pass that can't be split
pub one_left : (vs : List Shows) (least : ℕ) → 1 ≤ least → (least ≡ 64) ⊎ ((k : ℕ) × (v : Shows) × (slice_get vs k ≡ Some v) × (least ≡ v.room)) → least ≤ 1 → HasRoomOfOne vs
one_left vs least few (inl full) l = absurd (omega (arith, full, l))
one_left vs least few (inr (k, v, there, is)) l = (k, v, there, omega (arith, is, few, l))

pub none_left : (vs : List Shows) (least : ℕ) → ((k : ℕ) (v : Shows) → slice_get vs k ≡ Some v → least ≤ v.room) → 1 < least → HasRoomOfOne vs → ⊥
none_left vs least each l (k, v, there, one) = let had = each k v there in absurd (omega (arith, had, l, one))
