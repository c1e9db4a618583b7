-- Acts of one shard in a list of many, counts of shards, and indices below a length.
use Rattle.std.proofs.Common.{◌≡◌, ◌≢◌, ℕ, zero, suc, ◌+◌, ◌<◌, ◌≤◌, ◌==◌, ne_eqb, eq-eqb, cond, nat_lt, Bool, true, false, List, [], ◌∷◌, ◌++◌, length, count_by, refl, ap, ◌∙◌, arith, append-nil}
use Rattle.std.proofs.lemmas.List.Sums.{sum_by-cons}
use Rattle.std.proofs.lemmas.Bool.Decides.{nat_tests}
use Rattle.ledger.specs.declared.view.ShardAct.{ShardAct}
use Rattle.ledger.specs.declared.view.ShardActs.{ShardActs}
use Rattle.ledger.specs.Acts.{as_shard_acts, acts_at, times, once_below, indices}
use Rattle.ledger.specs.Rule.{first_of, rest_of}

module _ {A : Type 0} where
  cond-append : (b : Bool) (x : A) (xs ys : List A) → cond b (x ∷ (xs ++ ys)) (xs ++ ys) ≡ cond b (x ∷ xs) xs ++ ys
  cond-append true x xs ys = refl
  cond-append false x xs ys = refl

  pub acts_at-append : (k : ℕ) (xs ys : List (ShardAct A)) → acts_at k (xs ++ ys) ≡ acts_at k xs ++ acts_at k ys
  acts_at-append k [] ys = refl
  acts_at-append k (d ∷ ds) ys =
      ap (λ (l : List A). cond (d.shard == k) (d.act ∷ l) l) (acts_at-append k ds ys)
      ∙ cond-append (d.shard == k) d.act (acts_at k ds) (acts_at k ys)

  pub acts_at-here : (k : ℕ) (acts : List A) → acts_at k (as_shard_acts k acts) ≡ acts
  acts_at-here k [] = refl
  acts_at-here k (act ∷ acts) =
      ap {B = List A} (λ (b : Bool). cond b (act ∷ acts_at k (as_shard_acts k acts)) (acts_at k (as_shard_acts k acts))) (eq-eqb k k refl)
      ∙ ap (λ (l : List A). act ∷ l) (acts_at-here k acts)

  pub acts_at-else : (j k : ℕ) (acts : List A) → j ≢ k → acts_at k (as_shard_acts j acts) ≡ []
  acts_at-else j k [] apart = refl
  acts_at-else j k (act ∷ acts) apart =
      ap {B = List A} (λ (b : Bool). cond b (act ∷ acts_at k (as_shard_acts j acts)) (acts_at k (as_shard_acts j acts))) (ne_eqb j k apart)
      ∙ acts_at-else j k acts apart

  -- more acts of a shard
  pub acts_at-more : (k : ℕ) (list : List (ShardAct A)) (acts : List A) → acts_at k (list ++ as_shard_acts k acts) ≡ acts_at k list ++ acts
  acts_at-more k list acts = acts_at-append k list (as_shard_acts k acts) ∙ ap (λ (l : List A). acts_at k list ++ l) (acts_at-here k acts)

  -- more acts of another shard
  pub acts_at-same : (j k : ℕ) (list : List (ShardAct A)) (acts : List A) → j ≢ k → acts_at k (list ++ as_shard_acts j acts) ≡ acts_at k list
  acts_at-same j k list acts apart =
      acts_at-append k list (as_shard_acts j acts)
      ∙ (ap (λ (l : List A). acts_at k list ++ l) (acts_at-else j k acts apart) ∙ append-nil (acts_at k list))

  pub length-acts : (k : ℕ) (acts : List A) → length (as_shard_acts k acts) ≡ length acts
  length-acts k [] = refl
  length-acts k (act ∷ acts) = ap suc (length-acts k acts)

  pub keepers-split : (k : ℕ) (kept : List (ShardActs A)) → count_by (λ d. d.shard == k) (rest_of kept) + count_by (λ d. d.shard == k) (first_of kept) ≡ count_by (λ d. d.shard == k) kept
  keepers-split k [] = refl
  keepers-split k (d ∷ ds) = omega (arith, sum_by-cons (λ (x : ShardActs A). cond {A = ℕ} (x.shard == k) 1 0) d ds, sum_by-cons (λ (x : ShardActs A). cond {A = ℕ} (x.shard == k) 1 0) d [])

pub once_below-suc : (n p : ℕ) → once_below (n + 1) p ≡ once_below n p + cond (n == p) 1 0
once_below-suc n p = grind (arith, nat_tests)

pub once_below-le : (n p : ℕ) → once_below n p ≤ 1
once_below-le n p = cond_le (nat_lt p n)
  where
    cond_le : (b : Bool) → cond {A = ℕ} b 1 0 ≤ 1
    cond_le true = omega arith
    cond_le false = omega arith

pub once_below-past : (n p : ℕ) → n ≤ p → once_below n p ≡ 0
once_below-past n p past = grind (arith, nat_tests)

pub once_below-here : (n p : ℕ) → p < n → once_below n p ≡ 1
once_below-here n p inside = grind (arith, nat_tests)

-- the indices from n on, so many, are those below their end that aren't below n
pub times-indices : (n m p : ℕ) → times p (indices n m) + once_below n p ≡ once_below (n + m) p
times-indices n zero p =
    let up : once_below n p ≡ once_below (n + 0) p = ap (λ (x : ℕ). once_below x p) (omega arith) in
    omega arith
times-indices n (suc m) p =
    let rest = times-indices (suc n) m p in
    let first = sum_by-cons (λ (q : ℕ). cond {A = ℕ} (q == p) 1 0) n (indices (suc n) m) in
    let more = once_below-suc n p in
    let next : once_below (suc n) p ≡ once_below (n + 1) p = ap (λ (x : ℕ). once_below x p) (omega arith) in
    let end : once_below (suc n + m) p ≡ once_below (n + suc m) p = ap (λ (x : ℕ). once_below x p) (omega arith) in
    omega arith
