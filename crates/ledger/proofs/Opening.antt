-- The first seat gives away one keeper after the other.
use Rattle.std.proofs.Common.{◌≡◌, ℕ, suc, ◌+◌, ◌-◌, ◌<◌, List, [], ◌∷◌, ◌++◌, ap, ◌∙◌, arith}
use Rattle.atomic_table.specs.Table.{Me}
use Rattle.ledger.specs.declared.view.ShardActs.{ShardActs}
use Rattle.ledger.specs.declared.view.View.{View}
use Rattle.ledger.specs.Acts.{TableId, KeeperState, shard_acts, new_keepers}
use Rattle.ledger.specs.Rule.{nothing, settled, empty_from, rest_of, first_of, less_one, one_keeper, keeps}

-- what the first seat is once it has given away k keepers of so many
abbrev pub given_away : {S A : Type 0} → ℕ → ℕ → Me S (View A)
given_away k count = (settled nothing 64 (empty_from k (count - k)), [])

module _ {A : Type 0} where
  empty_next : (k count : ℕ) → k < count → empty_from {A = A} k (count - k) ≡ shard_acts k [] ∷ empty_from (k + 1) (count - (k + 1))
  empty_next k count more =
      let left : count - k ≡ suc (count - (k + 1)) = omega arith in
      let next : suc k ≡ k + 1 = omega arith in
      ap (λ (n : ℕ). empty_from {A = A} k n) left
      ∙ ap (λ (i : ℕ). shard_acts k [] ∷ empty_from {A = A} i (count - (k + 1))) next

  pub keepers_next : (id : TableId) (k : ℕ) (xs : List (KeeperState A)) (x : KeeperState A) → xs ≡ new_keepers id k → x ≡ record { ledger = id; shard = k; acts = [] } → xs ++ x ∷ [] ≡ new_keepers id (k + 1)
  keepers_next id k xs x is here =
      let next : suc k ≡ k + 1 = omega arith in
      (λ i. is i ++ here i ∷ [])
      ∙ ap (λ (n : ℕ). new_keepers {A = A} id n) next

module _ {S A : Type 0} where
  pub gives_next : (k count : ℕ) (me : Me S (View A)) → k < count → me ≡ given_away k count → (less_one me.0, me.1) ≡ given_away {S = S} {A = A} (k + 1) count
  gives_next k count me more is =
      ap (λ (m : Me S (View A)). (less_one m.0, m.1)) is
      ∙ ap (λ (kept : List (ShardActs A)). (settled nothing 64 (rest_of kept), [])) (empty_next k count more)

  pub gives_keeper : (k count : ℕ) (me : Me S (View A)) → k < count → me ≡ given_away k count → one_keeper me.0 ≡ keeps (shard_acts k [])
  gives_keeper k count me more is =
      ap (λ (m : Me S (View A)). one_keeper m.0) is
      ∙ ap (λ (kept : List (ShardActs A)). settled nothing 0 (first_of kept)) (empty_next k count more)
