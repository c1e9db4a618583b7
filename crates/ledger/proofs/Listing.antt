-- A visit of a shard's lock.
use Rattle.std.proofs.Common.{◌≡◌, ℕ, false, List, [], ◌∷◌, ◌++◌, length, Some, ap, sym, subst, ◌∙◌}
use mathlib.Core.List.{IsPrefix}
use Rattle.gate.specs.Places.{SeatState, last_of, IsChain, HasAll}
use Rattle.ledger.specs.declared.held.Held.{Held}
use Rattle.ledger.specs.Acts.{TableId, KeeperState, FollowerState, IsRecorded}
use Rattle.ledger.specs.Values.{MayFollowHeld, KeepsAll, acts_to, left_beside}
use Rattle.ledger.specs.Visits.{beside, IsListedVisit}
use Rattle.ledger.proofs.Values.{acts_to-last}

module _ {T A O : Type 0} (between : T → T → List A) (follows : T → T → Type 0) (does : T → T → O → Type 0) (table : TableId) where
  -- the keeper beside the last value is of the ledger
  pub keeper_ledger : (list : List (Held T A)) (x : Held T A) → (k : ℕ) × KeepsAll between table k list → last_of list ≡ Some x → x.keeper.ledger ≡ table
  keeper_ledger list x keeps found =
      let all = keeps.1 in
      let both : Some all.0 ≡ Some x = sym all.1 ∙ found in
      let same : all.0 ≡ x = cc in
      ap (λ (h : Held T A). h.keeper.ledger) (sym same) ∙ ap (λ (q : KeeperState A). q.ledger) all.2

  pub listed : (p m q : SeatState (Held T A)) (v w : FollowerState A) (x : Held T A) (y : T) (result : O)
      → (m.gate ≡ p.gate) × (m.room ≡ p.room) × (m.own ≡ p.own) → IsPrefix p.list m.list × IsChain (MayFollowHeld between follows) m.list → last_of m.list ≡ Some x → (p.room ≡ 64 → HasAll m.list m.own)
      → does x.value y result → (q.gate ≡ m.gate) × (q.room ≡ m.room) × (q.inside ≡ false) → q.list ≡ m.list ++ left_beside (beside x y) (acts_to between m.list y) ∷ [] → q.own ≡ m.own ++ length m.list ∷ []
      → ((k : ℕ) → KeepsAll between table k p.list → KeepsAll between table k q.list) → IsRecorded v x.keeper (acts_to between m.list y) w → (w.ledger ≡ v.ledger) × (w.room ≡ v.room)
      → IsListedVisit between follows does table p q v w result
  listed p m q v w x y result same seen found lone did left list own keeps recorded follower =
      let acts : acts_to between m.list y ≡ between x.value y = acts_to-last between m.list x y found in
      record {
        before = m.list;
        found = x;
        left = y;
        seen = seen.0;
        chain = seen.1;
        last = found;
        did = did;
        list = list ∙ ap (λ (l : List A). m.list ++ left_beside (beside x y) l ∷ []) acts;
        own = own ∙ ap (λ (l : List ℕ). l ++ length m.list ∷ []) same.2;
        same = (left.0 ∙ same.0, left.1 ∙ same.1, left.2);
        lone = λ all. subst (HasAll m.list) same.2 (lone all);
        keeps = keeps;
        recorded = subst (λ (l : List A). IsRecorded v x.keeper l w) acts recorded;
        follower = follower;
      }
