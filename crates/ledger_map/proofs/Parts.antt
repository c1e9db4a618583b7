-- The calls of all shards, in the order of the ledger: those on names of a shard are the shard's.
use Rattle.std.proofs.Common.{◌≡◌, ◌≢◌, ◌⊎◌, inl, inr, ℕ, ◌==◌, cond, Bool, true, false, List, [], ◌∷◌, ◌++◌, map, filter, refl, ap, sym, subst, ◌∙◌}
use Rattle.std.proofs.lemmas.Bool.{eq-eqb}
use Rattle.std.proofs.lemmas.Bool.Decides.{eqb_tells}
use Rattle.history.specs.History.{Event, History}
use Rattle.book.specs.Serial.{Act, call, trim, events_in}
use Rattle.ledger.specs.declared.view.ShardAct.{ShardAct}
use Rattle.ledger.specs.Acts.{acts_at}
use Rattle.ledger_map.specs.Legal.{calls_of, AreCallsAt}

module _ (shard : Event → ℕ) where
  abbrev part : ℕ → History → History
  part k h = filter (λ e. shard e == k) h

  -- each act stands at its shard
  abbrev AreAtShards : List (ShardAct Act) → Type 0
  AreAtShards [] = Unit {0}
  AreAtShards (d ∷ ds) = AreCallsAt shard d.shard (events_in (d.act ∷ [])) × AreAtShards ds

  calls_first : (k : ℕ) (act : Act) (acts : List Act) → AreCallsAt shard k (events_in (act ∷ acts)) → AreCallsAt shard k (events_in (act ∷ [])) × AreCallsAt shard k (events_in acts)
  calls_first k (call e) acts c = ((c.0, tt), c.1)
  calls_first k (trim n) acts c = (tt, c)

  abbrev Told : ℕ → ℕ → Type 0
  Told j k = (((j == k) ≡ true) × (j ≡ k)) ⊎ (((j == k) ≡ false) × (j ≢ k))

  at_shards : (list : List (ShardAct Act)) → ((k : ℕ) → AreCallsAt shard k (events_in (acts_at k list))) → AreAtShards list
  at_shards [] all = tt
  at_shards (d ∷ ds) all = (
    (calls_first d.shard d.act (acts_at d.shard ds) (subst (λ (b : Bool). AreCallsAt shard d.shard (events_in (cond b (d.act ∷ acts_at d.shard ds) (acts_at d.shard ds)))) (eq-eqb d.shard d.shard refl) (all d.shard))).0,
    at_shards ds (λ k. less k (eqb_tells d.shard k)),
  )
    where
      less : (k : ℕ) → Told d.shard k → AreCallsAt shard k (events_in (acts_at k ds))
      less k (inl (t, same)) = (calls_first k d.act (acts_at k ds) (subst (λ (b : Bool). AreCallsAt shard k (events_in (cond b (d.act ∷ acts_at k ds) (acts_at k ds)))) t (all k))).1
      less k (inr (t, apart)) = subst (λ (b : Bool). AreCallsAt shard k (events_in (cond b (d.act ∷ acts_at k ds) (acts_at k ds)))) t (all k)

  more : (k j : ℕ) (act : Act) (acts : List Act) (h : History) → AreCallsAt shard j (events_in (act ∷ [])) → Told j k → part k h ≡ events_in acts → part k (events_in (act ∷ []) ++ h) ≡ events_in (cond (j == k) (act ∷ acts) acts)
  more k j (trim n) acts h at (inl (t, same)) rest = rest ∙ ap (λ (b : Bool). events_in (cond b (trim n ∷ acts) acts)) (sym t)
  more k j (trim n) acts h at (inr (t, apart)) rest = rest ∙ ap (λ (b : Bool). events_in (cond b (trim n ∷ acts) acts)) (sym t)
  more k j (call e) acts h at (inl (t, same)) rest =
      ap (λ (b : Bool). cond b (e ∷ part k h) (part k h)) (eq-eqb (shard e) k (at.0 ∙ same))
      ∙ (ap (λ (l : History). e ∷ l) rest ∙ ap (λ (b : Bool). events_in (cond b (call e ∷ acts) acts)) (sym t))
  more k j (call e) acts h at (inr (t, apart)) rest = other (eqb_tells (shard e) k)
    where
      other : Told (shard e) k → part k (e ∷ h) ≡ events_in (cond (j == k) (call e ∷ acts) acts)
      other (inl (u, same)) = absurd (apart (sym at.0 ∙ same))
      other (inr (u, away)) =
          ap (λ (b : Bool). cond b (e ∷ part k h) (part k h)) u
          ∙ (rest ∙ ap (λ (b : Bool). events_in (cond b (call e ∷ acts) acts)) (sym t))

  calls-first : (act : Act) (acts : List Act) → events_in (act ∷ acts) ≡ events_in (act ∷ []) ++ events_in acts
  calls-first (call e) acts = refl
  calls-first (trim n) acts = refl

  part-at : (k : ℕ) (list : List (ShardAct Act)) → AreAtShards list → part k (calls_of list) ≡ events_in (acts_at k list)
  part-at k [] at = refl
  part-at k (d ∷ ds) at =
      ap (part k) (calls-first d.act (map (λ (x : ShardAct Act). x.act) ds))
      ∙ more k d.shard d.act (acts_at k ds) (calls_of ds) at.0 (eqb_tells d.shard k) (part-at k ds at.1)

  -- where the acts of each shard stand at it, the part of each shard in the one list is the shard's
  pub part-calls : (list : List (ShardAct Act)) → ((k : ℕ) → AreCallsAt shard k (events_in (acts_at k list))) → (k : ℕ) → filter (λ e. shard e == k) (calls_of list) ≡ events_in (acts_at k list)
  part-calls list all k = part-at k list (at_shards list all)
