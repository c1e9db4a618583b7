use Rattle.std.proofs.Common.{◌≡◌, ℕ, Bool, true, not, ◌&&◌, ◌||◌, List, take, rules, None, Some, cond, sym, ap, ◌∙◌, subst, map}
use Rattle.std.specs.Option.{is_some}
use Rattle.std.specs.BTreeMap.{get, is_at}
use Rattle.std.specs.Ordering.{eq_by_cmp}
use Rattle.std.proofs.lemmas.Bool.{or_right}
use Rattle.history.specs.Names.{name_cmp}
use Rattle.history.specs.Parts.{can_change, name_of, is_changed}
use Rattle.history.proofs.Replaying.{at_is, rise_with}
use Rattle.history.proofs.Settling.{tied, changed_more, part_stay, part_none, part_put}
use Rattle.history.proofs.Shapes.{within, named_at}
use Rattle.history.proofs.replay.Replay.part.Goals as goal
use Rattle.history.proofs.replay.Replay.part.Goals.{then-not-can_change-via-then-not-can_change, then-not-can_change-via-else-not-can_change+then-contains_key}

pub loop-entry-preserved-then-not-can_change : goal.loop-entry-preserved-then-not-can_change
loop-entry-preserved-then-not-can_change c =
    let e = c.entry-item.result.now in
    let all_of = map (λ x. x.now) c.args.entries.now in
    let low = within c.args.entries.now c.loop-entry.entry-index (λ x. x.now) c.loop-entry-test.true in
    let placed = named_at c.args.entries.now c.loop-entry.entry-index c.entry-item.result (λ x. x.now) c.loop-entry-test.true c.entry-item.is in
    let n = name_of e.call in
    let here : List ℕ → Bool = λ m. is_some (get name_cmp c.loop-entry.names m) in
    let t : (not (can_change e.call) || here n) ≡ true =
    elim c.then-not-can_change.branch [
      | then-not-can_change-via-then-not-can_change w ↦ ap (λ b. not b || here n) (sym c.can_change.ensures ∙ w.if-not-can_change.true)
      | then-not-can_change-via-else-not-can_change+then-contains_key w ↦
          or_right (not (can_change e.call)) _ (sym (ap here c.name-name.ensures) ∙ sym w.contains_key.ensures ∙ w.if-contains_key.true)
    ] in
    record {
      names = λ q. part_stay _ (can_change e.call) (eq_by_cmp name_cmp q n) (get name_cmp c.args.all.now q) (get name_cmp c.loop-entry.names q) (c.loop-entry.invariant.names q)
          (λ same. subst (λ m. (not (can_change e.call) || here m) ≡ true) (tied n q (at_is n q ∙ same)) t)
          ∙ ap (λ b. cond b (get name_cmp c.args.all.now q) None) (sym (changed_more all_of c.loop-entry.entry-index e q low placed));
      rising = c.loop-entry.invariant.rising;
    }

pub loop-entry-preserved-in_default : goal.loop-entry-preserved-in_default
loop-entry-preserved-in_default c =
    let e = c.entry-item.result.now in
    let all_of = map (λ x. x.now) c.args.entries.now in
    let low = within c.args.entries.now c.loop-entry.entry-index (λ x. x.now) c.loop-entry-test.true in
    let placed = named_at c.args.entries.now c.loop-entry.entry-index c.entry-item.result (λ x. x.now) c.loop-entry-test.true c.entry-item.is in
    let n = name_of e.call in
    let all = c.args.all.now in
    let none : get name_cmp all c.name-name.result.now ≡ None = search rules in
    record {
      names = λ q. part_none _ (can_change e.call) (eq_by_cmp name_cmp q n) (get name_cmp all q) (get name_cmp c.loop-entry.names q) (c.loop-entry.invariant.names q)
          (λ same. ap (get name_cmp all) (sym (tied n q (at_is n q ∙ same)) ∙ sym c.name-name.ensures) ∙ none)
          ∙ ap (λ b. cond b (get name_cmp all q) None) (sym (changed_more all_of c.loop-entry.entry-index e q low placed));
      rising = c.loop-entry.invariant.rising;
    }

pub loop-entry-preserved : goal.loop-entry-preserved
loop-entry-preserved c =
    let e = c.entry-item.result.now in
    let all_of = map (λ x. x.now) c.args.entries.now in
    let low = within c.args.entries.now c.loop-entry.entry-index (λ x. x.now) c.loop-entry-test.true in
    let placed = named_at c.args.entries.now c.loop-entry.entry-index c.entry-item.result (λ x. x.now) c.loop-entry-test.true c.entry-item.is in
    let n = name_of e.call in
    let k = c.in-Some.kept.now in
    let all = c.args.all.now in
    let was = c.loop-entry.names in
    let may : true ≡ can_change e.call = sym (sym c.can_change.ensures ∙ c.if-not-can_change.false) in
    let updates : (q : List ℕ) → get name_cmp c.insert.new.self q ≡ cond (is_at (name_cmp n) q) (Some k) (get name_cmp was q) =
    λ q. c.in-Ok.ensures.updates.0 q ∙ (λ i. cond (is_at (name_cmp ((c.duplicate-in-loop-entry.ensures ∙ c.name-name.ensures) i)) q) (Some (c.in_ok-kept.ensures.copy i)) (get name_cmp was q)) in
    let step = λ (q : List ℕ). updates q ∙ ap (λ b. cond b (Some k) (get name_cmp was q)) (at_is n q) in
    let found : get name_cmp all n ≡ Some k = ap (get name_cmp all) (sym c.name-name.ensures) ∙ sym c.in-Some.ensures.value in
    let A = λ (q : List ℕ). is_changed (take c.loop-entry.entry-index all_of) q in
    record {
      names = λ q. part_put (A q) (eq_by_cmp name_cmp q n) k (get name_cmp all q) (get name_cmp was q) _ (step q) (c.loop-entry.invariant.names q)
          (λ same. ap (get name_cmp all) (sym (tied n q (at_is n q ∙ same))) ∙ found)
          ∙ ap (λ b. cond (A q || (b && eq_by_cmp name_cmp q n)) (get name_cmp all q) None) may
          ∙ ap (λ b. cond b (get name_cmp all q) None) (sym (changed_more all_of c.loop-entry.entry-index e q low placed));
      rising = rise_with was c.insert.new.self n k updates c.duplicate.ensures.rising c.loop-entry.invariant.rising;
    }
