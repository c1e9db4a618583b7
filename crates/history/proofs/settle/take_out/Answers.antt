use Rattle.std.proofs.Common.{◌≡◌, ℕ, Bool, true, false, not, ◌||◌, List, sym, ap, ◌∙◌, map}
use Rattle.std.specs.Option.{is_some}
use Rattle.std.specs.BTreeMap.{get}
use Rattle.std.proofs.lemmas.Bool.{or_right}
use Rattle.history.specs.Names.{name_cmp}
use Rattle.history.specs.Parts.{can_change, name_of}
use Rattle.history.proofs.Settling.{out_stays, out_goes}
use Rattle.history.proofs.Shapes.{within, named_at}
use Rattle.history.proofs.settle.take_out.Goals as goal
use Rattle.history.proofs.settle.take_out.Goals.{then-not-can_change-via-then-not-can_change, then-not-can_change-via-else-not-can_change+then-contains_key}

pub loop-entry-preserved-then-not-can_change : goal.loop-entry-preserved-then-not-can_change
loop-entry-preserved-then-not-can_change c =
    let e = c.entry-item.result.now in
    let all_of = map (λ x. x.now) c.args.entries.now in
    let low = within c.args.entries.now c.loop-entry.entry-index (λ x. x.now) c.loop-entry-test.true in
    let at = named_at c.args.entries.now c.loop-entry.entry-index c.entry-item.result (λ x. x.now) c.loop-entry-test.true c.entry-item.is in
    let here : List ℕ → Bool = λ n. is_some (get name_cmp c.args.part.now n) in
    let t : (not (can_change e.call) || here (name_of e.call)) ≡ true =
    elim c.then-not-can_change.branch [
      | then-not-can_change-via-then-not-can_change w ↦ ap (λ b. not b || here (name_of e.call)) (sym c.can_change.ensures ∙ w.if-not-can_change.true)
      | then-not-can_change-via-else-not-can_change+then-contains_key w ↦
          or_right (not (can_change e.call)) _ (sym (ap here c.name-name.ensures) ∙ sym w.contains_key.ensures ∙ w.if-contains_key.true)
    ] in
    record {
      names = λ q. out_stays c.args.part.now all_of c.loop-entry.entry-index e low at t q _ _ (c.loop-entry.invariant.names q);
      ordered = c.loop-entry.invariant.ordered;
    }

pub loop-entry-preserved : goal.loop-entry-preserved
loop-entry-preserved c =
    let e = c.entry-item.result.now in
    let all_of = map (λ x. x.now) c.args.entries.now in
    let low = within c.args.entries.now c.loop-entry.entry-index (λ x. x.now) c.loop-entry-test.true in
    let at = named_at c.args.entries.now c.loop-entry.entry-index c.entry-item.result (λ x. x.now) c.loop-entry-test.true c.entry-item.is in
    let here : List ℕ → Bool = λ n. is_some (get name_cmp c.args.part.now n) in
    let may : can_change e.call ≡ true = sym c.can_change.ensures ∙ c.if-not-can_change.false in
    let none : here (name_of e.call) ≡ false = sym (ap here c.name-name.ensures) ∙ sym c.contains_key.ensures ∙ c.if-contains_key.false in
    let t : (not (can_change e.call) || here (name_of e.call)) ≡ false = λ i. not (may i) || none i in
    record {
      names = λ q. out_goes c.args.part.now all_of c.loop-entry.entry-index e low at t _ c.name-name.ensures q _ _ _ (c.loop-entry.invariant.names q) (c.remove.ensures.updates.0 q);
      ordered = λ h. c.remove.ensures.ordered;
    }
