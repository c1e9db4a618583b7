use Rattle.std.proofs.Common.{◌≡◌, ◌+◌, ◌∷◌, Bool, true, false, IsTrue, drop, sym, ap, ◌∙◌, subst, map, arith}
use Rattle.history.specs.Metadata.{views_of, PairsRise}
use Rattle.history.specs.Parts.{changes_of}
use Rattle.history.specs.Views.{Views, IsNoted, AreNoted, all_next, next_views}
use Rattle.history.specs.declared.replay.Replay.{Replay}
use Rattle.history.proofs.Framing.{changes_at}
use Rattle.history.proofs.Shapes.{within, named_at}
use Rattle.history.proofs.replay.Replay.take_in.Goals as goal
use Rattle.history.proofs.replay.Replay.take_in.Goals.{then-can_change+else-not-expects+in_ok-apply, else-can_change}

refused : (b : Bool) → b ≡ false → IsTrue b → ⊥
refused b e t = grind arith

pub returns-then-not-expects-clause-views : goal.returns-then-not-expects-clause-views
returns-then-not-expects-clause-views c noted =
    let w = c.args.self.now.width in
    let v = views_of c.loop-entry.self in
    let e = c.entry-item.result.now in
    let i = c.loop-entry.entry-index in
    let es = map (λ x. x.now) c.args.entries.now in
    let low = within c.args.entries.now i (λ x. x.now) c.loop-entry-test.true in
    let placed = named_at c.args.entries.now i c.entry-item.result (λ x. x.now) c.loop-entry-test.true c.entry-item.is in
    let was = c.loop-entry.invariant in
    let split : changes_of (drop i es) ≡ e ∷ changes_of (drop (i + 1) es) = changes_at es i e low placed true (sym c.can_change.ensures ∙ c.if-can_change.true) in
    let here = (subst (AreNoted w v) split (was.noted noted)).0 in
    absurd (refused c.expects.result c.if-not-expects.true (c.expects.ensures.1 (subst (λ x. IsNoted x v e) (sym was.width) here)))

pub loop-entry-preserved : goal.loop-entry-preserved
loop-entry-preserved c =
    let w = c.args.self.now.width in
    let v = views_of c.loop-entry.self in
    let e = c.entry-item.result.now in
    let all_of = map (λ x. x.now) c.args.entries.now in
    let low = within c.args.entries.now c.loop-entry.entry-index (λ x. x.now) c.loop-entry-test.true in
    let placed = named_at c.args.entries.now c.loop-entry.entry-index c.entry-item.result (λ x. x.now) c.loop-entry-test.true c.entry-item.is in
    let i = c.loop-entry.entry-index in
    let es = all_of in
    let rest = changes_of (drop (i + 1) es) in
    let was = c.loop-entry.invariant in
    let at = changes_at es i e low placed in
    elim c.if-can_change.branch [
      | then-can_change+else-not-expects+in_ok-apply t ↦
          let split : changes_of (drop i es) ≡ e ∷ rest = at true (sym c.can_change.ensures ∙ t.if-can_change.true) in
          let after : views_of c.if-can_change.self ≡ next_views v e = ap views_of t.self-is ∙ t.in_ok-apply.ensures.views in
          record {
            width = ap (λ (r : Replay). r.width) t.self-is ∙ t.apply.ensures.width ∙ was.width;
            noted = λ a. subst (λ (x : Views). AreNoted w x rest) (sym after) (subst (AreNoted w v) split (was.noted a)).1;
            views = was.views ∙ ap (all_next v) split ∙ sym (ap (λ (x : Views). all_next x rest) after);
            rising = λ r. subst (λ (x : Replay). PairsRise x.names) (sym t.self-is) (t.in_ok-apply.ensures.rising (was.rising r));
          }
      | else-can_change t ↦
          let split : changes_of (drop i es) ≡ rest = at false (sym c.can_change.ensures ∙ t.if-can_change.false) in
          let same : c.if-can_change.self ≡ c.loop-entry.self = t.self-is in
          subst
          (λ (x : Replay). record {
            width : x.width ≡ w;
            noted : AreNoted w (views_of c.args.self.now) (changes_of es) → AreNoted w (views_of x) rest;
            views : all_next (views_of c.args.self.now) (changes_of es) ≡ all_next (views_of x) rest;
            rising : PairsRise c.args.self.now.names → PairsRise x.names;
          })
          (sym same)
          (record {
            width = was.width;
            noted = λ a. subst (AreNoted w v) split (was.noted a);
            views = was.views ∙ ap (all_next v) split;
            rising = was.rising;
          })
    ]
