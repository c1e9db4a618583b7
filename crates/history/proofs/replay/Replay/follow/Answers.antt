use Rattle.std.proofs.Common.{◌≡◌, ℕ, ◌+◌, drop, refl, sym, ap, ◌∙◌, subst, arith, []}
use Rattle.std.proofs.Math.ListN.{drop_of_length-le}
use Rattle.std.proofs.lemmas.Bool.{false≢true}
use Rattle.history.specs.Metadata.{views_of}
use Rattle.history.specs.Views.{Views, IsNoted, AreNoted, all_next}
use Rattle.history.proofs.Shapes.{noted_at, next_at}
use Rattle.history.proofs.replay.Replay.follow.Goals as goal

pub returns-then-not-expects-clause-variant : goal.returns-then-not-expects-clause-variant
returns-then-not-expects-clause-variant c =
    let w = c.args.self.now.width in
    let e = c.entry-item.result in
    let v = views_of c.loop-entry.self in
    let here = noted_at w v c.args.entries.now c.loop-entry.entry-index e c.loop-entry-test.true c.entry-item.is in (
      λ t. absurd (false≢true t),
      λ a. c.if-not-expects.ensures.1 (subst (λ (x : ℕ). IsNoted x v e) (sym c.loop-entry.invariant.width) (here.0 (c.loop-entry.invariant.noted.0 a)).0),
    )

pub loop-entry-preserved : goal.loop-entry-preserved
loop-entry-preserved c =
    let w = c.args.self.now.width in
    let v = views_of c.loop-entry.self in
    let e = c.entry-item.result in
    let i = c.loop-entry.entry-index in
    let es = c.args.entries.now in
    let here = noted_at w v es i e c.loop-entry-test.true c.entry-item.is in
    let is : IsNoted w v e = subst (λ (x : ℕ). IsNoted x v e) c.loop-entry.invariant.width (c.if-not-expects.ensures.0 refl) in
    let after = c.in_ok-apply.ensures.views in
    record {
      width = c.apply.ensures.width ∙ c.loop-entry.invariant.width;
      noted = (
        λ a. subst (λ (x : Views). AreNoted w x (drop (i + 1) es)) (sym after) (here.0 (c.loop-entry.invariant.noted.0 a)).1,
        λ b. c.loop-entry.invariant.noted.1 (here.1 (is, subst (λ (x : Views). AreNoted w x (drop (i + 1) es)) after b)),
      );
      views = c.loop-entry.invariant.views ∙ next_at v es i e c.loop-entry-test.true c.entry-item.is ∙ sym (ap (λ (x : Views). all_next x (drop (i + 1) es)) after);
    }

pub returns : goal.returns
returns c =
    let w = c.args.self.now.width in
    let v = views_of c.loop-entry.self in
    let none : drop c.loop-entry.entry-index c.args.entries.now ≡ [] = drop_of_length-le c.args.entries.now (omega arith) in
    record {
      variant = (λ t. c.loop-entry.invariant.noted.1 (subst (AreNoted w v) (sym none) tt), λ a. refl);
      views = λ t. sym (c.loop-entry.invariant.views ∙ ap (all_next v) none);
    }
