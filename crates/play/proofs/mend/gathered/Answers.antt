use Rattle.std.proofs.Common.{◌≡◌, ◌∷◌, ◌∙◌, Ok, ap, arith, subst, sym}
use Rattle.std.proofs.lemmas.Grind.{common_steps}
use Rattle.std.specs.Vec.Iter.{into_iter_items}
use Rattle.rounds.specs.declared.kinds.Mended.TheVariants.{Worked}
use Rattle.rounds.specs.declared.kinds.Returned.{Returned}
use Rattle.play.specs.Mends.{AreBack}
use Rattle.play.proofs.Halting.{are_ended}
use Rattle.play.proofs.Mending.{back_with, joined-more, all-more, drawn-once, mend-complete, or-none, stopped-more}
use Rattle.play.proofs.mend.gathered.Goals as goal

pub loop-outcome-preserved-in-Some-results_of : goal.loop-outcome-preserved-in-Some-results_of
loop-outcome-preserved-in-Some-results_of c =
    let plan = c.args.plan.now.items.items in
    let other = c.in-Some.outcome.drawer in
    let done = c.in-Some-results_of.done in
    let is : c.in-Some.outcome ≡ back_with other (Worked (Ok done)) = ap (back_with other) c.in-Some-results_of.ensures.done in
    let rest = into_iter_items c.next.new.self in
    let next : into_iter_items c.loop-outcome.outcome-iterator ≡ c.in-Some.outcome ∷ rest = grind (arith, common_steps) in
    let back = subst (AreBack plan c.args.tickets.now) (next ∙ ap (λ (o : Returned). o ∷ rest) is) c.loop-outcome.invariant.back in
    record {
      tickets = grind (arith, common_steps);
      back = back.1;
      hand = rw is (joined-more c.args.drawer c.loop-outcome.yielded c.loop-outcome.drawer c.join.new.self other (Worked (Ok done)) c.loop-outcome.invariant.hand
          c.join.ensures.both c.join.ensures.whole);
      all = λ not_full. rw is (all-more plan c.loop-outcome.yielded c.loop-outcome.all.items c.append.new.self.items other (Worked (Ok done))
          (c.loop-outcome.invariant.all not_full) back.0.1 c.in_ok-append-in-Some-results_of.ensures.items);
      stopped = rw is (stopped-more c.loop-outcome.yielded (back_with other (Worked (Ok done))) c.loop-outcome.is_full c.loop-outcome.is_full c.loop-outcome.invariant.stopped (sym (or-none c.loop-outcome.is_full)));
      outcomes = grind (arith, common_steps);
    }

pub unreachable-requires : goal.unreachable-requires
unreachable-requires c =
    let plan = c.args.plan.now.items.items in
    let are = c.loop-outcome.invariant.all c.if-is_full.false in
    let all : c.args.outcomes.items ≡ c.loop-outcome.yielded = grind (arith, common_steps) in
    let complete = mend-complete plan c.args.drawer c.loop-outcome.drawer c.loop-outcome.yielded c.loop-outcome.all.items c.requires.none (rw all at c.requires.shares) c.requires.room c.loop-outcome.invariant.hand are in
    let is = c.in-Err.ensures.complete complete in
    grind (arith, common_steps, is)

pub returns-then-is_full-clause-ended : goal.returns-then-is_full-clause-ended
returns-then-is_full-clause-ended c = are_ended c.args.outcomes.items c.requires.going

pub returns-in-Ok-clause-ended : goal.returns-in-Ok-clause-ended
returns-in-Ok-clause-ended c = are_ended c.args.outcomes.items c.requires.going

pub returns-then-is_full-clause-drawn : goal.returns-then-is_full-clause-drawn
returns-then-is_full-clause-drawn c =
    let all : c.args.outcomes.items ≡ c.loop-outcome.yielded = grind (arith, common_steps) in
    rw all (drawn-once c.args.drawer c.loop-outcome.drawer c.loop-outcome.yielded c.requires.none (rw all at c.requires.shares) c.loop-outcome.invariant.hand)

pub returns-in-Ok-clause-drawn : goal.returns-in-Ok-clause-drawn
returns-in-Ok-clause-drawn c =
    let all : c.args.outcomes.items ≡ c.loop-outcome.yielded = grind (arith, common_steps) in
    rw all (drawn-once c.args.drawer c.loop-outcome.drawer c.loop-outcome.yielded c.requires.none (rw all at c.requires.shares) c.loop-outcome.invariant.hand)
