use Rattle.std.proofs.Common.{◌∙◌, ap, arith, subst, sym}
use Rattle.std.proofs.lemmas.Grind.{common_steps}
use mathlib.Core.List.{IsPrefix}
use Rattle.history.specs.History.{History, state_of}
use Rattle.book.specs.Plan.{plan_of}
use Rattle.book.specs.Serial.{events_in}
use Rattle.play.proofs.MendingRound.{own_still, looked_alone}
use Rattle.play.proofs.mend.prepare.Goals as goal

pub new-requires-clause-own : goal.new-requires-clause-own
new-requires-clause-own g c =
    own_still c.join-first.result c.make_plan.new.pass (looked_alone c.join-first.result c.make_plan.new.pass c.in_ok-plan.ensures.takes c.join-first.ensures.room) c.join-first.ensures.own

pub returns-clause-prepared : goal.returns-clause-prepared
returns-clause-prepared g c =
    let old = c.args.pool.first in
    let joined = c.join-first.result in
    let takes = c.in_ok-plan.ensures.takes in
    let look = looked_alone joined c.make_plan.new.pass takes c.join-first.ensures.room in
    let split = c.in_ok-first.field-0 in
    let kept = c.in_ok-first.ensures.unchanged in
    record {
      passes = split.passes;
      fresh = c.in_ok-first.ensures.fresh;
      given = c.in_ok-works.ensures.passes;
      many = c.in_ok-first.ensures.many ∙ grind (arith, common_steps, c.requires.pool_is.rooms);
      seen = subst (IsPrefix old.acts) (sym (kept.0 ∙ look.0)) c.join-first.ensures.seen.1;
      did = kept.1 ∙ look.1 ∙ c.join-first.ensures.did;
      planned = c.in_ok-plan.ensures.plan ∙ ap (λ (h : History). plan_of (state_of h)) (takes.agrees.seen_is ∙ ap events_in (sym kept.0));
      menders = c.in_ok-works.ensures.menders;
      rows = c.in_ok-works.ensures.rows;
      drawer_of = c.in_ok-works.ensures.tickets;
      none = c.in_ok-works.ensures.none;
      shares = c.in_ok-works.ensures.shares;
      room = grind (arith, common_steps);
    }
