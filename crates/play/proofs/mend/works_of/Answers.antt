use Rattle.std.proofs.Common.{arith, refl}
use Rattle.std.proofs.lemmas.Grind.{common_steps}
use Rattle.play.proofs.Mending.{half-left, menders-more, rows-more, shares-more}
use Rattle.play.proofs.mend.works_of.Goals as goal

pub loop-pass-preserved : goal.loop-pass-preserved
loop-pass-preserved c =
    let works = c.loop-pass.works.items in
    let before = c.loop-pass.invariant in
    record {
      many = grind (arith, common_steps);
      room = grind (arith, common_steps);
      passes = grind (arith, common_steps);
      menders = rw c.push_reserved.ensures.items (menders-more c.args.plan.now.value.items.items c.args.tickets.now.value works _ before.menders
          (record { drawer_of = grind (arith, common_steps); tickets_are = grind (arith, common_steps); none = grind (arith, common_steps); plan_is = grind (arith, common_steps) }));
      rows = rw c.push_reserved.ensures.items (rows-more c.args.row works _ before.rows refl);
      tickets = grind (arith, common_steps);
      none = grind (arith, common_steps);
      shares = rw c.push_reserved.ensures.items (shares-more works _ c.loop-pass.drawer.allowance c.split.new.self.allowance before.shares (grind (arith, common_steps)) (grind (arith, common_steps)));
      half = λ _. half-left works c.loop-pass.drawer.allowance c.split.new.self.allowance before.shares (grind (arith, common_steps));
      all = grind (arith, common_steps);
    }
