use Rattle.std.proofs.Common.{◌≡◌, []}
use Rattle.mender.specs.Drawn.{IsIntact}
use Rattle.mender.specs.Worked.{Worked, AreInOrder}
use Rattle.mender.specs.Made.{AreMade}
use Rattle.mender.proofs.workers.repair_drawn.Given as goal

abbrev pub invariant-loop-ticket : goal.invariant-loop-ticket
invariant-loop-ticket g l = record {
  belongs : g.S.Mends.belongs l.store l.pass;
  tickets : l.drawer.tickets ≡ l.tickets;
  made : AreMade g.S.Mends.repaired l.initial.pass l.done.items l.pass;
  worked : Worked l.plan.items.items l.initial.drawer l.drawer l.done.items [];
  in_order : IsIntact l.initial.drawer → AreInOrder l.plan.items.items l.done.items;
}

abbrev pub decreases-loop-ticket : goal.decreases-loop-ticket
decreases-loop-ticket g l = l.drawer.allowance
