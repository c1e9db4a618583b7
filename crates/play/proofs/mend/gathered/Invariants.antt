use Rattle.std.proofs.Common.{◌≡◌, ◌++◌, false}
use Rattle.std.specs.Vec.Iter.{into_iter_items}
use Rattle.std.specs.List.{list_any}
use Rattle.play.specs.Mends.{AreBack, is_stopped}
use Rattle.play.proofs.Mending.{HasJoined, AreAll}
use Rattle.play.proofs.mend.gathered.Given as goal

abbrev pub invariant-loop-outcome : goal.invariant-loop-outcome
invariant-loop-outcome l = record {
  tickets : l.drawer.tickets ≡ l.tickets;
  back : AreBack l.plan.items.items l.tickets (into_iter_items l.outcome-iterator);
  hand : HasJoined l.fn.drawer l.yielded l.drawer;
  all : l.is_full ≡ false → AreAll l.plan.items.items l.yielded l.all.items;
  stopped : l.is_full ≡ list_any is_stopped l.yielded;
  outcomes : l.fn.outcomes.items ≡ l.yielded ++ into_iter_items l.outcome-iterator;
}
