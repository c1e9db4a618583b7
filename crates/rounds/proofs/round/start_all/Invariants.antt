use Rattle.std.proofs.Common.{◌≡◌, ◌≤◌, ◌+◌, [], vec_len, map, ◌++◌, false}
use Rattle.std.specs.Prelude.{vec_capacity}
use Rattle.std.specs.Vec.Iter.{into_iter_items, into_iter_len}
use Rattle.rounds.specs.Rounds.{AreReady, work_of}
use Rattle.rounds.proofs.round.start_all.Given as goal

abbrev pub invariant-loop-work : goal.invariant-loop-work
invariant-loop-work g l = record {
  started_room : vec_len l.started + into_iter_len l.work-iterator ≤ vec_capacity l.started;
  left_room : vec_len l.left + into_iter_len l.work-iterator ≤ vec_capacity l.left;
  works : map work_of l.started.items ++ l.left.items ≡ l.yielded;
  ready : AreReady g.E.Errand.fits g.E.Errand.did g.E.Errand.paced l.store l.fn.pace (g.P.Pace.may_answer l.fn.pace) l.started.items;
  all : l.is_short ≡ false → l.left.items ≡ [];
  rest : l.fn.works.items ≡ l.yielded ++ into_iter_items l.work-iterator;
}
