use Rattle.std.proofs.Common.{◌≡◌, ◌≤◌, ◌+◌, vec_len, map, ◌++◌}
use Rattle.std.specs.Prelude.{vec_capacity}
use Rattle.std.specs.Vec.Iter.{into_iter_items, into_iter_len}
use Rattle.rounds.specs.Rounds.{DidAt, EachRan, work_of}
use Rattle.rounds.proofs.round.join_all.Given as goal

abbrev pub invariant-loop-one : goal.invariant-loop-one
invariant-loop-one g l =
    (vec_len l.rans + into_iter_len l.one-iterator ≤ vec_capacity l.rans) × EachRan (DidAt g.E.Errand.did g.E.Errand.paced (g.P.Pace.may_answer l.fn.pace)) (map work_of l.yielded) l.rans.items
    × (l.fn.started.items ≡ l.yielded ++ into_iter_items l.one-iterator)
