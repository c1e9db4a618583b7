use Rattle.std.proofs.Common.{◌≡◌, ◌+◌, ◌<◌, ◌++◌, length}
use Rattle.std.specs.Vec.Iter.{into_iter_items}
use mathlib.Core.List.{IsPrefix}
use Rattle.rounds.specs.Pools.{AreWorkers, IsAllOwn, HaveSeen, did_by}
use Rattle.rounds.proofs.pool.Pool.join.Given as goal

abbrev pub invariant-loop-pass : goal.invariant-loop-pass
invariant-loop-pass l = record {
  store : l.first.store ≡ l.store;
  workers : AreWorkers l.store (into_iter_items l.pass-iterator);
  rooms : l.first.room + length (into_iter_items l.pass-iterator) ≡ 64;
  did : l.first.did ≡ l.fn.self.first.did ++ did_by l.yielded;
  seen : HaveSeen l.first.acts l.yielded × IsPrefix l.fn.self.first.acts l.first.acts;
  own : 0 < length l.yielded → l.first.room ≡ 64 → IsAllOwn l.first;
  all : l.fn.self.passes.items ≡ l.yielded ++ into_iter_items l.pass-iterator;
}
